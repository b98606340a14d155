-- A network with the values of its parameters: the rules that it breaks, and what it is (ISO/IEC 23001-4, FNL).
--
-- Its declarations are judged as those of an actor are: each sees those before it, a parameter has the value that it is
-- given or else its default, and a value is stored in the declared type.
-- Trusted: part of what a promise means.
use Rattle.std.specs.Prelude.{ℕ, Bool, true, false, List, [], ◌∷◌, ◌++◌, map, codes, Option, None, Some}
use Rattle.cal_model.specs.Kinding.{Names}
use Rattle.cal_check.specs.Violations.{Violation, said}
use Rattle.cal_check.specs.Variables.{Spot, Found, found_in, Given, VarDecl, Valued, none_yet, seen, valued}
use Rattle.cal_check.specs.Actors.{given_wrongly}
use Rattle.fnl_read.specs.Net.{Instance}
use Rattle.rvc_base.specs.declared.refusal.Place.{Place as FilePlace}
use Rattle.fnl_tree.specs.Tree.{Binding, Part, Net as BoundNet, Leaf}
use Rattle.fnl_bind.specs.Library.{Entry, network_of, ports_of, var_decls, params_of, instance_id, instance_class, instance_class_at, instance_parameters, instance_at}
use Rattle.fnl_bind.specs.Scopes.{scope_broken}
use Rattle.fnl_bind.specs.Values.{values_broken, all_given, ends_of, wires_of}

-- a network where it stands
pub record Place : Type 0 where
  pub entry : Entry
  -- the values that its parameters are given, and where those are missed that have none
  pub given : List Given
  pub owner : Spot
  -- the classes of the networks in which it stands, its own among them
  pub above : List (List ℕ)
  pub path : List ℕ

abbrev pub decls_at : Place → List VarDecl
decls_at p = var_decls p.entry.file p.entry.net.decls

-- its parameters and variables with their values
abbrev pub valued_at : Place → Valued
valued_at p = valued (decls_at p) p.given p.owner [] none_yet

abbrev pub names_at : Place → Names
names_at p = seen [] (valued_at p).known

-- ---- the rules that it breaks

-- behind the declarations, of which each has a type
abbrev pub behind_decls : Bool → Place → List Violation
behind_decls true p =
    values_broken p.entry.net.ports p.entry.net.instances p.entry.net.connections (names_at p)
behind_decls false p = []

abbrev pub values_found : Place → List Found
values_found p =
    given_wrongly p.given [] (params_of (decls_at p)) ++ ((valued_at p).breaks
    ++ found_in p.entry.file
    (said (valued_at p).useless (behind_decls (valued_at p).whole p)))

abbrev pub found_behind : List Violation → Place → List Found
found_behind [] p = values_found p
found_behind (v ∷ vs) p = found_in p.entry.file (v ∷ vs)

-- Its values are judged if it breaks none of the rules of scope.
abbrev pub own_found : Place → List Found
own_found p = found_behind (scope_broken p.entry.net p.entry.class p.above) p

-- ---- what stands in it

-- an instance is a network, or an actor, or nothing if it lacks a value
pub data Standing : Type 0 where
  StandsNet : Place → Standing
  StandsLeaf : Leaf → Standing
  StandsNot : Standing

-- `/` between the ids of instances
abbrev pub path_under : List ℕ → List ℕ → List ℕ
path_under [] id = id
path_under (b ∷ bs) id = (b ∷ bs) ++ (codes "/" ++ id)

abbrev pub spot_in : Place → ℕ → Spot
spot_in p at = record { file = p.entry.file; at = at }

abbrev pub net_under : Place → Instance → Entry → List Given → Place
net_under p i e gs = record {
  entry = e;
  given = gs;
  owner = spot_in p (instance_at i);
  above = e.class ∷ p.above;
  path = path_under p.path (instance_id i);
}

abbrev pub offset_in : Place → ℕ → FilePlace
offset_in p at = record { file = p.entry.file; offset = at }

abbrev pub binding_of : Given → Binding
binding_of g = record {
  name = g.name;
  value = g.value;
  place = record { file = g.place.file; offset = g.place.at };
}

abbrev pub leaf_under : Place → Instance → List Given → Leaf
leaf_under p i gs = record {
  path = path_under p.path (instance_id i);
  class = instance_class i;
  class_at = offset_in p (instance_class_at i);
  instance_at = offset_in p (instance_at i);
  bindings = map binding_of gs;
}

abbrev pub standing_as : Place → Instance → Option Entry → Option (List Given) → Standing
standing_as p i (Some e) (Some gs) = StandsNet (net_under p i e gs)
standing_as p i None (Some gs) = StandsLeaf (leaf_under p i gs)
standing_as p i entry None = StandsNot

abbrev pub standing : List Entry → Place → Instance → Standing
standing library p i =
    standing_as p i (network_of (instance_class i) library)
    (all_given p.entry.file (instance_parameters i) (names_at p))

-- what the network is, with these parts
abbrev pub net_with : Place → List Part → BoundNet
net_with p parts = record {
  file = p.entry.file;
  path = p.path;
  ins = ends_of (ports_of true p.entry.net.ports) (names_at p);
  outs = ends_of (ports_of false p.entry.net.ports) (names_at p);
  parts = parts;
  wires = wires_of p.entry.net.connections (names_at p);
}
