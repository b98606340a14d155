-- A walk over networks from the top down: what it has found, and what is still to come of the networks that are open.
-- Not trusted: no promise is read with it.
use Rattle.std.specs.Prelude.{◌≡◌, ℕ, zero, suc, ◌+◌, ◌<◌, ◌≤◌, false, List, [], ◌∷◌, ◌++◌, length, map, Some}
use Rattle.net_model.specs.Limits.{max_instances}
use Rattle.cal_model.specs.Sound.{Each}
use Rattle.cal_check.specs.Variables.{Spot, Found}
use Rattle.fnl_read.specs.Net.{Net, Instance}
use Rattle.fnl_tree.specs.Tree.{Part, Net as BoundNet}
use Rattle.fnl_bind.specs.Library.{Entry, network_of, is_among, instance_id, instance_class}
use Rattle.fnl_bind.specs.Networks.{Place, Standing, standing_as}
use Rattle.fnl_bind.specs.Trees.{Grown, Filled, nothing_filled, filled_by, found_standing, found_at, grown_at, instances_at, instances_inside, words}
use Rattle.fnl_values.specs.Visiting.{Visit}

-- a network that is open, with the instances that weren't visited yet
pub record Open : Type 0 where
  pub file : ℕ
  pub path : List ℕ
  -- its place in the tree
  pub number : ℕ
  -- how many networks may still stand in each other inside it
  pub levels : ℕ
  pub visits : List Visit

-- the networks that are open, the innermost first, with their classes, and what was found
pub record Walk : Type 0 where
  pub open_nets : List Open
  pub above : List (List ℕ)
  pub grown : Grown

-- the classes of the networks round the innermost one
abbrev pub outside : List (List ℕ) → List (List ℕ)
outside [] = []
outside (class ∷ classes) = classes

-- ---- what an instance is

abbrev pub no_net : Net
no_net =
    record { name = []; ports = []; decls = []; instances = []; connections = []; at = 0 }

-- where an open network stands
abbrev pub place_at : ℕ → List ℕ → List (List ℕ) → Place
place_at file path above = record {
  entry = record { class = []; file = file; net = no_net };
  given = [];
  owner = words;
  above = above;
  path = path;
}

abbrev pub place_of : Open → List (List ℕ) → Place
place_of o above = place_at o.file o.path above

abbrev pub standing_of : List Entry → Place → Visit → Standing
standing_of library p v =
    standing_as p v.instance (network_of (instance_class v.instance) library) (Some v.given)

abbrev pub instances_of : List Visit → List Instance
instances_of vs = map (λ v. v.instance) vs

-- ---- the rules that are broken in what is to come

abbrev pub found_visits : (Place → List Found) → List Entry → Place → List Visit → List Found
found_visits inner library p [] = []
found_visits inner library p (v ∷ vs) =
    found_standing inner (standing_of library p v) ++ found_visits inner library p vs

abbrev pub found_in_open : List Entry → Open → List (List ℕ) → List Found
found_in_open library o above =
    found_visits (found_at o.levels library) library (place_of o above) o.visits

abbrev pub found_left : List Entry → List Open → List (List ℕ) → List Found
found_left library [] above = []
found_left library (o ∷ os) above =
    found_in_open library o above ++ found_left library os (outside above)

-- ---- the instances to come

abbrev pub spots_in_open : List Entry → Open → List (List ℕ) → List Spot
spots_in_open library o above =
    instances_inside (instances_at o.levels library) library o.file (instances_of o.visits) above

abbrev pub spots_left : List Entry → List Open → List (List ℕ) → List Spot
spots_left library [] above = []
spots_left library (o ∷ os) above =
    spots_in_open library o above ++ spots_left library os (outside above)

-- ---- the tree

-- the parts of the network of a number, with these behind them
abbrev pub with_parts : ℕ → List Part → List BoundNet → List BoundNet
with_parts k ps [] = []
with_parts zero ps (n ∷ ns) = record n { parts = n.parts ++ ps } ∷ ns
with_parts (suc k) ps (n ∷ ns) = n ∷ with_parts k ps ns

-- what was found, with what else an open network is filled with
abbrev pub with_filled : ℕ → Filled → Grown → Grown
with_filled number f g = record {
  nets = with_parts number f.parts g.nets ++ f.grown.nets;
  leaves = g.leaves ++ f.grown.leaves;
}

abbrev pub filled_visits : (Place → ℕ → ℕ → Grown) → List Entry → Place → List Visit → ℕ → ℕ → Filled
filled_visits inner library p [] net leaf = nothing_filled
filled_visits inner library p (v ∷ vs) net leaf =
    filled_by inner (instance_id v.instance) (standing_of library p v)
    (filled_visits inner library p vs) net leaf

abbrev pub filled_open : List Entry → Open → List (List ℕ) → ℕ → ℕ → Filled
filled_open library o above net leaf =
    filled_visits (grown_at o.levels library) library (place_of o above) o.visits net leaf

-- what is found in the end
abbrev pub finished : List Entry → List Open → List (List ℕ) → Grown → Grown
finished library [] above g = g
finished library (o ∷ os) above g =
    finished library os (outside above)
    (with_filled o.number (filled_open library o above (length g.nets) (length g.leaves)) g)

-- ---- what stays so

-- its number is one of so many, and nothing in it is a network in which it stands
pub record IsOpen (count : ℕ) (above : List (List ℕ)) (o : Open) : Type 0 where
  pub is_net : o.number < count
  pub no_circle : Each (λ v. is_among (instance_class v.instance) above ≡ false) o.visits

abbrev pub AreOpen : ℕ → List (List ℕ) → List Open → Type 0
AreOpen count above [] = Unit {0}
AreOpen count above (o ∷ os) = IsOpen count above o × AreOpen count (outside above) os

-- how many networks and actors there are; the top is no instance
abbrev pub count_of : Grown → ℕ
count_of g = length g.nets + length g.leaves

pub record IsSteady (w : Walk) : Type 0 where
  pub are_open : AreOpen (length w.grown.nets) w.above w.open_nets
  pub few : count_of w.grown ≤ suc max_instances
