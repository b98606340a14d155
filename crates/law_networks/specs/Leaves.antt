-- The actors of a bound network: where each stands, its path, and the values of its parameters.
-- Trusted: part of what a promise means.
use Rattle.std.specs.Prelude.{◌≡◌, ℕ, List, [], ◌∷◌, ◌++◌, map, None, Some, Contains, slice_get}
use Rattle.cal_check.specs.Variables.{Given}
use Rattle.fnl_read.specs.Net.{Instance}
use Rattle.fnl_tree.specs.Tree.{Binding, Leaf}
use Rattle.fnl_bind.specs.Library.{Entry, instance_at, instance_class, instance_class_at, instance_id, network_of}
use Rattle.fnl_bind.specs.Trees.{bound, violations}
use Rattle.law_networks.specs.Chains.{GivesValues, HaveIds, StandsAt, path_of}

-- the value of a parameter, as an actor is bound to it
abbrev pub binding : Given → Binding
binding g = record {
  name = g.name;
  value = g.value;
  place = record { file = g.place.file; offset = g.place.at };
}

-- An actor stands at the end of a chain of instances: its path is the row of their ids, and its parameters are bound to
-- the values that the last instance gives, where the network of that instance is given its own values along the chain.
pub record StandsInChain (library : List Entry) (top : Entry) (leaf : Leaf) : Type 0 where
  pub ids : List (List ℕ)
  pub network : Entry
  pub given : List Given
  pub stands : StandsAt library top ids network given
  -- the last instance, whose class is that of no network
  pub last : Instance
  pub is_instance : Contains network.net.instances last
  pub is_actor : network_of (instance_class last) library ≡ None
  pub values : List Given
  pub gives : GivesValues network given last values
  -- what is told of it
  pub path : leaf.path ≡ path_of (ids ++ instance_id last ∷ [])
  pub bindings : leaf.bindings ≡ map binding values
  pub class : leaf.class ≡ instance_class last
  pub class_at : leaf.class_at ≡ record { file = network.file; offset = instance_class_at last }
  pub instance_at : leaf.instance_at ≡ record { file = network.file; offset = instance_at last }

-- each actor does
abbrev pub LeavesStandInChains : Type 0
LeavesStandInChains = (library : List Entry) (class : List ℕ) (top : Entry) (leaf : Leaf)
    → network_of class library ≡ Some top → HaveIds library
    → Contains (bound library class).leaves leaf → StandsInChain library top leaf

-- no two actors have one path, if the networks break no rule
abbrev pub PathsDiffer : Type 0
PathsDiffer = (library : List Entry) (class : List ℕ) (top : Entry) (j k : ℕ) (a b : Leaf)
    → network_of class library ≡ Some top → HaveIds library → violations library class ≡ []
    → slice_get (bound library class).leaves j ≡ Some a
    → slice_get (bound library class).leaves k ≡ Some b
    → a.path ≡ b.path → j ≡ k
