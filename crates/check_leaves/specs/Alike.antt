-- Leaves that are one actor, wherever they stand.
-- Trusted: part of what a promise means.
use Rattle.std.specs.Prelude.{◌≡◌, ℕ, List, map}
use Rattle.cal_model.specs.Value.{Value}
use Rattle.fnl_tree.specs.Tree.{Binding, Leaf}

-- the name of a parameter and the value that it is given, wherever that is written
abbrev pub named_value : Binding → List ℕ × Value
named_value b = (b.name, b.value)

-- they have one class, and give the same parameters equal values, in one order
pub record AreAlike (leaf other : Leaf) : Type 0 where
  pub class : leaf.class ≡ other.class
  pub values : map named_value leaf.bindings ≡ map named_value other.bindings
