-- Tests for equal values, and for leaves that give equal ones.
-- Trusted: part of what a promise means, that of `give_same`.
use Rattle.std.specs.Prelude.{ℤ, Bool, true, false, ◌&&◌, List, [], ◌∷◌}
use Rattle.std.specs.Ordering.{int_eq}
use Rattle.std.specs.Str.{bytes_eq}
use Rattle.cal_model.specs.Value.{Value, Num, Truth, Items, Values, Nil, Cons}
use Rattle.fnl_tree.specs.Tree.{Binding}

abbrev pub same_truth : Bool → Bool → Bool
same_truth true b = b
same_truth false true = false
same_truth false false = true

abbrev pub is_number : ℤ → Value → Bool
is_number z (Num w) = int_eq z w
is_number z (Truth b) = false
is_number z (Items ws) = false

abbrev pub is_truth : Bool → Value → Bool
is_truth a (Num w) = false
is_truth a (Truth b) = same_truth a b
is_truth a (Items ws) = false

abbrev mutual
  pub is_equal : Value → Value → Bool
  is_equal (Num z) other = is_number z other
  is_equal (Truth b) other = is_truth b other
  is_equal (Items vs) (Num w) = false
  is_equal (Items vs) (Truth b) = false
  is_equal (Items vs) (Items ws) = are_equal vs ws

  pub are_equal : Values → Values → Bool
  are_equal Nil Nil = true
  are_equal Nil (Cons w ws) = false
  are_equal (Cons v vs) Nil = false
  are_equal (Cons v vs) (Cons w ws) = is_equal v w && are_equal vs ws

-- a parameter is given an equal value
abbrev pub gives_same : Binding → Binding → Bool
gives_same b c = bytes_eq b.name c.name && is_equal b.value c.value

abbrev pub give_same : List Binding → List Binding → Bool
give_same [] [] = true
give_same [] (c ∷ cs) = false
give_same (b ∷ bs) [] = false
give_same (b ∷ bs) (c ∷ cs) = gives_same b c && give_same bs cs
