-- Values of a type but for the sizes of its numbers.
-- Trusted: part of what a promise means.
use Rattle.std.specs.Prelude.{◌≡◌}
use Rattle.rvc_base.specs.Width.{IsNum}
use Rattle.cal_model.specs.Value.{Shape, Single, Many, Value, Num, Truth, Items, Values, Nil, Cons, count}

abbrev mutual
  -- a number of the language or a truth value for a single one, and lists of as many items
  pub IsShaped : Shape → Value → Type 0
  IsShaped (Single t) (Num z) = IsNum z
  IsShaped (Single t) (Truth b) = Unit {0}
  IsShaped (Many n items) (Items vs) = (count vs ≡ n) × AreShaped items vs
  IsShaped t v = ⊥

  pub AreShaped : Shape → Values → Type 0
  AreShaped t Nil = Unit {0}
  AreShaped t (Cons v vs) = IsShaped t v × AreShaped t vs
