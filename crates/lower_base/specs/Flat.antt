-- Values as numbers side by side.
-- Trusted: part of what a promise means.
use Rattle.std.specs.Prelude.{ℕ, zero, suc, ℤ, pos, List, [], ◌∷◌, ◌++◌, drop}
use Rattle.rvc_base.specs.Arithmetic.{is_true, truth}
use Rattle.cal_model.specs.Value.{Kind, NumKind, BoolKind, ListKind, Value, Num, Truth, Items, Values, Nil, Cons, scalars_of_kind}

-- the numbers of a value: a truth value is 0 or 1, and a list is its items one after the other
abbrev mutual
  pub flat : Value → List ℤ
  flat (Num z) = z ∷ []
  flat (Truth b) = truth b ∷ []
  flat (Items vs) = flat_all vs

  pub flat_all : Values → List ℤ
  flat_all Nil = []
  flat_all (Cons v vs) = flat v ++ flat_all vs

-- ---- and back

abbrev pub first_number : List ℤ → ℤ
first_number [] = pos 0
first_number (z ∷ zs) = z

-- n values of so many numbers each
abbrev pub many_of : ℕ → ℕ → (List ℤ → Value) → List ℤ → Values
many_of zero size item zs = Nil
many_of (suc n) size item zs = Cons (item zs) (many_of n size item (drop size zs))

-- the value of a kind that begins a list of numbers
abbrev pub of_flat : Kind → List ℤ → Value
of_flat NumKind zs = Num (first_number zs)
of_flat BoolKind zs = Truth (is_true (first_number zs))
of_flat (ListKind n items) zs = Items (many_of n (scalars_of_kind items) (of_flat items) zs)
