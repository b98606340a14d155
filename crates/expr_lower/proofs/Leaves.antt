-- Lists at any depth that are stored item by item.
use Rattle.std.proofs.Common.{◌≡◌, ℕ, zero, suc, ℤ, List, [], ◌∷◌, ◌++◌, length, refl, sym, ap, ◌∙◌, subst, Some, arith}
use Rattle.std.specs.Prelude.{slice_get}
use Rattle.rvc_base.specs.declared.scalar.Scalar.{Scalar}
use Rattle.rvc_base.specs.Arithmetic.{truth}
use Rattle.rvc_base.specs.Storing.{conv, IsSize}
use Rattle.cal_model.specs.Value.{Shape, Single, Many, Value, Num, Truth, Items, Values, Nil, Cons, count, stored, stored_each, HasKind, HaveKind, IsType, kind_of_type}
use Rattle.lower_base.specs.Flat.{flat, flat_all}
use Rattle.lower_base.proofs.Keeping.{flat_length, scalars_same}
use Rattle.lower_base.proofs.Singles.{IsSingleValue}
use Rattle.lower_base.proofs.Storing.{single_stored}
use Rattle.expr_lower.specs.Shaped.{AreShaped, IsShaped}
use Rattle.expr_lower.proofs.Shapes.{flat_shaped, shaped_single}
use Rattle.expr_lower.specs.ListStarting.{leaf_of}

pub single_number : (v : Value) → IsSingleValue v → (y : ℤ) × (flat v ≡ y ∷ [])
single_number (Num z) h = (z, refl)
single_number (Truth b) h = (truth b, refl)
single_number (Items vs) h = absurd h

pub leaf_size : (t : Shape) → IsType t → IsSize (leaf_of t)
leaf_size (Single t) h = h
leaf_size (Many n items) h = leaf_size items h.2

-- the numbers of one list are those of another, each stored in a type
abbrev pub AreConverted : Scalar → List ℤ → List ℤ → Type 0
AreConverted t zs ys = (j : ℕ) (z : ℤ) → slice_get zs j ≡ Some z → (y : ℤ) × (slice_get ys j ≡ Some y) × (z ≡ conv t y)

both_converted : (t : Scalar) (ps qs xs ys : List ℤ) → length ps ≡ length xs → AreConverted t ps xs → AreConverted t qs ys → AreConverted t (ps ++ qs) (xs ++ ys)
both_converted t [] qs [] ys same first second j z e = second j z e
both_converted t [] qs (x ∷ xs) ys same first second j z e = absurd (omega (arith, same))
both_converted t (p ∷ ps) qs [] ys same first second j z e = absurd (omega (arith, same))
both_converted t (p ∷ ps) qs (x ∷ xs) ys same first second zero z e = first zero z e
both_converted t (p ∷ ps) qs (x ∷ xs) ys same first second (suc j) z e = both_converted t ps qs xs ys (omega (arith, same)) (λ i w g. first (suc i) w g) second j z e

one_converted : (t : Scalar) (ps xs : List ℤ) (y : ℤ) → ps ≡ conv t y ∷ [] → xs ≡ y ∷ [] → AreConverted t ps xs
one_converted t ps xs y e f = subst (λ qs. AreConverted t qs xs) (sym e) (subst (λ ys. AreConverted t (conv t y ∷ []) ys) (sym f) (λ j z g. only j z g))
  where
    only : (j : ℕ) (z : ℤ) → slice_get (conv t y ∷ []) j ≡ Some z → (x : ℤ) × (slice_get (y ∷ []) j ≡ Some x) × (z ≡ conv t x)
    only zero z g = (y, refl, cc)
    only (suc j) z g = cc

mutual
  pub stored_leaf : (t : Shape) (v : Value) → IsShaped t v → IsType t → HasKind (kind_of_type t) (stored t v) × AreConverted (leaf_of t) (flat (stored t v)) (flat v)
  stored_leaf (Single t) v h typed =
      let one = single_number v (shaped_single t v h) in
      let made = single_stored t v one.0 typed (shaped_single t v h) one.1 in
      (made.0, one_converted t (flat (stored (Single t) v)) (flat v) one.0 made.1 one.1)
  stored_leaf (Many n items) (Num z) h typed = absurd h
  stored_leaf (Many n items) (Truth b) h typed = absurd h
  stored_leaf (Many n items) (Items vs) h typed =
      let all = stored_leaves items vs h.1 typed.2 in
      ((all.0 ∙ h.0, all.1), all.2)

  pub stored_leaves : (t : Shape) (vs : Values) → AreShaped t vs → IsType t → (count (stored_each t vs) ≡ count vs) × HaveKind (kind_of_type t) (stored_each t vs) × AreConverted (leaf_of t) (flat_all (stored_each t vs)) (flat_all vs)
  stored_leaves t Nil h typed = (refl, tt, λ j z e. cc)
  stored_leaves t (Cons v vs) h typed =
      let one = stored_leaf t v h.0 typed in
      let rest = stored_leaves t vs h.1 typed in
      let same : length (flat (stored t v)) ≡ length (flat v) = flat_length (kind_of_type t) (stored t v) one.0 ∙ scalars_same t ∙ sym (flat_shaped t v h.0) in
      (ap suc rest.0, (one.0, rest.1), both_converted (leaf_of t) (flat (stored t v)) (flat_all (stored_each t vs)) (flat v) (flat_all vs) same one.1 rest.2)
