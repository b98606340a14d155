-- A type that has a size is allowed, and has as many numbers.
use Rattle.std.proofs.Common.{◌≡◌, ℕ, ◌*◌, ◌≤◌, Bool, true, false, refl, sym, ap, ◌∙◌, subst, Option, None, Some, arith}
use Rattle.std.specs.Prelude.{if◌then◌else◌, nat_le, ◌&&◌}
use Rattle.std.proofs.lemmas.Bool.Decides.{nat_tests}
use Rattle.rvc_base.specs.declared.scalar.Scalar.{Scalar}
use Rattle.rvc_base.specs.declared.scalar.Scalar.TheVariants as scalar
use Rattle.rvc_base.specs.Storing.{IsSize}
use Rattle.rvc_base.specs.Width.{max_size}
use Rattle.cal_model.specs.Value.{Shape, Single, Many, IsType, max_list_scalars, scalars_of_type}
use Rattle.lower_base.specs.Types.{is_size, numbers_of_items, type_size}

both_true : (a b : Bool) → a && b ≡ true → (a ≡ true) × (b ≡ true)
both_true true true e = (refl, refl)
both_true true false e = cc
both_true false b e = cc

size_is : (t : Scalar) → is_size t ≡ true → IsSize t
size_is scalar.Bool e = tt
size_is (scalar.Int n) e = let b = both_true (nat_le 1 n) (nat_le n max_size) e in let x = b.0 in let y = b.1 in (grind (arith, nat_tests, x), grind (arith, nat_tests, y))
size_is (scalar.Uint n) e = let b = both_true (nat_le 1 n) (nat_le n max_size) e in let x = b.0 in let y = b.1 in (grind (arith, nat_tests, x), grind (arith, nat_tests, y))

-- so many items have so many numbers, and are allowed as many
record AreItems (n k : ℕ) (of : Option ℕ) : Type 0 where
  each : ℕ
  is_each : of ≡ Some each
  all : n * each ≡ k
  some : 1 ≤ n
  few : k ≤ max_list_scalars

items_are : (n k : ℕ) (of : Option ℕ) → numbers_of_items n of ≡ Some k → AreItems n k of
items_are n k None e = cc
items_are n k (Some each) e = go (nat_le 1 n && nat_le (n * each) max_list_scalars) refl e
  where
    go : (b : Bool) → nat_le 1 n && nat_le (n * each) max_list_scalars ≡ b → ◌≡◌ {A = Option ℕ} (if b then Some (n * each) else None) (Some k) → AreItems n k (Some each)
    go true is h =
        let t = both_true (nat_le 1 n) (nat_le (n * each) max_list_scalars) is in
        let low = t.0 in
        let high = t.1 in
        let same : n * each ≡ k = cc in
        record { each = each; is_each = refl; all = same; some = grind (arith, nat_tests, low); few = subst (λ m. m ≤ max_list_scalars) same (grind (arith, nat_tests, high)) }
    go false is h = cc

pub size_typed : (t : Shape) (k : ℕ) → type_size t ≡ Some k → IsType t × (scalars_of_type t ≡ k)
size_typed (Single t) k e = go (is_size t) refl e
  where
    go : (b : Bool) → is_size t ≡ b → ◌≡◌ {A = Option ℕ} (if b then Some 1 else None) (Some k) → IsType (Single t) × (scalars_of_type (Single t) ≡ k)
    go true is h = let same : 1 ≡ k = cc in (size_is t is, same)
    go false is h = cc
size_typed (Many n items) k e =
    let f : AreItems n k (type_size items) = items_are n k (type_size items) e in
    let inner = size_typed items f.each f.is_each in
    let all : scalars_of_type (Many n items) ≡ k = ap (λ m. n * m) inner.1 ∙ f.all in
    ((f.some, subst (λ m. m ≤ max_list_scalars) (sym all) f.few, inner.0), all)
