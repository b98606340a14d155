-- Sizes of types that are allowed, and kinds of types.
use Rattle.std.proofs.Common.{◌≡◌, ℕ, ◌*◌, ◌≤◌, Bool, true, refl, ap, ◌∙◌, Option, None, Some, arith}
use Rattle.std.specs.Prelude.{◌&&◌, nat_le, if◌then◌else◌}
use Rattle.std.proofs.lemmas.Bool.Decides.{nat_tests}
use Rattle.rvc_base.specs.declared.scalar.Scalar.{Scalar}
use Rattle.rvc_base.specs.declared.scalar.Scalar.TheVariants as scalar
use Rattle.rvc_base.specs.Storing.{IsSize}
use Rattle.rvc_base.specs.Width.{max_size}
use Rattle.cal_model.specs.Value.{Shape, Single, Many, IsType, kind_of_scalar, max_list_scalars, scalars_of_type}
use Rattle.lower_base.specs.Growing.{one, ◌or_else◌}
use Rattle.lower_base.specs.Types.{is_size, numbers_of_items, type_size}
use Rattle.law_forms.specs.Lowerable.{IsLike}

-- ---- of two that may be left out

pub none_both : (x y : Option ℕ) → x ≡ None → y ≡ None → (x or_else y) ≡ None
none_both x y p q = ap (λ o. o or_else y) p ∙ q

pub none_first : (x y : Option ℕ) → (x or_else y) ≡ None → x ≡ None
none_first None y e = refl
none_first (Some a) y e = cc

pub none_second : (x y : Option ℕ) → (x or_else y) ≡ None → y ≡ None
none_second None y e = e
none_second (Some a) y e = cc

-- ---- kinds

pub one_like : (t : Scalar) → IsLike one (kind_of_scalar t)
one_like scalar.Bool = tt
one_like (scalar.Int n) = tt
one_like (scalar.Uint n) = tt

-- ---- sizes

within : (a b c d : ℕ) → a ≤ b → c ≤ d → (nat_le a b && nat_le c d) ≡ true
within a b c d p q = grind (arith, nat_tests)

size_is : (t : Scalar) → IsSize t → is_size t ≡ true
size_is scalar.Bool h = refl
size_is (scalar.Int n) h = within 1 n n max_size h.0 h.1
size_is (scalar.Uint n) h = within 1 n n max_size h.0 h.1

pub type_size_of : (t : Shape) → IsType t → type_size t ≡ Some (scalars_of_type t)
type_size_of (Single t) h = ap (λ b. if b then Some 1 else None) (size_is t h)
type_size_of (Many n items) h =
    ap (numbers_of_items n) (type_size_of items h.2)
    ∙ ap (λ b. if b then Some (n * scalars_of_type items) else None) (within 1 n (n * scalars_of_type items) max_list_scalars h.0 h.1)
