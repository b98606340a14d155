-- A type that is judged over constants is the type that is meant at run time.
use Rattle.std.proofs.Common.{◌≡◌, ℕ, zero, suc, ◌≤◌, ℤ, pos, negsuc, Bool, true, false, ◌&&◌, List, [], ◌∷◌, codes, refl, ap, subst, arith, Option, None, Some}
use Rattle.std.specs.Prelude.{if◌then◌else◌, nat_le}
use Rattle.std.specs.Str.{bytes_eq}
use Rattle.std.proofs.lemmas.Bool.{leb-true}
use Rattle.rvc_base.specs.declared.scalar.Scalar.{Scalar}
use Rattle.rvc_base.specs.declared.scalar.Scalar.TheVariants as scalar
use Rattle.rvc_base.specs.Storing.{IsSize}
use Rattle.rvc_base.specs.Width.{default_size, max_size}
use Rattle.rvc_base.specs.Rules.{unsupported_type, wrong_type_argument}
use Rattle.cal_model.specs.Value.{Shape, Single, Many, Num, IsType, scalars_of_type, max_list_scalars}
use Rattle.cal_model.specs.Expression.{bits, list_of, type_named, size_of_value}
use Rattle.cal_model.specs.Kinding.{Fine, Broken, Argument, OfShape, OfSize, bits_of, number_type, truth_type, list_type_of, list_type, type_with}
use Rattle.cal_model.specs.Keeping.{given_by}
use Rattle.cal_model.proofs.KindValues.{not-fine, fine-is, tested, both}

-- each type among arguments is one whose sizes are allowed
abbrev pub AreTypesIn : List Argument → Type 0
AreTypesIn [] = Unit {0}
AreTypesIn (OfShape name t ∷ args) = IsType t × AreTypesIn args
AreTypesIn (OfSize name z ∷ args) = AreTypesIn args

-- what a name with arguments is judged to be is a type, and is what is meant
abbrev IsMeant : Option Shape → Shape → Type 0
IsMeant o t = (o ≡ Some t) × IsType t

within-bits : (b : Bool) (f : ℕ → Scalar) (n at : ℕ) (t : Shape) → (nat_le 1 n && nat_le n max_size) ≡ b → (if b then Fine (Single (f n)) else Broken wrong_type_argument at) ≡ Fine t
    → ((m : ℕ) → 1 ≤ m → m ≤ max_size → IsSize (f m)) → IsMeant (if b then Some (Single (f n)) else None) t
within-bits true f n at t e h sized =
    let parts = both (nat_le 1 n) (nat_le n max_size) e in
    let same = fine-is (Single (f n)) t h in
    (ap Some same, subst IsType same (sized n (leb-true 1 n parts.0) (leb-true n max_size parts.1)))
within-bits false f n at t e h sized = absurd (not-fine wrong_type_argument at t h)

bits-meant : (z : ℤ) (f : ℕ → Scalar) (at : ℕ) (t : Shape) → bits_of z f at ≡ Fine t → ((m : ℕ) → 1 ≤ m → m ≤ max_size → IsSize (f m))
    → IsMeant (bits (size_of_value (Num z)) (λ n. Single (f n))) t
bits-meant (pos n) f at t h sized = within-bits (nat_le 1 n && nat_le n max_size) f n at t refl h sized
bits-meant (negsuc n) f at t h sized = absurd (not-fine _ at t h)

number-meant : (args : List Argument) (f : ℕ → Scalar) (at : ℕ) (t : Shape) → number_type args f at ≡ Fine t → ((m : ℕ) → 1 ≤ m → m ≤ max_size → IsSize (f m))
    → IsMeant (bits (given_by args).size (λ n. Single (f n))) t
number-meant [] f at t h sized =
    let same = fine-is (Single (f default_size)) t h in
    (ap Some same, subst IsType same (sized default_size (omega arith) (omega arith)))
number-meant (OfSize name z ∷ []) f at t h sized = bits-meant z f at t (tested (bytes_eq name (codes "size")) (bits_of z f at) _ at t h).1 sized
number-meant (OfSize name z ∷ a ∷ args) f at t h sized = absurd (not-fine _ at t h)
number-meant (OfShape name u ∷ args) f at t h sized = absurd (not-fine _ at t h)

truth-meant : (args : List Argument) (at : ℕ) (t : Shape) → truth_type args at ≡ Fine t → IsMeant (Some (Single scalar.Bool)) t
truth-meant [] at t h = let same = fine-is (Single scalar.Bool) t h in (ap Some same, subst IsType same tt)
truth-meant (a ∷ args) at t h = absurd (not-fine _ at t h)

list-meant-of : (u : Shape) (z : ℤ) (at : ℕ) (t : Shape) → list_type_of u z at ≡ Fine t → IsType u
    → IsMeant (list_of (record { items = Some u; size = size_of_value (Num z) })) t
list-meant-of u (pos zero) at t h i = absurd (not-fine _ at t h)
list-meant-of u (negsuc n) at t h i = absurd (not-fine _ at t h)
list-meant-of u (pos (suc n)) at t h i =
    let parts = tested (nat_le (scalars_of_type (Many (suc n) u)) max_list_scalars) (Fine (Many (suc n) u)) _ at t h in
    let same = fine-is (Many (suc n) u) t parts.1 in
    (ap Some same, subst IsType same (omega arith, leb-true (scalars_of_type (Many (suc n) u)) max_list_scalars parts.0, i))

list-meant : (args : List Argument) (at : ℕ) (t : Shape) → list_type args at ≡ Fine t → AreTypesIn args → IsMeant (list_of (given_by args)) t
list-meant (OfShape name u ∷ OfSize other z ∷ []) at t h i =
    list-meant-of u z at t (tested (bytes_eq name (codes "type") && bytes_eq other (codes "size")) (list_type_of u z at) _ at t h).1 i.0
list-meant (OfSize other z ∷ OfShape name u ∷ []) at t h i =
    list-meant-of u z at t (tested (bytes_eq name (codes "type") && bytes_eq other (codes "size")) (list_type_of u z at) _ at t h).1 i.0
list-meant args at t h i = absurd (not-fine _ at t h)

named : (b c d e : Bool) (args : List Argument) (at : ℕ) (t : Shape)
    → (if b then truth_type args at else if c then number_type args (λ n. scalar.Int n) at else if d then number_type args (λ n. scalar.Uint n) at else if e then list_type args at else Broken unsupported_type at) ≡ Fine t
    → AreTypesIn args
    → IsMeant (if b then Some (Single scalar.Bool) else if c then bits (given_by args).size (λ n. Single (scalar.Int n)) else if d then bits (given_by args).size (λ n. Single (scalar.Uint n)) else if e then list_of (given_by args) else None) t
named true c d e args at t h i = truth-meant args at t h
named false true d e args at t h i = number-meant args (λ n. scalar.Int n) at t h (λ m j k. (j, k))
named false false true e args at t h i = number-meant args (λ n. scalar.Uint n) at t h (λ m j k. (j, k))
named false false false true args at t h i = list-meant args at t h i
named false false false false args at t h i = absurd (not-fine _ at t h)

pub type-meant : (name : List ℕ) (args : List Argument) (at : ℕ) (t : Shape) → type_with name args at ≡ Fine t → AreTypesIn args
    → (type_named name (given_by args) ≡ Some t) × IsType t
type-meant name args at t h i =
    named (bytes_eq name (codes "bool")) (bytes_eq name (codes "int")) (bytes_eq name (codes "uint")) (bytes_eq name (codes "List")) args at t h i
