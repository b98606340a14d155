-- Types of a kind, and how many numbers they have.
use Rattle.std.proofs.Common.{◌≡◌, ℕ, zero, suc, ◌*◌, ◌≤◌, ◌^◌, true, refl, sym, ap, ◌∙◌, subst, Option, None, Some, arith}
use Rattle.std.specs.Prelude.{◌&&◌, if◌then◌else◌, nat_eq, nat_lt, nat_le}
use Rattle.std.proofs.lemmas.Bool.Decides.{nat_tests}
use Rattle.rvc_base.specs.declared.scalar.Scalar.{Scalar}
use Rattle.rvc_base.specs.declared.scalar.Scalar.TheVariants as scalar
use Rattle.cal_model.specs.Value.{Kind, NumKind, BoolKind, ListKind, Shape, Single, Many, IsType, kind_of_scalar, kind_of_type, max_list_scalars, scalars_of_kind, scalars_of_type}
use Rattle.cal_model.specs.Kinding.{Fine, list_of_kind}
use Rattle.cal_model.proofs.KindValues.{both, list-of-kind, tested}
use Rattle.lower_base.specs.Growing.{where_one}
use Rattle.lower_base.specs.Parted.{alike, sized}
use Rattle.law_forms.specs.Lowerable.{IsLike}

-- ---- types of a kind

-- a type is of its own kind
pub like_own : (t : Shape) → IsLike t (kind_of_type t)
like_own (Single scalar.Bool) = tt
like_own (Single (scalar.Int n)) = tt
like_own (Single (scalar.Uint n)) = tt
like_own (Many n items) = (refl, like_own items)

-- .. and of each kind that is this one
pub like_kind : (t : Shape) (k : Kind) → kind_of_type t ≡ k → IsLike t k
like_kind t k e = subst (IsLike t) e (like_own t)

-- a kind of single values
abbrev pub IsOne : Kind → Type 0
IsOne NumKind = Unit {0}
IsOne BoolKind = Unit {0}
IsOne (ListKind n k) = ⊥

pub one_scalar : (s : Scalar) → IsOne (kind_of_scalar s)
one_scalar scalar.Bool = tt
one_scalar (scalar.Int n) = tt
one_scalar (scalar.Uint n) = tt

pub one_like : (s : Scalar) (k : Kind) → IsOne k → IsLike (Single s) k
one_like s NumKind h = tt
one_like s BoolKind h = tt
one_like s (ListKind n k) h = absurd h

pub like_one : (s : Scalar) (k : Kind) → IsLike (Single s) k → IsOne k
like_one s NumKind h = tt
like_one s BoolKind h = tt
like_one s (ListKind n k) h = absurd h

-- types of one kind differ in their single values alone
pub both_alike : (t u : Shape) (k : Kind) → IsLike t k → IsLike u k → alike t u ≡ true
both_alike (Single s) (Single r) k h i = refl
both_alike (Single s) (Many m others) NumKind h i = absurd i
both_alike (Single s) (Many m others) BoolKind h i = absurd i
both_alike (Single s) (Many m others) (ListKind j k) h i = absurd h
both_alike (Many n items) (Single r) NumKind h i = absurd h
both_alike (Many n items) (Single r) BoolKind h i = absurd h
both_alike (Many n items) (Single r) (ListKind j k) h i = absurd i
both_alike (Many n items) (Many m others) NumKind h i = absurd h
both_alike (Many n items) (Many m others) BoolKind h i = absurd h
both_alike (Many n items) (Many m others) (ListKind j k) h i =
    let same : n ≡ m = h.0 ∙ sym i.0 in
    let test : nat_eq n m ≡ true = grind (arith, nat_tests, same) in
    ap (λ b. b && alike items others) test ∙ both_alike items others k h.1 i.1

-- nothing is left out of a single value if nothing is left out of what gives it
pub where_none : (t : Shape) (k : Kind) (at : ℕ) (left : Option ℕ) → IsOne k → IsLike t k → left ≡ None → where_one t at left ≡ None
where_none (Single s) k at left o l e = e
where_none (Many n items) NumKind at left o l e = absurd l
where_none (Many n items) BoolKind at left o l e = absurd l
where_none (Many n items) (ListKind m k) at left o l e = absurd o

-- ---- how many numbers

-- lists of a kind have no more items and numbers than lists may have
abbrev pub IsWithin : Kind → Type 0
IsWithin NumKind = Unit {0}
IsWithin BoolKind = Unit {0}
IsWithin (ListKind n k) = (n ≤ max_list_scalars) × (n * scalars_of_kind k ≤ max_list_scalars) × IsWithin k

pub one_within : (k : Kind) → IsOne k → IsWithin k
one_within NumKind h = tt
one_within BoolKind h = tt
one_within (ListKind n k) h = absurd h

pub less_times : (n m : ℕ) → 1 ≤ m → n ≤ n * m
less_times n zero h = absurd (omega (arith, h))
less_times n (suc m) h = omega arith

pub some_scalars : (t : Shape) → IsType t → 1 ≤ scalars_of_type t
some_scalars (Single s) h = omega arith
some_scalars (Many n items) h =
    let some : 1 ≤ n = h.0 in
    let more : n ≤ n * scalars_of_type items = less_times n (scalars_of_type items) (some_scalars items h.2) in
    omega (arith, some, more)

pub scalars_same : (t : Shape) → scalars_of_kind (kind_of_type t) ≡ scalars_of_type t
scalars_same (Single scalar.Bool) = refl
scalars_same (Single (scalar.Int n)) = refl
scalars_same (Single (scalar.Uint n)) = refl
scalars_same (Many n items) = ap (λ k. n * k) (scalars_same items)

-- a list of a type has as few items as it may have numbers
pub few_items : (n : ℕ) (items : Shape) → IsType (Many n items) → n ≤ max_list_scalars
few_items n items h =
    let more : n ≤ n * scalars_of_type items = less_times n (scalars_of_type items) (some_scalars items h.2) in
    let low : n * scalars_of_type items ≤ max_list_scalars = h.1 in
    omega (arith, more, low)

pub type_within : (t : Shape) → IsType t → IsWithin (kind_of_type t)
type_within (Single s) h = one_within (kind_of_scalar s) (one_scalar s)
type_within (Many n items) h =
    (few_items n items h, subst (λ k. n * k ≤ max_list_scalars) (sym (scalars_same items)) h.1, type_within items h.2)

-- a list that has a kind is within this
pub list_few : (n at : ℕ) (k j : Kind) → list_of_kind n k at ≡ Fine j → (n ≤ max_list_scalars) × (n * scalars_of_kind k ≤ max_list_scalars)
list_few n at k j h =
    let test = tested (nat_le n max_list_scalars && nat_le (n * scalars_of_kind k) max_list_scalars) (Fine (ListKind n k)) _ at j h in
    let two = both (nat_le n max_list_scalars) (nat_le (n * scalars_of_kind k) max_list_scalars) test.0 in
    let one = two.0 in
    let other = two.1 in
    (grind (arith, nat_tests, one), grind (arith, nat_tests, other))

pub list_within : (n at : ℕ) (k j : Kind) → list_of_kind n k at ≡ Fine j → IsWithin k → IsWithin j
list_within n at k j h w =
    let few = list_few n at k j h in
    subst IsWithin (list-of-kind n k j at h) (few.0, few.1, w)

-- so 32 bits hold the number of numbers of its types
pub sized_like : (t : Shape) (k : Kind) → IsLike t k → IsWithin k → sized t ≡ Some (scalars_of_kind k)
sized_like (Single s) NumKind h w = refl
sized_like (Single s) BoolKind h w = refl
sized_like (Single s) (ListKind m k) h w = absurd h
sized_like (Many n items) NumKind h w = absurd h
sized_like (Many n items) BoolKind h w = absurd h
sized_like (Many n items) (ListKind m k) h w =
    let low : n * scalars_of_kind k ≤ max_list_scalars = subst (λ j. j * scalars_of_kind k ≤ max_list_scalars) (sym h.0) w.1 in
    let fits : nat_lt (n * scalars_of_kind k) (2 ^ 32) ≡ true = grind (arith, nat_tests, low) in
    ap (λ (o : Option ℕ). elim o [ None ↦ None | Some j ↦ if nat_lt (n * j) (2 ^ 32) then Some (n * j) else None ]) (sized_like items k h.1 w.2)
    ∙ ap (λ b. if b then Some (n * scalars_of_kind k) else None) fits ∙ ap (λ j. Some (j * scalars_of_kind k)) h.0

pub sized_type : (t : Shape) → IsType t → sized t ≡ Some (scalars_of_type t)
sized_type t h = sized_like t (kind_of_type t) (like_own t) (type_within t h) ∙ ap Some (scalars_same t)
