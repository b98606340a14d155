-- A value that passes the test of a kind, once it is stored.
use Rattle.std.proofs.Common.{◌≡◌, ℕ, suc, Bool, true, false, refl, ap, ◌∙◌, arith}
use Rattle.std.specs.Prelude.{◌==◌, if◌then◌else◌}
use Rattle.rvc_base.specs.declared.scalar.Scalar.TheVariants as scalar
use Rattle.cal_model.specs.Value.{Kind, NumKind, BoolKind, ListKind, Shape, Single, Many, Value, Num, Truth, Items, Values, Nil, Cons, count, kind_of_type, stored, stored_each, HasKind, HaveKind, IsOf, AreOf, IsType}
use Rattle.cal_model.proofs.Stored.{conv-in-range}
use Rattle.cal_model.proofs.KindValues.{of-type}
use Rattle.cal_check.specs.Constants.{has_kind, have_kind}
use Rattle.std.proofs.lemmas.Bool.Decides.{nat_tests}

-- ---- tests

both : (a b : Bool) → (if a then b else false) ≡ true → (a ≡ true) × (b ≡ true)
both true b h = (refl, h)
both false b h = cc

same_count : (m n : ℕ) → (m == n) ≡ true → m ≡ n
same_count m n h = grind (arith, nat_tests)

same_passes : (m n : ℕ) (b : Bool) → m ≡ n → b ≡ true → (if m == n then b else false) ≡ true
same_passes m n b e h =
    let t : (m == n) ≡ true = grind (arith, nat_tests) in
    ap (λ c. if c then b else false) t ∙ h

mutual
  pub test_passes : (k : Kind) (v : Value) → HasKind k v → has_kind k v ≡ true
  test_passes NumKind (Num z) h = refl
  test_passes BoolKind (Truth b) h = refl
  test_passes (ListKind n k) (Items vs) h = same_passes (count vs) n (have_kind k vs) h.0 (tests_pass k vs h.1)
  test_passes NumKind (Truth b) h = absurd h
  test_passes NumKind (Items vs) h = absurd h
  test_passes BoolKind (Num z) h = absurd h
  test_passes BoolKind (Items vs) h = absurd h
  test_passes (ListKind n k) (Num z) h = absurd h
  test_passes (ListKind n k) (Truth b) h = absurd h

  tests_pass : (k : Kind) (vs : Values) → HaveKind k vs → have_kind k vs ≡ true
  tests_pass k Nil h = refl
  tests_pass k (Cons v vs) h = ap (λ b. if b then have_kind k vs else false) (test_passes k v h.0) ∙ tests_pass k vs h.1

-- ---- stored values

count_stored : (t : Shape) (vs : Values) → count (stored_each t vs) ≡ count vs
count_stored t Nil = refl
count_stored t (Cons v vs) = ap suc (count_stored t vs)

mutual
  pub stored_is_of : (v : Value) (t : Shape) → IsType t → has_kind (kind_of_type t) v ≡ true → IsOf t (stored t v)
  stored_is_of (Num z) (Single scalar.Bool) h k = cc
  stored_is_of (Num z) (Single (scalar.Int n)) h k = conv-in-range (scalar.Int n) z h
  stored_is_of (Num z) (Single (scalar.Uint n)) h k = conv-in-range (scalar.Uint n) z h
  stored_is_of (Num z) (Many n items) h k = cc
  stored_is_of (Truth b) (Single scalar.Bool) h k = tt
  stored_is_of (Truth b) (Single (scalar.Int n)) h k = cc
  stored_is_of (Truth b) (Single (scalar.Uint n)) h k = cc
  stored_is_of (Truth b) (Many n items) h k = cc
  stored_is_of (Items vs) (Single scalar.Bool) h k = cc
  stored_is_of (Items vs) (Single (scalar.Int n)) h k = cc
  stored_is_of (Items vs) (Single (scalar.Uint n)) h k = cc
  stored_is_of (Items vs) (Many n items) h k =
      let p = both (count vs == n) (have_kind (kind_of_type items) vs) k in
      (count_stored items vs ∙ same_count (count vs) n p.0, stored_are_of vs items h.2 p.1)

  stored_are_of : (vs : Values) (t : Shape) → IsType t → have_kind (kind_of_type t) vs ≡ true → AreOf t (stored_each t vs)
  stored_are_of Nil t h k = tt
  stored_are_of (Cons v vs) t h k =
      let p = both (has_kind (kind_of_type t) v) (have_kind (kind_of_type t) vs) k in
      (stored_is_of v t h p.0, stored_are_of vs t h p.1)

pub kept_has_kind : (v : Value) (t : Shape) → IsType t → has_kind (kind_of_type t) v ≡ true → HasKind (kind_of_type t) (stored t v)
kept_has_kind v t h k = of-type (stored t v) t h (stored_is_of v t h k)
