-- The numbers of values of a type but for the sizes of its numbers.
use Rattle.std.proofs.Common.{◌≡◌, ℕ, zero, suc, ◌+◌, ◌*◌, ◌<◌, ◌⊎◌, inl, inr, ⊎_elim, ℤ, List, [], ◌∷◌, ◌++◌, length, Bool, true, false, refl, sym, ap, ◌∙◌, subst, Some, arith, append_assoc, length-append}
use Rattle.std.specs.Prelude.{slice_get, nat_eq, ◌&&◌}
use Rattle.std.proofs.lemmas.Bool.Decides.{nat_tests}
use Rattle.rvc_base.specs.declared.scalar.Scalar.{Scalar}
use Rattle.cal_model.specs.Value.{Shape, Single, Many, Value, Num, Truth, Items, Values, Nil, Cons, count, joined, HasKind, HaveKind, kind_of_type, scalars_of_type}
use Rattle.lower_base.specs.declared.names.Seat.TheVariants.{Cell}
use Rattle.lower_base.specs.Flat.{flat, flat_all}
use Rattle.lower_base.specs.Held.{StandAt}
use Rattle.lower_base.proofs.Singles.{IsSingleValue, kind_single}
use Rattle.expr_lower.specs.Filling.{alike}
use Rattle.expr_lower.specs.Shaped.{IsShaped, AreShaped}

-- ---- single values

pub single_shaped : (t : Scalar) (v : Value) → IsSingleValue v → IsShaped (Single t) v
single_shaped t (Num z) h = h
single_shaped t (Truth b) h = tt
single_shaped t (Items vs) h = absurd h

pub shaped_single : (t : Scalar) (v : Value) → IsShaped (Single t) v → IsSingleValue v
shaped_single t (Num z) h = h
shaped_single t (Truth b) h = tt
shaped_single t (Items vs) h = absurd h

-- ---- how many numbers

mutual
  pub flat_shaped : (t : Shape) (v : Value) → IsShaped t v → length (flat v) ≡ scalars_of_type t
  flat_shaped (Single t) (Num z) h = refl
  flat_shaped (Single t) (Truth b) h = refl
  flat_shaped (Single t) (Items vs) h = absurd h
  flat_shaped (Many n items) (Num z) h = absurd h
  flat_shaped (Many n items) (Truth b) h = absurd h
  flat_shaped (Many n items) (Items vs) h = all_shaped items vs h.1 ∙ ap (λ m. m * scalars_of_type items) h.0

  pub all_shaped : (t : Shape) (vs : Values) → AreShaped t vs → length (flat_all vs) ≡ count vs * scalars_of_type t
  all_shaped t Nil h = let e : 0 ≡ 0 * scalars_of_type t = omega arith in e
  all_shaped t (Cons v vs) h =
      let first = flat_shaped t v h.0 in
      let rest = all_shaped t vs h.1 in
      let e : suc (count vs) * scalars_of_type t ≡ scalars_of_type t + count vs * scalars_of_type t = omega arith in
      omega (arith, length-append (flat v) (flat_all vs), first, rest, e)

-- ---- values of a kind

both_true : (a b : Bool) → a && b ≡ true → (a ≡ true) × (b ≡ true)
both_true true true e = (refl, refl)
both_true true false e = cc
both_true false b e = cc

mutual
  pub kind_shaped : (t u : Shape) (v : Value) → alike t u ≡ true → HasKind (kind_of_type u) v → IsShaped t v
  kind_shaped (Single t) (Single u) v e h = single_shaped t v (kind_single u v h)
  kind_shaped (Single t) (Many n items) v e h = cc
  kind_shaped (Many n items) (Single u) v e h = cc
  kind_shaped (Many n items) (Many m others) (Num z) e h = absurd h
  kind_shaped (Many n items) (Many m others) (Truth b) e h = absurd h
  kind_shaped (Many n items) (Many m others) (Items vs) e h =
      let both = both_true (nat_eq n m) (alike items others) e in
      let same : n ≡ m = let one = both.0 in grind (arith, nat_tests, one) in
      (h.0 ∙ sym same, kinds_shaped items others vs both.1 h.1)

  kinds_shaped : (t u : Shape) (vs : Values) → alike t u ≡ true → HaveKind (kind_of_type u) vs → AreShaped t vs
  kinds_shaped t u Nil e h = tt
  kinds_shaped t u (Cons v vs) e h = (kind_shaped t u v e h.0, kinds_shaped t u vs e h.1)

pub alike_sizes : (t u : Shape) → alike t u ≡ true → scalars_of_type t ≡ scalars_of_type u
alike_sizes (Single t) (Single u) e = refl
alike_sizes (Single t) (Many n items) e = cc
alike_sizes (Many n items) (Single u) e = cc
alike_sizes (Many n items) (Many m others) e =
    let both = both_true (nat_eq n m) (alike items others) e in
    let same : n ≡ m = let one = both.0 in grind (arith, nat_tests, one) in
    ap (λ k. k * scalars_of_type items) same ∙ ap (λ k. m * k) (alike_sizes items others both.1)

-- ---- two lists of values

pub joined_count : (vs ws : Values) → count (joined vs ws) ≡ count vs + count ws
joined_count Nil ws = omega arith
joined_count (Cons v vs) ws = ap suc (joined_count vs ws) ∙ omega arith

pub joined_flat : (vs ws : Values) → flat_all (joined vs ws) ≡ flat_all vs ++ flat_all ws
joined_flat Nil ws = refl
joined_flat (Cons v vs) ws = ap (λ zs. flat v ++ zs) (joined_flat vs ws) ∙ sym (append_assoc (flat v) (flat_all vs) (flat_all ws))

pub joined_shaped : (t : Shape) (vs ws : Values) → AreShaped t vs → AreShaped t ws → AreShaped t (joined vs ws)
joined_shaped t Nil ws h g = g
joined_shaped t (Cons v vs) ws h g = (h.0, joined_shaped t vs ws h.1 g)

-- a number of two lists is one of the first or of the second
get_two : (xs ys : List ℤ) (j : ℕ) (z : ℤ) → slice_get (xs ++ ys) j ≡ Some z → ((j < length xs) × (slice_get xs j ≡ Some z)) ⊎ ((i : ℕ) × (j ≡ length xs + i) × (slice_get ys i ≡ Some z))
get_two [] ys j z e = inr (j, omega arith, e)
get_two (x ∷ xs) ys zero z e = inl (omega arith, e)
get_two (x ∷ xs) ys (suc j) z e =
    ⊎_elim (λ (h : (j < length xs) × (slice_get xs j ≡ Some z)). inl (let l = h.0 in omega (arith, l), h.1))
    (λ (h : (i : ℕ) × (j ≡ length xs + i) × (slice_get ys i ≡ Some z)). inr (h.0, let l = h.1 in omega (arith, l), h.2)) (get_two xs ys j z e)

-- numbers side by side
pub stand_two : (c : ℕ) (tokens : ℕ → List ℤ) (cells xs ys : List ℤ) → StandAt (Cell c) tokens cells xs → StandAt (Cell (c + length xs)) tokens cells ys → StandAt (Cell c) tokens cells (xs ++ ys)
stand_two c tokens cells xs ys first second j z e =
    ⊎_elim (λ (h : (j < length xs) × (slice_get xs j ≡ Some z)). first j z h.1)
    (λ (h : (i : ℕ) × (j ≡ length xs + i) × (slice_get ys i ≡ Some z)).
    let is = h.1 in
    let at : c + length xs + h.0 ≡ c + j = omega (arith, is) in
    subst (λ d. slice_get cells d ≡ Some z) at (second h.0 z h.2)) (get_two xs ys j z e)
