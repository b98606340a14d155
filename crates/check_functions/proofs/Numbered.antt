-- Numbers of names in an order.
use Rattle.std.proofs.Common.{◌≡◌, ℕ, zero, suc, ◌<◌, ◌≤◌, Bool, true, false, ◌||◌, List, [], ◌∷◌, ◌++◌, length, refl, sym, ap, ◌∙◌, arith}
use Rattle.std.specs.Prelude.{Some, slice_get, if◌then◌else◌}
use Rattle.std.specs.Str.{bytes_eq}
use Rattle.cal_model.specs.Tags.{is_seen, number_of_name}
use Rattle.cal_model.proofs.KindNames.{text-same}

pub seen_within : (x : List ℕ) (names : List (List ℕ)) → is_seen x names ≡ true → number_of_name x names < length names
seen_within x [] h = cc
seen_within x (y ∷ names) h = go (bytes_eq y x) h (λ i. seen_within x names i)
  where
    go : (b : Bool) → (b || is_seen x names) ≡ true → (is_seen x names ≡ true → number_of_name x names < length names)
        → (if b then 0 else suc (number_of_name x names)) < suc (length names)
    go true h less = omega arith
    go false h less = let l = less h in omega (arith, l)

pub within_seen : (x : List ℕ) (names : List (List ℕ)) → number_of_name x names < length names → is_seen x names ≡ true
within_seen x [] l = absurd (omega (arith, l))
within_seen x (y ∷ names) l = go (bytes_eq y x) l (λ i. within_seen x names i)
  where
    go : (b : Bool) → (if b then 0 else suc (number_of_name x names)) < suc (length names) → (number_of_name x names < length names → is_seen x names ≡ true)
        → (b || is_seen x names) ≡ true
    go true l less = refl
    go false l less = less (omega (arith, l))

pub unseen_last : (x : List ℕ) (names : List (List ℕ)) → is_seen x names ≡ false → number_of_name x names ≡ length names
unseen_last x [] h = refl
unseen_last x (y ∷ names) h = go (bytes_eq y x) h (λ i. unseen_last x names i)
  where
    go : (b : Bool) → (b || is_seen x names) ≡ false → (is_seen x names ≡ false → number_of_name x names ≡ length names)
        → (if b then 0 else suc (number_of_name x names)) ≡ suc (length names)
    go true h less = cc
    go false h less = ap suc (less h)

pub number_most : (x : List ℕ) (names : List (List ℕ)) → number_of_name x names ≤ length names
number_most x names = go (is_seen x names) refl
  where
    go : (b : Bool) → is_seen x names ≡ b → number_of_name x names ≤ length names
    go true e = let l = seen_within x names e in omega (arith, l)
    go false e = let l = unseen_last x names e in omega (arith, l)

-- ---- a name more

pub still_numbered : (x : List ℕ) (names more : List (List ℕ)) → is_seen x names ≡ true → number_of_name x (names ++ more) ≡ number_of_name x names
still_numbered x [] more h = cc
still_numbered x (y ∷ names) more h = go (bytes_eq y x) h (λ i. still_numbered x names more i)
  where
    go : (b : Bool) → (b || is_seen x names) ≡ true → (is_seen x names ≡ true → number_of_name x (names ++ more) ≡ number_of_name x names)
        → (if b then 0 else suc (number_of_name x (names ++ more))) ≡ (if b then 0 else suc (number_of_name x names))
    go true h less = refl
    go false h less = ap suc (less h)

pub last_number : (z : List ℕ) (names : List (List ℕ)) → is_seen z names ≡ false → number_of_name z (names ++ z ∷ []) ≡ length names
last_number z [] h = ap (λ b. if b then 0 else 1) (text-same z)
last_number z (y ∷ names) h = go (bytes_eq y z) h (λ i. last_number z names i)
  where
    go : (b : Bool) → (b || is_seen z names) ≡ false → (is_seen z names ≡ false → number_of_name z (names ++ z ∷ []) ≡ length names)
        → (if b then 0 else suc (number_of_name z (names ++ z ∷ []))) ≡ suc (length names)
    go true h less = cc
    go false h less = ap suc (less h)

-- a name that wasn't among others is the last one
pub seen_last_of : (x z : List ℕ) (names : List (List ℕ)) → is_seen x names ≡ false → is_seen x (names ++ z ∷ []) ≡ true → bytes_eq z x ≡ true
seen_last_of x z [] h i = go (bytes_eq z x) i
  where
    go : (b : Bool) → (b || false) ≡ true → b ≡ true
    go true i = refl
    go false i = i
seen_last_of x z (y ∷ names) h i = go (bytes_eq y x) h i (λ j k. seen_last_of x z names j k)
  where
    go : (b : Bool) → (b || is_seen x names) ≡ false → (b || is_seen x (names ++ z ∷ [])) ≡ true → (is_seen x names ≡ false → is_seen x (names ++ z ∷ []) ≡ true → bytes_eq z x ≡ true) → bytes_eq z x ≡ true
    go true h i less = cc
    go false h i less = less h i

-- ---- the name at a number

pub number_first : (k : ℕ) (z x : List ℕ) (names : List (List ℕ)) → slice_get names k ≡ Some z → bytes_eq z x ≡ true → number_of_name x names ≤ k
number_first k z x [] h e = cc
number_first zero z x (y ∷ names) h e =
    let same : y ≡ z = cc in
    let here : bytes_eq y x ≡ true = ap (λ n. bytes_eq n x) same ∙ e in
    let is : (if bytes_eq y x then 0 else suc (number_of_name x names)) ≡ 0 = ap (λ b. if b then 0 else suc (number_of_name x names)) here in
    omega (arith, is)
number_first (suc k) z x (y ∷ names) h e = go (bytes_eq y x) (number_first k z x names h e)
  where
    go : (b : Bool) → number_of_name x names ≤ k → (if b then 0 else suc (number_of_name x names)) ≤ suc k
    go true l = omega arith
    go false l = omega (arith, l)

pub at_number : (k : ℕ) (z x : List ℕ) (names : List (List ℕ)) → slice_get names k ≡ Some z → number_of_name x names ≡ k → bytes_eq z x ≡ true
at_number k z x [] h e = cc
at_number zero z x (y ∷ names) h e = go (bytes_eq y x) e (ap (λ n. bytes_eq n x) same)
  where
    same : y ≡ z
    same = cc

    go : (b : Bool) → (if b then 0 else suc (number_of_name x names)) ≡ 0 → b ≡ bytes_eq z x → bytes_eq z x ≡ true
    go true e is = sym is
    go false e is = absurd (omega (arith, e))
at_number (suc k) z x (y ∷ names) h e = go (bytes_eq y x) e (λ i. at_number k z x names h i)
  where
    go : (b : Bool) → (if b then 0 else suc (number_of_name x names)) ≡ suc k → (number_of_name x names ≡ k → bytes_eq z x ≡ true) → bytes_eq z x ≡ true
    go true e less = absurd (omega (arith, e))
    go false e less = less (omega (arith, e))
