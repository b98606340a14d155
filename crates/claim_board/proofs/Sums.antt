-- Sums over lists that change at one place, and how often a number stands in a list.
use Rattle.std.proofs.Common.{◌≡◌, ◌≢◌, ℕ, zero, suc, ◌+◌, ◌<◌, ◌≤◌, List, [], ◌∷◌, ◌++◌, set, sym, refl, ap, cond, eqb, eq-eqb, ne_eqb, ltb, lt-ltb, le-ltb, lt_of_not-le, arith}
use mathlib.Core.Logic.{dite}
use native.Mathlib.Decide.{ℕ_discrete, dec_le}
use mathlib.Core.Option.{some, some-injective, some-ne-none}
use lib.ListN.{get_elem?}
use Rattle.claim_board.specs.Counts.{total, times, past, once_below}

module _ {A : Type 0} (f : A → ℕ) where
  pub total-append : (xs ys : List A) → total f (xs ++ ys) ≡ total f xs + total f ys
  total-append [] ys = omega arith
  total-append (x ∷ xs) ys = omega (arith, total-append xs ys)

  pub total-set : (xs : List A) (k : ℕ) (v w : A) → get_elem? xs k ≡ some v → total f (set xs k w) + f v ≡ total f xs + f w
  total-set [] k v w e = absurd (some-ne-none v (sym e))
  total-set (x ∷ xs) zero v w e = omega (arith, ap f (some-injective x v e))
  total-set (x ∷ xs) (suc k) v w e = omega (arith, total-set xs k v w e)

  pub term_le : (xs : List A) (k : ℕ) (v : A) → get_elem? xs k ≡ some v → f v ≤ total f xs
  term_le [] k v e = absurd (some-ne-none v (sym e))
  term_le (x ∷ xs) zero v e = omega (arith, ap f (some-injective x v e))
  term_le (x ∷ xs) (suc k) v e = omega (arith, term_le xs k v e)

  pub terms_le : (xs : List A) (j k : ℕ) (v u : A) → k ≢ j → get_elem? xs j ≡ some v → get_elem? xs k ≡ some u → f v + f u ≤ total f xs
  terms_le [] j k v u n e d = absurd (some-ne-none v (sym e))
  terms_le (x ∷ xs) zero zero v u n e d = absurd (n refl)
  terms_le (x ∷ xs) zero (suc k) v u n e d = omega (arith, ap f (some-injective x v e), term_le xs k u d)
  terms_le (x ∷ xs) (suc j) zero v u n e d = omega (arith, ap f (some-injective x u d), term_le xs j v e)
  terms_le (x ∷ xs) (suc j) (suc k) v u n e d = omega (arith, terms_le xs j k v u (λ h. n (ap suc h)) e d)

module _ {A : Type 0} (f g : A → ℕ) where
  pub total-le : (xs : List A) → ((k : ℕ) (v : A) → get_elem? xs k ≡ some v → f v ≤ g v) → total f xs ≤ total g xs
  total-le [] h = omega arith
  total-le (x ∷ xs) h = omega (arith, h 0 x refl, total-le xs (λ k v e. h (suc k) v e))

pub times-append : (n : ℕ) (xs ys : List ℕ) → times n (xs ++ ys) ≡ times n xs + times n ys
times-append n xs ys = total-append (λ m. cond (eqb m n) 1 0) xs ys

pub times-same : (n m : ℕ) → m ≡ n → times n (m ∷ []) ≡ 1
times-same n m e = ap (λ b. cond b 1 0 + 0) (eq-eqb m n e)

pub times-other : (n m : ℕ) → m ≢ n → times n (m ∷ []) ≡ 0
times-other n m ne = ap (λ b. cond b 1 0 + 0) (ne_eqb m n ne)

pub past-append : (places : ℕ) (xs ys : List ℕ) → past places (xs ++ ys) ≡ past places xs + past places ys
past-append places xs ys = total-append (λ m. cond (ltb m places) 0 1) xs ys

pub past-place : (places n : ℕ) → n < places → past places (n ∷ []) ≡ 0
past-place places n h = ap (λ b. cond b 0 1 + 0) (lt-ltb n places h)

pub past-past : (places n : ℕ) → places ≤ n → past places (n ∷ []) ≡ 1
past-past places n h = ap (λ b. cond b 0 1 + 0) (le-ltb n places h)

-- if each number is a place, none is past the last
pub past-none : (places : ℕ) (xs : List ℕ) → ((n : ℕ) → 0 < times n xs → n < places) → past places xs ≡ 0
past-none places [] h = refl
past-none places (x ∷ xs) h =
    let here : 0 < times x (x ∷ xs) = omega (arith, times-append x (x ∷ []) xs, times-same x x refl) in
    let rest = past-none places xs (λ n some. h n (omega (arith, times-append n (x ∷ []) xs))) in
    omega (arith, past-append places (x ∷ []) xs, past-place places x (h x here))

pub once-within : (count n : ℕ) → n < count → once_below count n ≡ 1
once-within count n h = ap (λ b. cond b 1 0) (lt-ltb n count h)

pub once-beyond : (count n : ℕ) → count ≤ n → once_below count n ≡ 0
once-beyond count n h = ap (λ b. cond b 1 0) (le-ltb n count h)

pub once-at_most : (count n : ℕ) → once_below count n ≤ 1
once-at_most count n = dite (dec_le count n) (λ h. omega (arith, once-beyond count n h)) (λ h. omega (arith, once-within count n (lt_of_not-le h)))

-- what was drawn lies below the count
pub once-some : (count n : ℕ) → 0 < once_below count n → n < count
once-some count n h = dite (dec_le count n) (λ le. absurd (omega (arith, once-beyond count n le))) (λ no. lt_of_not-le no)

-- the next number
pub once-next : (count n : ℕ) → once_below (count + 1) n ≡ once_below count n + times n (count ∷ [])
once-next count n = dite (ℕ_discrete count n)
    (λ e. omega (arith, once-within (count + 1) n (omega arith), once-beyond count n (omega arith), times-same n count e))
    (λ ne. dite (dec_le count n)
    (λ le. omega (arith, once-beyond (count + 1) n (omega (arith, ne)), once-beyond count n le, times-other n count ne))
    (λ no. omega (arith, once-within (count + 1) n (omega (arith, lt_of_not-le no)), once-within count n (lt_of_not-le no), times-other n count ne)))
