-- The loop of a worker: the places that it draws rise.
use Rattle.std.proofs.Common.{◌≡◌, ℕ, zero, suc, ◌+◌, ◌<◌, ◌≤◌, List, [], ◌∷◌, ◌++◌, All, refl, arith}

-- the place behind the last one that was drawn
abbrev pub next_of : List ℕ → ℕ
next_of [] = 0
next_of (n ∷ []) = n + 1
next_of (n ∷ (m ∷ ns)) = next_of (m ∷ ns)

-- what is drawn next is no lower
pub rises : (drawn : List ℕ) (r : ℕ) → All (λ (place : ℕ). place < r) drawn → next_of drawn ≤ r
rises [] r all = omega arith
rises (n ∷ []) r all = let low : n < r = all zero 0 (omega arith) in omega (arith, low)
rises (n ∷ (m ∷ ns)) r all = rises (m ∷ ns) r (λ k d lt. all (suc k) d (omega (arith, lt)))

pub goes_on : (drawn : List ℕ) (r : ℕ) → next_of (drawn ++ r ∷ []) ≡ r + 1
goes_on [] r = refl
goes_on (n ∷ []) r = refl
goes_on (n ∷ (m ∷ ns)) r = goes_on (m ∷ ns) r
