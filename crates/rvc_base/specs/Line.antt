-- The line of the numbers below n, some of which stand above others.
-- Trusted: part of what a promise means.
use Rattle.std.specs.Prelude.{ℕ, ◌<◌, ◌≤◌, List, length, take, slice_index, Contains}

-- b may stand next: it doesn't stand yet, and each number below n that is above it does
pub record MayStand (n : ℕ) (Above : ℕ → ℕ → Type 0) (Stands : ℕ → Type 0) (b : ℕ) : Type 0 where
  pub in_range : b < n
  pub new : ¬ Stands b
  pub after : (a : ℕ) → a < n → Above a b → Stands a

-- b is the least number that may stand next
pub record IsNext (n : ℕ) (Above : ℕ → ℕ → Type 0) (Stands : ℕ → Type 0) (b : ℕ) : Type 0 where
  pub may : MayStand n Above Stands b
  pub least : (c : ℕ) → MayStand n Above Stands c → b ≤ c

-- each number below n stands in the line, and at each place the least that may stand there, once those
-- before it stand
pub record IsLine (n : ℕ) (Above : ℕ → ℕ → Type 0) (line : List ℕ) : Type 0 where
  pub each : (a : ℕ) → a < n → Contains line a
  pub next : (k : ℕ) → k < length line
      → IsNext n Above (Contains (take k line)) (slice_index line k)
