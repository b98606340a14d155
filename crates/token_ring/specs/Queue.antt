-- A queue of tokens, in the order in which they came.
-- Trusted: part of what a promise means.
use Rattle.std.specs.Prelude.{ℕ, ℤ, List}

-- the tokens, the first that came first, and how many there may be
pub record Queue : Type 0 where
  pub tokens : List ℤ
  pub capacity : ℕ
