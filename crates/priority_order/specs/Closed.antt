-- The table of what is above what by declared pairs.
-- Trusted but for `IsClosed`: part of what a promise means.
use Rattle.std.specs.Prelude.{◌≡◌, ℕ, ◌*◌, ◌<◌, List, Bool, length, IsTrue, All, ◌↔◌}
use Rattle.rvc_base.specs.Chain.{IsAbove}
use Rattle.priority_order.specs.Ranking.{cell}

-- each pair is of numbers below n
abbrev pub IsInRange : List (ℕ × ℕ) → ℕ → Type 0
IsInRange pairs n = All (λ pair. (pair.0 < n) × (pair.1 < n)) pairs

-- the table says exactly where a chain leads
pub record IsClosed (pairs : List (ℕ × ℕ)) (n : ℕ) (cells : List Bool) : Type 0 where
  pub size : length cells ≡ n * n
  pub chains : (a b : ℕ) → a < n → b < n → IsTrue (cell n cells a b) ↔ IsAbove pairs a b
