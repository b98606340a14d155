-- Fractions in lowest terms.
use Rattle.std.specs.Prelude.{◌≡◌, ℕ, ◌*◌, ◌≤◌}

-- p to q is x to y in lowest terms: two numbers t and u with x t = y u are the same multiple of q and of p
pub record IsLowest (x y p q : ℕ) : Type 0 where
  pub over : 1 ≤ p
  pub under : 1 ≤ q
  pub same : x * q ≡ y * p
  pub multiples : (t u : ℕ) → x * t ≡ y * u → (s : ℕ) × (t ≡ s * q) × (u ≡ s * p)
