-- What holds of all vectors that balance links.
-- Trusted: part of what a promise means.
use Rattle.std.specs.Prelude.{◌≡◌, ℕ, ◌+◌, ◌*◌, ◌<◌, List}
use Rattle.balanced_rates.specs.declared.link.RatedLink.{RatedLink}
use Rattle.balanced_rates.specs.Balance.{IsBalanced, IsLeast}

-- two least vectors are one
abbrev pub LeastIsOne : Type 0
LeastIsOne = (n : ℕ) (links : List RatedLink) (firings others : ℕ → ℕ) → IsLeast n links firings
    → IsLeast n links others → (leaf : ℕ) → leaf < n → firings leaf ≡ others leaf

-- what two vectors balance, their sum and each multiple of them balance
abbrev pub SumsBalance : Type 0
SumsBalance = (firings others : ℕ → ℕ) (link : RatedLink) → IsBalanced firings link
    → IsBalanced others link → IsBalanced (λ leaf. firings leaf + others leaf) link

abbrev pub MultiplesBalance : Type 0
MultiplesBalance = (factor : ℕ) (firings : ℕ → ℕ) (link : RatedLink) → IsBalanced firings link
    → IsBalanced (λ leaf. factor * firings leaf) link
