-- What holds of all periods.
-- Trusted: part of what a promise means.
use Rattle.std.specs.Prelude.{◌≡◌, ℕ, List, All}
use Rattle.balanced_rates.specs.declared.link.RatedLink.{RatedLink}
use Rattle.balanced_rates.specs.Balance.{IsAmong, IsBalanced}
use Rattle.period_order.specs.Turns.{waiting, given, taken, IsPeriod, MayFire, IsLeastFirst}

-- a period of turns that balance a link leaves it as empty as it found it
abbrev pub PeriodsEmptyLinks : Type 0
PeriodsEmptyLinks = (n : ℕ) (links : List RatedLink) (firings : ℕ → ℕ) (order : List ℕ)
    → IsPeriod n links firings order → (link : RatedLink) → IsAmong n link → IsBalanced firings link
    → (given link order ≡ taken link order) × (waiting link order ≡ 0)

-- turns of the least leaf that may fire, until none may, are a period if any order of them is
abbrev pub LeastFirstSuffices : Type 0
LeastFirstSuffices = (n : ℕ) (links : List RatedLink) (firings : ℕ → ℕ) (order period : List ℕ)
    → All (IsAmong n) links → IsLeastFirst n links firings order
    → ((leaf : ℕ) → ¬ MayFire n links firings order leaf) → IsPeriod n links firings period
    → IsPeriod n links firings order
