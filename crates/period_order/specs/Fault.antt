-- Why there is no period.
-- Trusted: part of what a promise means.
use Rattle.std.specs.Prelude.{ℕ, List}
use Rattle.balanced_rates.specs.declared.link.RatedLink.{RatedLink}
use Rattle.period_order.specs.declared.order.PeriodFault.{PeriodFault}
use Rattle.period_order.specs.declared.order.PeriodFault.TheVariants.{Blocked, Memory}
use Rattle.period_order.specs.Turns.{IsPeriod, IsBlocked}

-- a blocked leaf is the least with turns left where none may fire, and no order is a period; running
-- out of memory has no cause
abbrev pub IsCause : ℕ → List RatedLink → (ℕ → ℕ) → PeriodFault → Type 0
IsCause n links firings (Blocked leaf) =
    IsBlocked n links firings leaf × ((order : List ℕ) → ¬ IsPeriod n links firings order)
IsCause n links firings Memory = Unit {0}
