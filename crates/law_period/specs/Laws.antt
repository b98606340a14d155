-- What holds of periods of all networks of static actors, as statements.
-- Trusted: part of what a promise means.
use Rattle.std.specs.Prelude.{◌↔◌, ◌⊎◌, ℕ, ◌<◌, List, All}
use Rattle.balanced_rates.specs.declared.link.RatedLink.{RatedLink}
use Rattle.balanced_rates.specs.Balance.{IsAmong, Balances, IsLeast, IsMultipleFrom}
use Rattle.period_order.specs.Turns.{IsPeriod, IsBlocked}
use Rattle.net_model.specs.Network.{Network}
use Rattle.net_model.specs.State.{State, start_of}
use Rattle.net_model.specs.Wired.{IsWired}
use Rattle.net_model.specs.Laws.{AreLawful}
use Rattle.law_period.specs.Static.{NetRates, AreStatic, IsPeriodOf}
use Rattle.law_period.specs.Runs.{IsAtRest, HasEnoughInput, Completes, TrapsOnTheWay}
use Rattle.law_period.specs.Cycles.{Leads}

-- ---- runs: over states X of actors, of which those of leaf i are kept

-- the start of a run over files is between periods
abbrev pub StartsAtRest : (X : Type 0) → (ℕ → X → Type 0) → Type 0
StartsAtRest X kept = (net : Network X) (rates : NetRates) (inputs : List (List ℕ))
    → AreStatic net kept rates → IsAtRest net kept (start_of net inputs)

-- from a state between periods, with the input of one, a period can be run whole, or up to a trap
abbrev pub PeriodsAreRuns : (X : Type 0) → (ℕ → X → Type 0) → Type 0
PeriodsAreRuns X kept =
    (net : Network X) (rates : NetRates) (firings : ℕ → ℕ) (order : List ℕ) (s : State X)
    → IsWired net → AreLawful net → AreStatic net kept rates → IsPeriodOf net rates firings order
    → IsAtRest net kept s → HasEnoughInput net rates firings s
    → Completes net kept rates firings order s ⊎ TrapsOnTheWay net rates order s

-- ---- vectors

-- each vector that balances the links is a multiple of the least one on each part that they connect
abbrev pub VectorsAreMultiples : Type 0
VectorsAreMultiples = (n : ℕ) (links : List RatedLink) (firings others : ℕ → ℕ)
    → All (IsAmong n) links → IsLeast n links firings → Balances n links others
    → (leaf : ℕ) → leaf < n → IsMultipleFrom links firings others leaf

-- ---- blocked networks

-- some leaf is blocked exactly if no order of the turns is a period
abbrev pub BlockedHasNoPeriod : Type 0
BlockedHasNoPeriod = (n : ℕ) (links : List RatedLink) (firings : ℕ → ℕ) → All (IsAmong n) links
    → ((leaf : ℕ) × IsBlocked n links firings leaf)
    ↔ ((order : List ℕ) → ¬ IsPeriod n links firings order)

-- a leaf that fires has no period if it is on a cycle of links on which tokens are needed
abbrev pub CyclesHaveNoPeriod : Type 0
CyclesHaveNoPeriod = (n : ℕ) (links : List RatedLink) (firings : ℕ → ℕ) (order : List ℕ)
    (leaf : ℕ) → leaf < n → 0 < firings leaf → Leads links leaf leaf
    → ¬ IsPeriod n links firings order
