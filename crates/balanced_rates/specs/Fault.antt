-- Why links have no repetition vector, or one that is too long.
-- Trusted: part of what a promise means.
use Rattle.std.specs.Prelude.{ℕ, ◌+◌, List, take}
use Rattle.balanced_rates.specs.declared.link.RatedLink.{RatedLink}
use Rattle.balanced_rates.specs.declared.vector.BalanceFault.{BalanceFault}
use Rattle.balanced_rates.specs.declared.vector.BalanceFault.TheVariants.{Unbalanced, TooLong, Memory}
use Rattle.balanced_rates.specs.Balance.{IsContrary, IsLong, IsFirstFault}

-- the first link that is contrary or long: it is contrary and named, or it is long; running out of
-- memory has no cause
abbrev pub IsCause : ℕ → ℕ → List RatedLink → BalanceFault → Type 0
IsCause n longest links (Unbalanced l) =
    IsFirstFault n longest links l × IsContrary n (take (l + 1) links)
IsCause n longest links TooLong =
    (l : ℕ) × IsFirstFault n longest links l × IsLong n longest (take (l + 1) links)
IsCause n longest links Memory = Unit {0}
