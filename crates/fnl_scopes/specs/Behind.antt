-- Names that stand twice, behind names that were met.
-- Not trusted: no promise is read with it.
use Rattle.std.specs.Prelude.{ℕ, List, reverse}
use Rattle.std.specs.Str.{bytes_eq}
use Rattle.rvc_base.specs.Rules.{network_name_twice}
use Rattle.cal_check.specs.Violations.{Violation, Keyed, twice}

-- behind these names, in their order
abbrev pub twice_behind : List (List ℕ) → List (Keyed (List ℕ)) → List Violation
twice_behind met others = twice bytes_eq network_name_twice (reverse met) others

abbrev pub keyed : List ℕ → ℕ → Keyed (List ℕ)
keyed name at = record { key = name; at = at }
