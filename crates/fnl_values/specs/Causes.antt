-- Rules that faults name.
-- Trusted: part of what a promise means.
use Rattle.std.specs.Prelude.{List, Contains}
use Rattle.const_env.specs.declared.fault.KindFault.{KindFault}
use Rattle.const_env.specs.declared.fault.KindFault.TheVariants as fault
use Rattle.cal_check.specs.Violations.{Violation}

-- the rule that a fault names is broken there; running out of memory says nothing
abbrev pub Refuses : KindFault → List Violation → Type 0
Refuses (fault.Broken rule at) vs = Contains vs (record { rule = rule; at = at })
Refuses fault.Memory vs = Unit {0}
