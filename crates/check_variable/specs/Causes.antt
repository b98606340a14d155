-- Faults whose rule is said, and places at which something isn't constant.
-- Trusted: part of what a promise means.
use Rattle.rvc_base.specs.Rules.{not_constant}
use Rattle.rvc_base.specs.declared.refusal.Place.{Place}
use Rattle.const_env.specs.declared.fault.KindFault.{KindFault}
use Rattle.const_env.specs.declared.fault.KindFault.TheVariants as fault
use Rattle.cal_check.specs.Variables.{Found}
use Rattle.check_given.specs.Causes.{IsSaid}

-- a fault without its file whose rule is said whatever else is broken
abbrev pub SaysFault : KindFault → Type 0
SaysFault (fault.Broken rule at) = IsSaid rule
SaysFault fault.Memory = Unit {0}

-- something at a place that isn't constant
abbrev pub inconstant : Place → Found
inconstant p = record { violation = record { rule = not_constant; at = p.offset }; file = p.file }
