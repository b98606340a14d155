-- Faults of members, as those of kinds.
-- Not trusted: no promise is read with it.
use Rattle.std.specs.Prelude.{List, ◌++◌, Option, None, Some}
use Rattle.const_env.specs.declared.fault.KindFault.{KindFault}
use Rattle.const_env.specs.declared.fault.KindFault.TheVariants as fault
use Rattle.check_member.specs.declared.fault.MemberFault.{MemberFault}
use Rattle.check_member.specs.declared.fault.MemberFault.TheVariants as member

abbrev pub kind_fault : MemberFault → KindFault
kind_fault (member.Broken rule at) = fault.Broken rule at
kind_fault member.Memory = fault.Memory

-- what was found of the first parts, and then of the others if all of them are fine
abbrev pub behind : {A : Type 0} → List A → Option (List A) → Option (List A)
behind found None = None
behind found (Some others) = Some (found ++ others)
