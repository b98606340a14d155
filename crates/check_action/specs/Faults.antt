-- Faults of members, as those of kinds.
-- Not trusted: no promise is read with it.
use Rattle.const_env.specs.declared.fault.KindFault.{KindFault}
use Rattle.const_env.specs.declared.fault.KindFault.TheVariants as fault
use Rattle.check_member.specs.declared.fault.MemberFault.{MemberFault}
use Rattle.check_member.specs.declared.fault.MemberFault.TheVariants as member

abbrev pub as_kind_fault : MemberFault → KindFault
as_kind_fault (member.Broken rule at) = fault.Broken rule at
as_kind_fault member.Memory = fault.Memory
