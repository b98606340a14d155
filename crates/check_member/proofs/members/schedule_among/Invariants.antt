use Rattle.std.proofs.Common.{◌≡◌, length}
use Rattle.cal_check.specs.Schedules.{schedule_in}
use Rattle.check_member.specs.Parts.{members_tree}
use Rattle.check_member.proofs.members.schedule_among.Given as goal

abbrev pub invariant-members : goal.invariant-members
invariant-members l = schedule_in (members_tree l.rest) ≡ schedule_in (members_tree l.initial.rest)

abbrev pub decreases-members : goal.decreases-members
decreases-members l = length l.rest
