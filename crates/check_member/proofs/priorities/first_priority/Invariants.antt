use Rattle.std.proofs.Common.{◌≡◌, length}
use Rattle.cal_check.specs.Schedules.{first_priority}
use Rattle.check_member.specs.Parts.{members_tree}
use Rattle.check_member.proofs.priorities.first_priority.Given as goal

abbrev pub invariant-members : goal.invariant-members
invariant-members l = first_priority (members_tree l.rest) ≡ first_priority (members_tree l.initial.rest)

abbrev pub decreases-members : goal.decreases-members
decreases-members l = length l.rest
