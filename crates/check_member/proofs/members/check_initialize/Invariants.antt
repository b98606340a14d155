use Rattle.std.proofs.Common.{◌≡◌, length, false}
use Rattle.cal_check.specs.Actors.{actions_in, initialized_twice}
use Rattle.check_member.specs.Parts.{members_tree}
use Rattle.check_member.proofs.members.check_initialize.Given as goal

abbrev pub invariant-members : goal.invariant-members
invariant-members l = initialized_twice l.before (actions_in (members_tree l.rest)) ≡ initialized_twice false (actions_in (members_tree l.initial.rest))

abbrev pub decreases-members : goal.decreases-members
decreases-members l = length l.rest
