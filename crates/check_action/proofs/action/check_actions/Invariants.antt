use Rattle.std.proofs.Common.{◌≡◌, length}
use Rattle.cal_check.specs.Actors.{actions_broken, actions_in}
use Rattle.cal_check.specs.Violations.{said}
use Rattle.check_member.specs.Parts.{members_tree}
use Rattle.check_action.specs.Parts.{around_view}
use Rattle.check_action.proofs.action.check_actions.Given as goal

abbrev pub invariant-members : goal.invariant-members
invariant-members l = said l.passes (actions_broken (actions_in (members_tree l.rest)) (around_view l.parts l.names))
    ≡ said l.passes (actions_broken (actions_in (members_tree l.initial.rest)) (around_view l.parts l.names))

abbrev pub decreases-members : goal.decreases-members
decreases-members l = length l.rest
