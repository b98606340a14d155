use Rattle.std.proofs.Common.{length}
use Rattle.cal_check.specs.Actors.{actions_in}
use Rattle.check_member.specs.Parts.{action_views, members_tree}
use Rattle.check_action.specs.Parts.{around_view}
use Rattle.check_build_action.proofs.ActionSteps.{AreBuiltUpTo}
use Rattle.check_build_action.proofs.acting.actions.Given as goal

abbrev pub invariant-members : goal.invariant-members
invariant-members l = AreBuiltUpTo (action_views l.found.items) (actions_in (members_tree l.rest)) (actions_in (members_tree l.initial.rest)) (around_view l.parts l.names)

abbrev pub decreases-members : goal.decreases-members
decreases-members l = length l.rest
