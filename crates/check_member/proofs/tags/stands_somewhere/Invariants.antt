use Rattle.std.proofs.Common.{◌≡◌, length}
use Rattle.cal_ast.specs.View.{tag_tree}
use Rattle.cal_check.specs.Actions.{tag_parts}
use Rattle.cal_check.specs.Schedules.{stands_somewhere}
use Rattle.check_member.specs.Parts.{action_views}
use Rattle.check_member.proofs.tags.stands_somewhere.Given as goal

abbrev pub invariant-actions : goal.invariant-actions
invariant-actions l = stands_somewhere (tag_parts (tag_tree l.tag)) (action_views l.rest) ≡ stands_somewhere (tag_parts (tag_tree l.tag)) (action_views l.initial.rest)

abbrev pub decreases-actions : goal.decreases-actions
decreases-actions l = length l.rest
