use Rattle.std.proofs.Common.{◌≡◌, ◌≤◌, ◌+◌, ◌++◌, length}
use Rattle.cal_ast.specs.View.{tag_tree}
use Rattle.cal_model.specs.Sound.{max_actions}
use Rattle.cal_model.specs.Tags.{stands_from}
use Rattle.cal_check.specs.Actions.{tag_parts}
use Rattle.check_member.specs.Parts.{action_views}
use Rattle.check_member.proofs.tags.actions_meant.Given as goal

abbrev pub invariant-actions : goal.invariant-actions
invariant-actions l = record {
  found : l.found.items ++ stands_from l.number (tag_parts (tag_tree l.tag)) (action_views l.rest)
      ≡ stands_from 0 (tag_parts (tag_tree l.tag)) (action_views l.initial.rest);
  few : l.number + length l.rest ≤ max_actions;
}

abbrev pub decreases-actions : goal.decreases-actions
decreases-actions l = length l.rest
