use Rattle.std.proofs.Common.{◌≡◌, ◌≤◌, ◌+◌, length}
use Rattle.cal_model.specs.Sound.{max_actions}
use Rattle.cal_check.specs.Actors.{actions_in}
use Rattle.check_member.specs.Parts.{members_tree}
use Rattle.check_member.proofs.members.count_actions.Given as goal

abbrev pub invariant-members : goal.invariant-members
invariant-members l = record {
  whole : l.count + length (actions_in (members_tree l.rest)) ≡ length (actions_in (members_tree l.initial.rest));
  few : l.count ≤ max_actions;
}

abbrev pub decreases-members : goal.decreases-members
decreases-members l = length l.rest
