use Rattle.std.proofs.Common.{◌≡◌, ◌++◌, [], length}
use Rattle.cal_check.specs.Schedules.{pairs_in, priorities_broken}
use Rattle.check_member.specs.Parts.{action_views, actor_with, members_tree}
use Rattle.check_member.proofs.priorities.pairs_of.Given as goal

abbrev pub invariant-members : goal.invariant-members
invariant-members l = record {
  broken : priorities_broken (members_tree l.rest) (action_views l.actions) ≡ priorities_broken (members_tree l.initial.rest) (action_views l.actions);
  added : l.pairs.items ++ pairs_in (members_tree l.rest) (actor_with (action_views l.actions) [])
      ≡ pairs_in (members_tree l.initial.rest) (actor_with (action_views l.actions) []);
}

abbrev pub decreases-members : goal.decreases-members
decreases-members l = length l.rest
