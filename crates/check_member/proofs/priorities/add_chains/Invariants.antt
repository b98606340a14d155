use Rattle.std.proofs.Common.{◌≡◌, ◌++◌, [], length}
use Rattle.cal_check.specs.Schedules.{chains_broken, chains_pairs}
use Rattle.check_member.specs.Parts.{action_views, actor_with, chains_tree}
use Rattle.check_member.proofs.priorities.add_chains.Given as goal

abbrev pub invariant-chains : goal.invariant-chains
invariant-chains l = record {
  broken : chains_broken (chains_tree l.rest) (action_views l.actions) ≡ chains_broken (chains_tree l.initial.rest) (action_views l.actions);
  added : l.pairs.items ++ chains_pairs (chains_tree l.rest) (actor_with (action_views l.actions) [])
      ≡ l.initial.pairs.items ++ chains_pairs (chains_tree l.initial.rest) (actor_with (action_views l.actions) []);
}

abbrev pub decreases-chains : goal.decreases-chains
decreases-chains l = length l.rest
