use Rattle.std.proofs.Common.{◌≡◌, ◌++◌, length}
use Rattle.cal_check.specs.Schedules.{tags_listed}
use Rattle.check_member.specs.Parts.{action_views, tags_tree}
use Rattle.check_member.proofs.Chains.{pairs_behind}
use Rattle.check_member.proofs.priorities.add_chain.Given as goal

abbrev pub invariant-tags : goal.invariant-tags
invariant-tags l =
    l.pairs.items ++ pairs_behind l.higher.items (tags_listed (tags_tree l.rest)) (action_views l.actions)
    ≡ l.initial.pairs.items ++ pairs_behind l.initial.higher.items (tags_listed (tags_tree l.initial.rest)) (action_views l.actions)

abbrev pub decreases-tags : goal.decreases-tags
decreases-tags l = length l.rest
