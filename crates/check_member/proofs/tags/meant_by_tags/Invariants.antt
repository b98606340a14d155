use Rattle.std.proofs.Common.{◌≡◌, ◌++◌, length}
use Rattle.cal_check.specs.Schedules.{tags_listed}
use Rattle.check_member.specs.Parts.{action_views, tags_tree}
use Rattle.check_member.specs.Targets.{meant_by_tags}
use Rattle.check_member.proofs.tags.meant_by_tags.Given as goal

abbrev pub invariant-tags : goal.invariant-tags
invariant-tags l =
    l.found.items ++ meant_by_tags (tags_listed (tags_tree l.rest)) (action_views l.actions)
    ≡ meant_by_tags (tags_listed (tags_tree l.initial.rest)) (action_views l.actions)

abbrev pub decreases-tags : goal.decreases-tags
decreases-tags l = length l.rest
