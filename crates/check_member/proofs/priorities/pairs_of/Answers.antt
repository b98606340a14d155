use Rattle.std.proofs.Common.{◌≡◌, ◌++◌, [], sym, ap, ◌∙◌}
use Rattle.std.proofs.lemmas.List.{append-nil}
use Rattle.cal_check.specs.Schedules.{pairs_in}
use Rattle.check_member.specs.Parts.{action_views, actor_with, members_tree}
use Rattle.cal_check.proofs.Lists.{none-left}
use Rattle.check_member.proofs.PairsInRange.{in-range}
use Rattle.check_member.proofs.SameActors.{pairs-same}
use Rattle.check_member.proofs.priorities.pairs_of.Goals as goal

whole : (c : goal.In_default) → c.members.pairs.items ≡ pairs_in (members_tree c.args.members.now) (actor_with (action_views c.args.actions.now) [])
whole c =
    let actor = actor_with (action_views c.args.actions.now) [] in
    let done : c.members.rest.now ≡ [] = none-left c.members.rest.now c.in_default.ensures.cases in
    sym (append-nil c.members.pairs.items)
    ∙ sym (ap (λ r. c.members.pairs.items ++ pairs_in (members_tree r) actor) done)
    ∙ c.members.invariant.added

pub returns-clause-in_range : goal.returns-clause-in_range
returns-clause-in_range c = in-range (members_tree c.args.members.now) c.args.actions.now c.members.pairs.items (whole c)

pub returns-clause-pairs : goal.returns-clause-pairs
returns-clause-pairs c = λ actor e. whole c ∙ pairs-same (members_tree c.args.members.now) actor (action_views c.args.actions.now) e
