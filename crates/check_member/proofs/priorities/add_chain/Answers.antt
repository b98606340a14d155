use Rattle.std.proofs.Common.{◌≡◌, ◌++◌, [], sym, ap, ◌∙◌}
use Rattle.std.proofs.lemmas.List.{append-nil}
use Rattle.cal_ast.specs.View.{tag_tree}
use Rattle.cal_model.specs.Tags.{pairs_of}
use Rattle.cal_check.specs.Actions.{tag_parts}
use Rattle.cal_check.specs.Schedules.{tags_listed}
use Rattle.check_member.specs.Parts.{action_views, actor_with, tags_tree}
use Rattle.check_member.proofs.Chains.{pairs-from, pairs_behind}
use Rattle.cal_check.proofs.Lists.{none-left}
use Rattle.check_member.proofs.priorities.add_chain.Goals as goal

pub returns : goal.returns
returns c =
    let acts = action_views c.args.actions.now in
    let before = c.args.pairs.now.items in
    let others = c.in-Some.others.now in
    let done : c.tags.rest.now ≡ [] = none-left c.tags.rest.now c.in_default-split_first.ensures.cases in
    sym (append-nil c.tags.pairs.items)
    ∙ sym (ap (λ r. c.tags.pairs.items ++ pairs_behind c.tags.higher.items (tags_listed (tags_tree r)) acts) done)
    ∙ c.tags.invariant
    ∙ ap (λ hs. before ++ pairs_behind hs (tags_listed (tags_tree others)) acts) c.in_ok-higher.ensures
    ∙ ap (λ ps. before ++ ps) (sym (pairs-from (tag_parts (tag_tree c.in-Some.first.now)) (tags_listed (tags_tree others)) acts))
    ∙ ap (λ r. before ++ pairs_of (actor_with acts []) (tags_listed (tags_tree r))) (sym c.in-Some.ensures.cases.0)
