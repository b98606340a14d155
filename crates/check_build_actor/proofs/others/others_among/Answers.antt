use Rattle.std.proofs.Common.{◌≡◌, Err, sym, subst, rules}
use Rattle.cal_check.specs.Actors.{actions_in, actions_of}
use Rattle.cal_model.specs.Actor.{Actor}
use Rattle.check_member.specs.Parts.{members_tree}
use Rattle.check_action.specs.Parts.{around_view}
use Rattle.check_build_actor.proofs.PastLacks.{actions_refused, counts_refused, few_counted, order_found}
use Rattle.check_build_actor.specs.Building.{FindsOthers, HasActions}
use Rattle.check_build_actor.proofs.others.others_among.Goals as goal

pub check_order-requires : goal.check_order-requires
check_order-requires c = few_counted (members_tree c.args.members.now) c.args.at c.in_ok-check_members.ensures

pub returns-in_err-check_members : goal.returns-in_err-check_members
returns-in_err-check_members c =
    let f = c.in_err-check_members.field-0.0 in
    let members = members_tree c.args.members.now in
    let around = around_view c.args.parts.now c.args.names.now in
    let same : c.from_residual.result ≡ Err f = search rules in
    subst (λ r. (actor : Actor) → HasActions actor (actions_of (actions_in members) around) members → FindsOthers r members around actor c.args.at) (sym same)
    (λ actor has. counts_refused f members around actor c.args.at c.in_err-check_members.ensures)

pub returns-in_err-check_actions : goal.returns-in_err-check_actions
returns-in_err-check_actions c =
    let f = c.in_err-check_actions.field-0.0 in
    let members = members_tree c.args.members.now in
    let around = around_view c.args.parts.now c.args.names.now in
    let same : c.from_residual-in_err-check_actions.result ≡ Err f = search rules in
    subst (λ r. (actor : Actor) → HasActions actor (actions_of (actions_in members) around) members → FindsOthers r members around actor c.args.at) (sym same)
    (λ actor has. actions_refused f members around actor c.args.at c.in_err-check_actions.ensures)

pub returns : goal.returns
returns c = λ actor has.
    let members = members_tree c.args.members.now in
    let around = around_view c.args.parts.now c.args.names.now in
    order_found c.check_order.result members around actor c.args.at c.in_ok-check_members.ensures c.in_ok-check_actions.ensures (c.check_order.ensures actor around has)
