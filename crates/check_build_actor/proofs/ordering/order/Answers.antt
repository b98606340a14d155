use Rattle.std.proofs.Common.{◌≡◌, Err, map, sym, ap, subst, ◌∙◌, rules}
use Rattle.std.specs.Prelude.{IfErr}
use Rattle.cal_check.specs.Schedules.{first_priority, moves_in, pairs_in, priorities_broken, states_of}
use Rattle.cal_model.specs.Actor.{Actor}
use Rattle.check_member.specs.Judging.{BreaksPriorities}
use Rattle.check_member.specs.Parts.{action_views, members_tree, move_of_step, schedule_view}
use Rattle.check_build_actor.proofs.OrderSteps.{order_fine, priorities_break, schedule_breaks}
use Rattle.check_build_actor.specs.Building.{HasActions, order_broken}
use Rattle.check_build_actor.proofs.ordering.order.Goals as goal

pub returns-in_err-scheduled-clause-broken : goal.returns-in_err-scheduled-clause-broken
returns-in_err-scheduled-clause-broken c =
    let f = c.in_err-scheduled.field-0.0 in
    let members = members_tree c.args.members.now in
    let acts = action_views c.args.actions.now in
    let at = c.args.at in
    let same : c.from_residual.result ≡ Err f = search rules in
    subst (λ r. IfErr r (λ fault. (actor : Actor) → HasActions actor acts members
    → BreaksPriorities (order_broken members actor at) (pairs_in members actor) (first_priority members) fault)) (sym same)
    (λ actor has. schedule_breaks f (schedule_view c.schedule_among.result) members actor at c.schedule_among.ensures has.states
    (c.in_err-scheduled.ensures.checked actor has.actions (has.states ∙ ap states_of (sym c.schedule_among.ensures))))

pub returns-in_err-pairs-clause-broken : goal.returns-in_err-pairs-clause-broken
returns-in_err-pairs-clause-broken c =
    let f = c.in_err-pairs.field-0.0 in
    let members = members_tree c.args.members.now in
    let acts = action_views c.args.actions.now in
    let at = c.args.at in
    let same : c.from_residual-in_err-pairs.result ≡ Err f = search rules in
    subst (λ r. IfErr r (λ fault. (actor : Actor) → HasActions actor acts members
    → BreaksPriorities (order_broken members actor at) (pairs_in members actor) (first_priority members) fault)) (sym same)
    (λ actor has. priorities_break f members actor at
    (subst (λ xs. BreaksPriorities (priorities_broken members xs) (pairs_in members actor) (first_priority members) f) (sym has.actions)
    (c.in_err-pairs.ensures.broken actor has.actions)))

pub returns-clause-is : goal.returns-clause-is
returns-clause-is c = λ actor has.
    let among = c.schedule_among.ensures in
    record {
      states = c.in_ok-scheduled.ensures.states ∙ ap states_of among;
      moves = c.in_ok-moves.ensures ∙ ap (map move_of_step) c.deref.ensures.value ∙ c.in_ok-scheduled.ensures.moves actor has.actions (has.states ∙ ap states_of (sym among)) ∙ ap (λ o. moves_in o actor) among;
      pairs = c.in_ok-pairs.ensures.pairs actor has.actions;
    }

pub returns-clause-fine : goal.returns-clause-fine
returns-clause-fine c = λ actor has.
    let members = members_tree c.args.members.now in
    let among = c.schedule_among.ensures in
    order_fine (schedule_view c.schedule_among.result) members actor c.args.at among has.states
    (c.in_ok-scheduled.ensures.checked actor has.actions (has.states ∙ ap states_of (sym among)))
    (ap (priorities_broken members) has.actions ∙ c.in_ok-pairs.ensures.tags)
