use Rattle.std.proofs.Common.{◌≡◌, [], Err, inl, inr, sym, subst, ◌∙◌, refl, rules}
use Rattle.std.specs.Prelude.{IfErr, length}
use Rattle.rvc_base.specs.Chain.{IsAbove}
use Rattle.cal_model.specs.Actor.{Actor}
use Rattle.cal_check.specs.Schedules.{first_priority, pairs_in, priorities_broken}
use Rattle.priority_order.specs.Closed.{IsInRange}
use Rattle.check_member.specs.Judging.{BreaksPriorities, IsCycleAt}
use Rattle.check_member.specs.Parts.{action_views, actor_with, members_tree}
use Rattle.check_member.proofs.priorities.check_priorities.Goals as goal

pub order_of-requires : goal.order_of-requires
order_of-requires c =
    let actor = actor_with (action_views c.args.actions.now) [] in
    record {
      in_range = subst (λ ps. IsInRange ps (length c.args.actions.now)) (sym c.deref.ensures.value) c.in_ok-pairs.ensures.in_range;
      from_members = (actor, c.deref.ensures.value ∙ c.in_ok-pairs.ensures.pairs actor refl);
    }

pub returns-in_err-pairs-clause-broken : goal.returns-in_err-pairs-clause-broken
returns-in_err-pairs-clause-broken c =
    let f = c.in_err-pairs.field-0.0 in
    let members = members_tree c.args.members.now in
    let acts = action_views c.args.actions.now in
    let same : c.from_residual.result ≡ Err f = search rules in
    subst (λ r. IfErr r (λ fault. (actor : Actor) → actor.actions ≡ acts → BreaksPriorities (priorities_broken members acts) (pairs_in members actor) (first_priority members) fault)) (sym same)
    (λ actor e. inl c.in_err-pairs.ensures.checked)

pub returns-in_err-order_of-clause-broken : goal.returns-in_err-order_of-clause-broken
returns-in_err-order_of-clause-broken c =
    let f = c.in_err-order_of.field-0.0 in
    let members = members_tree c.args.members.now in
    let acts = action_views c.args.actions.now in
    let same : c.from_residual-in_err-order_of.result ≡ Err f = search rules in
    subst (λ r. IfErr r (λ fault. (actor : Actor) → actor.actions ≡ acts → BreaksPriorities (priorities_broken members acts) (pairs_in members actor) (first_priority members) fault)) (sym same)
    (λ actor e. inr (subst (λ ps. IsCycleAt ps (first_priority members) f) (c.deref.ensures.value ∙ c.in_ok-pairs.ensures.pairs actor e) c.in_err-order_of.ensures.cycle))

pub returns-clause-without_cycle : goal.returns-clause-without_cycle
returns-clause-without_cycle c = λ a h. c.in_ok-order_of.ensures.without_cycle a (subst (λ ps. IsAbove ps a a) (sym c.deref.ensures.value) h)
