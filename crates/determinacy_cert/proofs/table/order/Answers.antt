use Rattle.std.proofs.Common.{◌≡◌, length, sym, subst, ◌∙◌}
use Rattle.std.proofs.lemmas.List.{length-map}
use Rattle.rvc_base.specs.Chain.{IsAbove}
use Rattle.priority_order.specs.Closed.{IsInRange}
use Rattle.priority_order.specs.Cycle.{IsCause}
use Rattle.priority_order.specs.declared.closing.OrderFault.TheVariants.{Cycle}
use Rattle.cal_model.specs.Actor.{Actor}
use Rattle.cal_model.specs.View.{action_view, actor_of}
use Rattle.determinacy_cert.proofs.Automata.{same_pairs}
use Rattle.determinacy_cert.proofs.Tables.{no_ring, pairs_in_range, priority_is}
use Rattle.determinacy_cert.proofs.table.order.Goals as goal
use Rattle.determinacy_cert.proofs.table.order.Goals.{After-deref}

pairs : (c : After-deref) → c.deref.result.now ≡ (actor_of c.args.actor.now).pairs
pairs c = c.deref.ensures.value ∙ sym (same_pairs c.args.actor.now.pairs.items)

count : (c : After-deref) → c.args.actions ≡ length (actor_of c.args.actor.now).actions
count c = c.requires.actions ∙ sym (length-map c.args.actor.now.actions.items action_view)

pub close-requires : goal.close-requires
close-requires c =
    let actor : Actor = actor_of c.args.actor.now in
    let d : After-deref = (goal.at.close-requires c).After-deref in
    subst (λ ps. IsInRange ps c.args.actions) (sym (pairs d)) (pairs_in_range actor actor.pairs c.args.actions (count d) c.requires.sound.pairs)

pub returns-in-Ok-clause-order : goal.returns-in-Ok-clause-order
returns-in-Ok-clause-order c =
    let d : After-deref = (goal.at.returns-in-Ok-clause-order c).After-deref in
    priority_is (actor_of c.args.actor.now) c.deref.result.now c.args.actions c.in-Ok.order (pairs d) (count d) c.in-Ok.ensures.count c.in-Ok.ensures.above c.in-Ok.ensures.line

pub unreachable-requires : goal.unreachable-requires
unreachable-requires c =
    let d : After-deref = (goal.at.unreachable-requires c).After-deref in
    let cause : IsCause c.deref.result.now (Cycle c.in-Err-Cycle.field-0-0) = subst (IsCause c.deref.result.now) c.in-Err-Cycle.field-0-is c.in-Err-Cycle.ensures.cycle in
    no_ring c.deref.result.now c.in-Err-Cycle.field-0-0.items
    (λ a (up : IsAbove c.deref.result.now a a). c.requires.sound.no_cycle a (subst (λ ps. IsAbove ps a a) (pairs d) up)) cause.ring
