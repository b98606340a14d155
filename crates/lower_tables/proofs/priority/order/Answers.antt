use Rattle.std.proofs.Common.{◌≡◌, length, sym, subst, ◌∙◌, arith}
use Rattle.std.proofs.lemmas.List.{length-map}
use Rattle.rvc_base.specs.Chain.{IsAbove}
use Rattle.priority_order.specs.Closed.{IsInRange}
use Rattle.priority_order.specs.Cycle.{IsCause}
use Rattle.priority_order.specs.declared.closing.OrderFault.TheVariants.{Cycle}
use Rattle.cal_model.specs.View.{action_view, actor_of}
use Rattle.lower_tables.proofs.Ordering.{no_ring, pairs_in_range, priority_is, same_pairs}
use Rattle.lower_tables.proofs.priority.order.Goals as goal
use Rattle.lower_tables.proofs.priority.order.Goals.{After-len}

pairs : (c : After-len) → c.deref.result.now ≡ (actor_of c.args.b.now).pairs
pairs c = c.deref.ensures.value ∙ sym (same_pairs c.args.b.now.pairs.items)

count : (c : After-len) → c.len.result ≡ length (actor_of c.args.b.now).actions
count c =
    let size : c.len.result ≡ length c.args.b.now.actions.items = omega arith in
    size ∙ sym (length-map c.args.b.now.actions.items action_view)

pub close-requires : goal.close-requires
close-requires c =
    let d : After-len = (goal.at.close-requires c).After-len in
    subst (λ ps. IsInRange ps c.len.result) (sym (pairs d)) (pairs_in_range (actor_of c.args.b.now) (actor_of c.args.b.now).pairs c.len.result (count d) c.requires.sound.pairs)

pub returns-in-Ok : goal.returns-in-Ok
returns-in-Ok c =
    let d : After-len = (goal.at.returns-in-Ok c).After-len in
    record { priority = priority_is (actor_of c.args.b.now) c.deref.result.now c.len.result c.in-Ok.order (pairs d) (count d) c.in-Ok.ensures.count c.in-Ok.ensures.above c.in-Ok.ensures.line }

pub unreachable-requires : goal.unreachable-requires
unreachable-requires c =
    let d : After-len = (goal.at.unreachable-requires c).After-len in
    let cause : IsCause c.deref.result.now (Cycle c.in-Err-Cycle.field-0-0) = subst (IsCause c.deref.result.now) c.in-Err-Cycle.field-0-is c.in-Err-Cycle.ensures.cycle in
    no_ring c.deref.result.now c.in-Err-Cycle.field-0-0.items
    (λ a (up : IsAbove c.deref.result.now a a). c.requires.sound.no_cycle a (subst (λ ps. IsAbove ps a a) (pairs d) up)) cause.ring
