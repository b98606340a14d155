use Rattle.std.proofs.Common.{◌+◌, arith, sym, subst, List}
use Rattle.token_ring.specs.Queue.{Queue}
use Rattle.actor_cell.proofs.Fresh.{AreFreshUpTo, fresh-more, fresh-all}
use Rattle.actor_cell.proofs.making.outboxes.Goals as goal

pub loop-capacity-preserved : goal.loop-capacity-preserved
loop-capacity-preserved c =
    subst (λ (queues : List Queue). AreFreshUpTo (c.loop-capacity.capacity-index + 1) c.args.capacities.now queues) (sym c.in_ok-push.ensures.items)
    (fresh-more c.loop-capacity.capacity-index c.args.capacities.now c.loop-capacity.outboxes.items c.in_ok-new.field-0 c.loop-capacity.invariant
    c.in_ok-new.ensures)

pub returns : goal.returns
returns c = fresh-all c.loop-capacity.capacity-index c.args.capacities.now c.loop-capacity.outboxes.items c.loop-capacity.invariant
    (omega (arith, c.loop-capacity-test.false, c.loop-capacity.auto.capacity-index-end))
