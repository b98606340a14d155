use Rattle.std.proofs.Common.{◌+◌, arith, sym, subst, List}
use Rattle.std.specs.Prelude.{slice_index_or}
use Rattle.token_ring.specs.Queue.{Queue}
use Rattle.actor_cell.proofs.Fresh.{AreFreshUpTo, empty-is, fresh-more, fresh-all}
use Rattle.actor_cell.proofs.making.inboxes.Goals as goal

pub loop-capacity-preserved : goal.loop-capacity-preserved
loop-capacity-preserved c =
    subst (λ (queues : List Queue). AreFreshUpTo (c.loop-capacity.capacity-index + 1) c.args.capacities.now queues) (sym c.in_ok-push.ensures.items)
    (fresh-more c.loop-capacity.capacity-index c.args.capacities.now c.loop-capacity.rings.items c.in_ok-new.field-0 c.loop-capacity.invariant
    (empty-is c.in_ok-new.field-0 (slice_index_or c.args.capacities.now c.loop-capacity.capacity-index 0) c.in_ok-new.ensures.empty c.in_ok-new.ensures.capacity))

pub returns : goal.returns
returns c = fresh-all c.loop-capacity.capacity-index c.args.capacities.now c.loop-capacity.rings.items c.loop-capacity.invariant
    (omega (arith, c.loop-capacity-test.false, c.loop-capacity.auto.capacity-index-end))
