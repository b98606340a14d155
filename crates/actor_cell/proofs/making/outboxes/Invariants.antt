use Rattle.actor_cell.proofs.Fresh.{AreFreshUpTo}
use Rattle.actor_cell.proofs.making.outboxes.Given as goal

abbrev pub invariant-loop-capacity : goal.invariant-loop-capacity
invariant-loop-capacity l = AreFreshUpTo l.capacity-index l.capacities l.outboxes.items
