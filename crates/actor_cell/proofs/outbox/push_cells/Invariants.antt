use Rattle.std.specs.Prelude.{◌≡◌, ◌++◌}
use Rattle.lowered_actor.specs.Facts.{cells_from}
use Rattle.actor_cell.proofs.outbox.push_cells.Given as goal

abbrev pub invariant-loop-k : goal.invariant-loop-k
invariant-loop-k l = l.ring ≡ record {
  tokens = l.initial.ring.tokens ++ cells_from l.cells.numbers l.first l.k;
  capacity = l.initial.ring.capacity;
}
