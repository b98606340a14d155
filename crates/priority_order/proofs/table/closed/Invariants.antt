use Rattle.std.proofs.Common.{◌≡◌, ◌*◌, length}
use Rattle.priority_order.proofs.ClosedTables.{ClosedBelow}
use Rattle.priority_order.proofs.table.closed.Given as goal

abbrev pub invariant-loop-through : goal.invariant-loop-through
invariant-loop-through l = record {
  size : length l.table.items ≡ l.n * l.n;
  chains : ClosedBelow l.pairs l.n l.through l.table.items;
}
