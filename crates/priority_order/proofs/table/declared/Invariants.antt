use Rattle.std.proofs.Common.{◌≡◌, ◌*◌, length, take}
use Rattle.priority_order.proofs.Cells.{Marks}
use Rattle.priority_order.proofs.table.declared.Given as goal

abbrev pub invariant-loop-above : goal.invariant-loop-above
invariant-loop-above l = record {
  size : length l.table.items ≡ l.n * l.n;
  marks : Marks (take l.above-index l.pairs) l.n l.table.items;
}
