use Rattle.priority_order.proofs.Widening.{RowWidened}
use Rattle.priority_order.proofs.table.widen_row.Given as goal

abbrev pub invariant-loop-column : goal.invariant-loop-column
invariant-loop-column l = RowWidened l.n l.row l.through l.column l.initial.table l.table
