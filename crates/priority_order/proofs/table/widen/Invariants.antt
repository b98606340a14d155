use Rattle.priority_order.proofs.Widening.{Widened}
use Rattle.priority_order.proofs.table.widen.Given as goal

abbrev pub invariant-loop-row : goal.invariant-loop-row
invariant-loop-row l = Widened l.n l.through l.row l.initial.table l.table
