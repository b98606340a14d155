use Rattle.priority_order.proofs.Rings.{NoneLeads}
use Rattle.priority_order.proofs.cycle.next_on_cycle.Given as goal

abbrev pub invariant-loop-above : goal.invariant-loop-above
invariant-loop-above l = NoneLeads l.pairs l.n l.table l.current l.above-index
