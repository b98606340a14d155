use Rattle.std.proofs.Common.{◌-◌, vec_len}
use Rattle.priority_order.proofs.Lines.{IsArranged}
use Rattle.priority_order.proofs.arrange.arrange.Given as goal

abbrev pub invariant-loop-next : goal.invariant-loop-next
invariant-loop-next l = IsArranged l.n l.table l.stands.items l.line.items

abbrev pub decreases-loop-next : goal.decreases-loop-next
decreases-loop-next l = l.n - vec_len l.line
