use Rattle.period_order.proofs.Moving.{IsTouchingUpTo}
use Rattle.period_order.proofs.setup.touching.Given as goal

abbrev pub invariant-loop-l : goal.invariant-loop-l
invariant-loop-l l = IsTouchingUpTo l.links l.leaf l.l l.row.items
