use Rattle.std.proofs.Common.{length}
use Rattle.balanced_rates.specs.Split.{at}
use Rattle.period_order.proofs.Moving.{IsMoving}
use Rattle.period_order.proofs.turn.fire.Given as goal

abbrev pub invariant-loop-l : goal.invariant-loop-l
invariant-loop-l l = IsMoving (length l.fn.unmet) l.links l.leaf l.row l.l-index (at l.initial.tokens) (at l.initial.peaks) (at l.unmet) (at l.tokens) (at l.peaks)
