use Rattle.std.proofs.Common.{length}
use Rattle.balanced_rates.specs.Balance.{total}
use Rattle.balanced_rates.specs.Split.{at}
use Rattle.period_order.specs.Board.{IsPlayed}
use Rattle.period_order.proofs.board.play.Given as goal

abbrev pub invariant-loop-leaf : goal.invariant-loop-leaf
invariant-loop-leaf l = IsPlayed (length l.fn.left) l.links (at l.fn.left) l.order.items (at l.left) (at l.unmet) (at l.tokens) (at l.peaks)

abbrev pub decreases-loop-leaf : goal.decreases-loop-leaf
decreases-loop-leaf l = total (at l.left) (length l.left)
