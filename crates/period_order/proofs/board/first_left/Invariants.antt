use Rattle.std.proofs.Common.{◌≡◌, ℕ, ◌<◌}
use Rattle.balanced_rates.specs.Split.{at}
use Rattle.period_order.proofs.board.first_left.Given as goal

abbrev pub invariant-loop-leaf : goal.invariant-loop-leaf
invariant-loop-leaf l = (other : ℕ) → other < l.leaf → at l.left other ≡ 0
