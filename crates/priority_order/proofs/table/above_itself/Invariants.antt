use Rattle.std.proofs.Common.{ℕ, ◌<◌}
use Rattle.std.specs.Prelude.{IsTrue}
use Rattle.priority_order.specs.Ranking.{cell}
use Rattle.priority_order.proofs.table.above_itself.Given as goal

abbrev pub invariant-loop-number : goal.invariant-loop-number
invariant-loop-number l = (a : ℕ) → a < l.number → ¬ IsTrue (cell l.n l.table a a)
