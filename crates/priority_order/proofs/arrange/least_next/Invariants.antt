use Rattle.std.proofs.Common.{ℕ, ◌<◌, false, get_or}
use Rattle.std.specs.Prelude.{IsTrue}
use Rattle.rvc_base.specs.Line.{MayStand}
use Rattle.priority_order.specs.Ranking.{Above}
use Rattle.priority_order.proofs.arrange.least_next.Given as goal

abbrev pub invariant-loop-number : goal.invariant-loop-number
invariant-loop-number l = (b : ℕ) → b < l.number → ¬ MayStand l.n (Above l.n l.table) (λ a. IsTrue (get_or l.stands a false)) b
