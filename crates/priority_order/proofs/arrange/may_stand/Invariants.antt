use Rattle.std.proofs.Common.{ℕ, ◌<◌, false, get_or}
use Rattle.std.specs.Prelude.{IsTrue}
use Rattle.priority_order.specs.Ranking.{Above}
use Rattle.priority_order.proofs.arrange.may_stand.Given as goal

abbrev pub invariant-loop-other : goal.invariant-loop-other
invariant-loop-other l = (a : ℕ) → a < l.other → Above l.n l.table a l.number → IsTrue (get_or l.stands a false)
