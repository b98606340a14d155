use Rattle.std.proofs.Common.{ℕ, ◌+◌, ◌<◌}
use Rattle.net_state.proofs.claiming.arrive_all.Given as goal

abbrev pub invariant-loop-k : goal.invariant-loop-k
invariant-loop-k g l = (j : ℕ) → j < l.k → g.G.Gate.arrived l.gate l.crew.round (l.crew.first + j)
