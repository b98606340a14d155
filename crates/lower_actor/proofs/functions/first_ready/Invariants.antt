use Rattle.std.proofs.Common.{ℕ, ◌<◌}
use Rattle.lower_actor.specs.Drafted.{WaitsFunction}
use Rattle.lower_actor.proofs.functions.first_ready.Given as goal

abbrev pub invariant-loop-k : goal.invariant-loop-k
invariant-loop-k l = (j : ℕ) → j < l.k → WaitsFunction l.b l.made j
