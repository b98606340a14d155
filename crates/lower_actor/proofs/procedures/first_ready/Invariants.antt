use Rattle.std.proofs.Common.{ℕ, ◌<◌}
use Rattle.lower_actor.specs.Drafted.{WaitsProcedure}
use Rattle.lower_actor.proofs.procedures.first_ready.Given as goal

abbrev pub invariant-loop-k : goal.invariant-loop-k
invariant-loop-k l = (j : ℕ) → j < l.k → WaitsProcedure l.b l.made j
