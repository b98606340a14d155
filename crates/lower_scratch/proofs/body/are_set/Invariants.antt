use Rattle.std.proofs.Common.{◌≡◌, ℕ, ◌+◌, ◌<◌, true}
use Rattle.lower_scratch.specs.Rows.{is_set}
use Rattle.lower_scratch.proofs.body.are_set.Given as goal

abbrev pub invariant-loop-k : goal.invariant-loop-k
invariant-loop-k l = (j : ℕ) → j < l.k → is_set l.kept l.body l.place (l.cell + j) ≡ true
