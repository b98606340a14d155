use Rattle.std.proofs.Common.{◌≡◌, ℕ, ◌+◌, ◌<◌, true, false}
use Rattle.std.specs.Prelude.{slice_index_or}
use Rattle.lower_scratch.specs.Rows.{is_set, row_at}
use Rattle.lower_scratch.proofs.body.enters.Given as goal

abbrev pub invariant-loop-k : goal.invariant-loop-k
invariant-loop-k l = (j : ℕ) → j < l.k → slice_index_or (row_at l.callee l.callee.begin) j false ≡ true → is_set l.kept l.body l.place (l.callee.low + j) ≡ true
