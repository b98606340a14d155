use Rattle.std.proofs.Common.{◌≡◌, ℕ, ◌<◌, false}
use Rattle.std.specs.Prelude.{slice_index_or}
use Rattle.lower_scratch.specs.Rows.{row_at}
use Rattle.lower_scratch.proofs.body.none_is_set.Given as goal

abbrev pub invariant-loop-k : goal.invariant-loop-k
invariant-loop-k l = (j : ℕ) → j < l.k → slice_index_or (row_at l.body l.place) j false ≡ false
