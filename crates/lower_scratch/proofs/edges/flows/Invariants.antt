use Rattle.std.proofs.Common.{◌≡◌, ℕ, ◌+◌, ◌<◌, ◌⊎◌, true, false}
use Rattle.std.specs.Prelude.{slice_index_or}
use Rattle.lower_scratch.specs.Rows.{is_set, row_at, writes}
use Rattle.lower_scratch.proofs.edges.flows.Given as goal

abbrev pub invariant-loop-k : goal.invariant-loop-k
invariant-loop-k l = (j : ℕ) → j < l.k → slice_index_or (row_at l.body l.to) j false ≡ true → (is_set l.kept l.body l.from (l.body.low + j) ≡ true) ⊎ (writes l.instr (l.body.low + j) ≡ true)
