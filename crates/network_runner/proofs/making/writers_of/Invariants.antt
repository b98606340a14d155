use Rattle.std.specs.Prelude.{◌≡◌, ℕ, [], length, slice_index_or}
use Rattle.network_runner.proofs.making.writers_of.Given as goal

abbrev pub invariant-loop-k : goal.invariant-loop-k
invariant-loop-k l = (length l.writers.items ≡ l._k) × ((p : ℕ) → slice_index_or l.writers.items p [] ≡ [])
