use Rattle.std.proofs.Common.{◌≡◌, ℕ, ◌<◌, length}
use Rattle.balanced_rates.specs.Split.{at}
use Rattle.balanced_rates.proofs.vector.numbers_below.Given as goal

abbrev pub invariant-loop-k : goal.invariant-loop-k
invariant-loop-k l = record {
  size : length l.numbers.items ≡ l.n;
  done : (i : ℕ) → i < l.k → at l.numbers.items i ≡ i;
}
