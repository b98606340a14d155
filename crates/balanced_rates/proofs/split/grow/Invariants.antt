use Rattle.std.proofs.Common.{◌≡◌, ℕ, ◌<◌, ◌≤◌}
use Rattle.balanced_rates.specs.Balance.{total}
use Rattle.balanced_rates.specs.Split.{at, grown}
use Rattle.balanced_rates.proofs.split.grow.Given as goal

abbrev pub invariant-loop-k : goal.invariant-loop-k
invariant-loop-k l = record {
  sum : l.sum ≡ total (grown l.joined.first l.joined.second l.joined.first_by l.joined.second_by (at l.parts) (at l.initial.firings)) l.k;
  within : l.sum ≤ l.longest;
  done : (i : ℕ) → i < l.k → at l.firings i ≡ grown l.joined.first l.joined.second l.joined.first_by l.joined.second_by (at l.parts) (at l.initial.firings) i;
  left : (i : ℕ) → l.k ≤ i → at l.firings i ≡ at l.initial.firings i;
}
