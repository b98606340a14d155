use Rattle.std.proofs.Common.{◌≡◌, ℕ, ◌<◌, ◌≤◌, nat_eq}
use Rattle.std.specs.Prelude.{if◌then◌else◌}
use Rattle.balanced_rates.specs.Split.{at}
use Rattle.balanced_rates.proofs.split.unite.Given as goal

abbrev pub invariant-loop-k : goal.invariant-loop-k
invariant-loop-k l = record {
  done : (i : ℕ) → i < l.k → at l.parts i ≡ (if nat_eq (at l.initial.parts i) l.second then l.first else at l.initial.parts i);
  left : (i : ℕ) → l.k ≤ i → at l.parts i ≡ at l.initial.parts i;
}
