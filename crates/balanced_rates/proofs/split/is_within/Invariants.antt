use Rattle.std.proofs.Common.{◌≡◌, ◌≤◌}
use Rattle.balanced_rates.specs.Balance.{total}
use Rattle.balanced_rates.specs.Split.{at}
use Rattle.balanced_rates.proofs.split.is_within.Given as goal

abbrev pub invariant-loop-k : goal.invariant-loop-k
invariant-loop-k l = record { sum : l.sum ≡ total (at l.firings) l.k; within : l.sum ≤ l.longest }
