use Rattle.std.proofs.Common.{ℕ, ◌+◌, ◌<◌, length, take}
use Rattle.balanced_rates.specs.Balance.{IsContrary, IsLong}
use Rattle.balanced_rates.specs.Split.{at, IsSplit}
use Rattle.balanced_rates.proofs.vector.balance.Given as goal

abbrev pub invariant-loop-l : goal.invariant-loop-l
invariant-loop-l l = record {
  split : IsSplit (length l.fn.firings) (take l.l l.links) (at l.parts) (at l.firings);
  before : (k : ℕ) → k < l.l → ¬ IsContrary (length l.fn.firings) (take (k + 1) l.links) × ¬ IsLong (length l.fn.firings) l.longest (take (k + 1) l.links);
}
