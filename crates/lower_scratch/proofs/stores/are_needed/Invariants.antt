use Rattle.std.proofs.Common.{◌≡◌, ℕ, ◌+◌, ◌*◌, ◌<◌}
use Rattle.lower_scratch.proofs.stores.are_needed.Given as goal

abbrev pub invariant-tokens : goal.invariant-tokens
invariant-tokens l = (l.at ≡ l.first + l.j * l.step) × ((k : ℕ) → k < l.j → l.first + k * l.step < l.needed)
