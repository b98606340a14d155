use Rattle.std.proofs.Common.{◌≡◌, ℕ, ◌+◌, ◌<◌, ◌≤◌, true}
use Rattle.lowered_actor.specs.Straight.{is_saved}
use Rattle.lower_scratch.proofs.stores.are_saved.Given as goal

abbrev pub invariant-loop-k : goal.invariant-loop-k
invariant-loop-k l = (d : ℕ) → l.cell ≤ d → d < l.cell + l.k → is_saved l.saved d ≡ true
