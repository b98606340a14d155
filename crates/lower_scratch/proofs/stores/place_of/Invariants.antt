use Rattle.std.proofs.Common.{◌-◌, ◌≤◌, length}
use Rattle.lower_scratch.proofs.stores.place_of.Given as goal

abbrev pub invariant-halves : goal.invariant-halves
invariant-halves l = l.high ≤ length l.saved

abbrev pub decreases-halves : goal.decreases-halves
decreases-halves l = l.high - l.low
