use Rattle.std.specs.Prelude.{◌-◌, ◌≤◌, length}
use Rattle.net_state.specs.Held.{seen}
use Rattle.trace_replay.proofs.Settled.{AreOutTo}
use Rattle.trace_replay.proofs.ending.is_settled.Given as goal

abbrev pub invariant-links : goal.invariant-links
invariant-links g l =
    record {
      out : AreOutTo l.l (seen g.A.Firing.cell l.state);
      low : l.l ≤ length l.links;
    }

abbrev pub decreases-links : goal.decreases-links
decreases-links g l = length l.links - l.l
