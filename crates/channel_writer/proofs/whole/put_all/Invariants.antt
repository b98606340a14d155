use Rattle.std.proofs.Common.{◌-◌, length}
use Rattle.channel_writer.proofs.whole.put_all.Given as goal
use Rattle.channel_writer.proofs.Putting.{IsPutUpTo}

abbrev pub invariant-loop-at : goal.invariant-loop-at
invariant-loop-at g l = IsPutUpTo l.at l.channel l.piece (g.D.Drains.channels l.initial.drains) (g.D.Drains.channels l.drains)

abbrev pub decreases-loop-at : goal.decreases-loop-at
decreases-loop-at g l = length l.initial.piece - l.at
