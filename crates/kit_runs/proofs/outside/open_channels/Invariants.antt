use Rattle.kit_runs.specs.Outside.{AreOpenTo}
use Rattle.kit_runs.proofs.outside.open_channels.Given as goal

abbrev pub invariant-loop-k : goal.invariant-loop-k
invariant-loop-k g l = AreOpenTo l.k (g.D.Drains.channels l.drains).is_open
