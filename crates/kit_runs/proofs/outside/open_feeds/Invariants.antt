use Rattle.kit_runs.specs.Outside.{AreOpenTo}
use Rattle.kit_runs.proofs.outside.open_feeds.Given as goal

abbrev pub invariant-loop-k : goal.invariant-loop-k
invariant-loop-k g l = AreOpenTo l.k (g.F.Feeds.feeds l.feeds).is_open
