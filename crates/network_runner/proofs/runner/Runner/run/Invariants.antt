use Rattle.network_runner.proofs.Onward.{IsOnward, still_to_do}
use Rattle.network_runner.proofs.runner.Runner.run.Given as goal

abbrev pub invariant-rounds : goal.invariant-rounds
invariant-rounds g l =
    IsOnward g.A.Firing.cell g.F.Feeds.feeds g.D.Drains.channels (g.G.Gate.arrived l.gate) l.initial.self l.self l.initial.feeds l.feeds l.initial.drains l.drains l.budget l.left

abbrev pub decreases-rounds : goal.decreases-rounds
decreases-rounds g l = still_to_do l.self l.left
