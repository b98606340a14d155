use Rattle.net_state.specs.Held.{seen}
use Rattle.network_runner.proofs.Filling.{IsFilling}
use Rattle.network_runner.proofs.feeding.fill_all.Given as goal

abbrev pub invariant-loop-l : goal.invariant-loop-l
invariant-loop-l g l =
    IsFilling l.l l.feed l.links (seen g.A.Firing.cell l.initial.net) (seen g.A.Firing.cell l.net) l.initial.readers l.readers
    (g.F.Feeds.feeds l.initial.feeds) (g.F.Feeds.feeds l.feeds) l.initial.came l.came
