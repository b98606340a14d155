use Rattle.network_runner.proofs.Loops.{IsPutting}
use Rattle.network_runner.proofs.putting.flush_all.Given as goal

abbrev pub invariant-loop-p : goal.invariant-loop-p
invariant-loop-p g l = IsPutting l.outlets l.p (g.D.Drains.channels l.initial.drains) (g.D.Drains.channels l.drains) l.initial.writers l.writers
