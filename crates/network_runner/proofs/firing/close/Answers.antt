use Rattle.std.proofs.Common.{arith}
use Rattle.network_runner.proofs.firing.close.Goals as goal

pub close_idle-requires-clause-queues : goal.close_idle-requires-clause-queues
close_idle-requires-clause-queues g c = (c.requires.idle c.in_default.is (omega (arith, c.if-made-gt0.false)) c.if-not-all.false).queues

pub returns-clause-not_all : goal.returns-clause-not_all
returns-clause-not_all g c idle = absurd (c.close_idle.ensures.never_idle idle)
