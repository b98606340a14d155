use Rattle.std.specs.Prelude.{take}
use Rattle.round_runner.specs.Sending.{outgoing, stored_bytes}
use Rattle.round_runner.proofs.Written.{IsWritten}
use Rattle.round_runner.proofs.sending.send_along.Given as goal

abbrev pub invariant-loop-k : goal.invariant-loop-k
invariant-loop-k g l = IsWritten l.channel (stored_bytes l.kind (take l.k (outgoing g.A.Firing.cell l.net l.link.0))) l.initial.writer l.writer
    (g.D.Drains.channels l.initial.drains) (g.D.Drains.channels l.drains)
