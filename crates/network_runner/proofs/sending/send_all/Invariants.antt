use Rattle.std.specs.Prelude.{map, take}
use Rattle.network_runner.proofs.Sent.{IsSending}
use Rattle.network_runner.proofs.sending.send_all.Given as goal

abbrev pub invariant-loop-l : goal.invariant-loop-l
invariant-loop-l g l =
    IsSending (map g.A.Firing.cell l.net.cells) l.outlets (take l.l l.links) (g.D.Drains.channels l.initial.drains) (g.D.Drains.channels l.drains) l.initial.writers l.writers
