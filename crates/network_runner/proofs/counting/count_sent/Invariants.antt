use Rattle.std.specs.Prelude.{◌≡◌, map, take}
use Rattle.network_runner.specs.Counting.{sent_with}
use Rattle.network_runner.proofs.counting.count_sent.Given as goal

abbrev pub invariant-loop-l : goal.invariant-loop-l
invariant-loop-l g l = l.sent ≡ sent_with (map g.A.Firing.cell l.net.cells) (take l.l l.links) l.initial.sent
