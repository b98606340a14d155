use Rattle.std.specs.Prelude.{◌≡◌, take}
use Rattle.network_runner.specs.Counting.{arrived_with, rests_with}
use Rattle.network_runner.proofs.counting.count_arrived.Given as goal

abbrev pub invariant-loop-l : goal.invariant-loop-l
invariant-loop-l l = (l.arrived ≡ arrived_with (take l.l l.came) l.initial.arrived) × (l.rests ≡ rests_with (take l.l l.came) l.initial.rests)
