use Rattle.std.specs.Prelude.{◌≡◌}
use Rattle.round_runner.proofs.UpTo.{picked_before}
use Rattle.round_runner.proofs.choosing.count_marks.Given as goal

abbrev pub invariant-loop-k : goal.invariant-loop-k
invariant-loop-k l = l.count ≡ picked_before l.marks l.k
