use Rattle.std.specs.Prelude.{◌≡◌, true, take}
use Rattle.net_model.specs.Paced.{none_of}
use Rattle.round_runner.proofs.choosing.picks_none.Given as goal

abbrev pub invariant-loop-k : goal.invariant-loop-k
invariant-loop-k l = none_of (take l.k l.marks) ≡ true
