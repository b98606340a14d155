use Rattle.std.proofs.Common.{◌≡◌, [], length, map}
use Rattle.cal_model.specs.Kinding.{known_as}
use Rattle.const_env.specs.Counting.{named_by, known_variable}
use Rattle.const_env.proofs.inside.counter_in.Given as goal

abbrev pub invariant-backwards : goal.invariant-backwards
invariant-backwards l = known_as l.name (map known_variable (named_by l.rest [])) ≡ known_as l.name (map known_variable (named_by l.initial.rest []))

abbrev pub decreases-backwards : goal.decreases-backwards
decreases-backwards l = length l.rest
