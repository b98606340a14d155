use Rattle.std.proofs.Common.{◌≡◌, ◌++◌, length}
use Rattle.cal_model.specs.Tags.{each_above}
use Rattle.check_member.proofs.priorities.add_above.Given as goal

abbrev pub invariant-higher : goal.invariant-higher
invariant-higher l = l.pairs.items ++ each_above l.rest l.lower ≡ l.initial.pairs.items ++ each_above l.initial.rest l.lower

abbrev pub decreases-higher : goal.decreases-higher
decreases-higher l = length l.rest
