use Rattle.std.proofs.Common.{length}
use Rattle.lower_actor.specs.RoutineWords.{MadeFunctions}
use Rattle.lower_actor.proofs.functions.lower_these.Given as goal

abbrev pub invariant-numbers : goal.invariant-numbers
invariant-numbers l = MadeFunctions l.b l.callees.items l.made.items l.draft

abbrev pub decreases-numbers : goal.decreases-numbers
decreases-numbers l = length l.rest
