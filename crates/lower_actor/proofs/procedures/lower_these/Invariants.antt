use Rattle.std.proofs.Common.{length}
use Rattle.lower_actor.specs.RoutineWords.{MadeProcedures}
use Rattle.lower_actor.proofs.procedures.lower_these.Given as goal

abbrev pub invariant-numbers : goal.invariant-numbers
invariant-numbers l = MadeProcedures l.b l.callees l.procedures.items l.made.items l.draft

abbrev pub decreases-numbers : goal.decreases-numbers
decreases-numbers l = length l.rest
