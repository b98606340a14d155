use Rattle.std.proofs.Common.{length}
use Rattle.check_routine.proofs.Walks.{AreBehind}
use Rattle.check_routine.proofs.formal.formals.Given as goal

abbrev pub invariant-formals : goal.invariant-formals
invariant-formals l = AreBehind l.locals.items l.seen l.rest l.initial.rest l.names

abbrev pub decreases-formals : goal.decreases-formals
decreases-formals l = length l.rest
