use Rattle.std.proofs.Common.{length}
use Rattle.const_env.specs.Counting.{names_view}
use Rattle.check_fold.specs.Seeing.{seen_behind}
use Rattle.check_build_routine.proofs.UntypedSteps.{AreBeforeUpTo}
use Rattle.check_build_routine.proofs.untyped.up_to_untyped.Given as goal

abbrev pub invariant-each : goal.invariant-each
invariant-each l = AreBeforeUpTo l.locals.items l.rest (seen_behind l.behind l.names) l.initial.rest (names_view l.names)

abbrev pub decreases-each : goal.decreases-each
decreases-each l = length l.rest
