use Rattle.std.proofs.Common.{length}
use Rattle.const_env.specs.Counting.{names_view}
use Rattle.check_fold.specs.Seeing.{seen_behind}
use Rattle.check_fold.proofs.VarSteps.{AreWrittenUpTo}
use Rattle.check_fold.proofs.var_decl.vars.Given as goal

abbrev pub invariant-each : goal.invariant-each
invariant-each l = AreWrittenUpTo l.vars.items l.rest (seen_behind l.behind l.names) l.initial.rest (names_view l.names)

abbrev pub decreases-each : goal.decreases-each
decreases-each l = length l.rest
