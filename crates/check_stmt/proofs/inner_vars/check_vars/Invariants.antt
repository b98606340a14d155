use Rattle.std.proofs.Common.{length}
use Rattle.const_env.specs.Counting.{names_view}
use Rattle.check_stmt.specs.Declaring.{seen_behind}
use Rattle.check_stmt.proofs.Walks.{AreBehind}
use Rattle.check_stmt.proofs.inner_vars.check_vars.Given as goal

abbrev pub invariant-vars : goal.invariant-vars
invariant-vars l = AreBehind l.passes l.rest (seen_behind l.found l.names) l.initial.rest (names_view l.names)

abbrev pub decreases-vars : goal.decreases-vars
decreases-vars l = length l.rest
