use Rattle.std.proofs.Common.{◌≡◌, length}
use Rattle.const_env.specs.Counting.{names_view}
use Rattle.cal_check.specs.Actors.{formals_broken, procs_in}
use Rattle.check_routine.specs.Heads.{members_tree}
use Rattle.check_routine.proofs.tables.check_formals.Given as goal

abbrev pub invariant-members : goal.invariant-members
invariant-members l = formals_broken (procs_in (members_tree l.rest)) (names_view l.names) ≡ formals_broken (procs_in (members_tree l.initial.rest)) (names_view l.names)

abbrev pub decreases-members : goal.decreases-members
decreases-members l = length l.rest
