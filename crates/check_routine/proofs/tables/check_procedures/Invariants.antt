use Rattle.std.proofs.Common.{◌≡◌, length, map}
use Rattle.cal_model.specs.View.{proc_view}
use Rattle.const_env.specs.Counting.{names_view}
use Rattle.cal_check.specs.Actors.{procs_broken, procs_in}
use Rattle.cal_check.specs.Violations.{said}
use Rattle.check_routine.specs.Heads.{members_tree}
use Rattle.check_routine.proofs.tables.check_procedures.Given as goal

abbrev pub invariant-members : goal.invariant-members
invariant-members l = said l.passes (procs_broken (procs_in (members_tree l.rest)) (map proc_view l.procs) (names_view l.names))
    ≡ said l.passes (procs_broken (procs_in (members_tree l.initial.rest)) (map proc_view l.procs) (names_view l.names))

abbrev pub decreases-members : goal.decreases-members
decreases-members l = length l.rest
