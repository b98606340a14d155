use Rattle.std.proofs.Common.{◌≡◌, length, map}
use Rattle.cal_model.specs.View.{proc_view}
use Rattle.const_env.specs.Counting.{names_view}
use Rattle.cal_check.specs.Actors.{formals_broken, procs_in, procs_of}
use Rattle.cal_check.specs.Violations.{all_fine}
use Rattle.check_member.specs.Parts.{members_tree}
use Rattle.check_variable.specs.Faults.{behind}
use Rattle.check_actor.proofs.built.procedures.Given as goal

abbrev pub invariant-members : goal.invariant-members
invariant-members l = record {
  formals : formals_broken (procs_in (members_tree l.rest)) (names_view l.names) ≡ formals_broken (procs_in (members_tree l.initial.rest)) (names_view l.names);
  procs : behind (map proc_view l.found) (all_fine (procs_of (procs_in (members_tree l.rest)) (names_view l.names)))
      ≡ all_fine (procs_of (procs_in (members_tree l.initial.rest)) (names_view l.names));
}

abbrev pub decreases-members : goal.decreases-members
decreases-members l = length l.rest
