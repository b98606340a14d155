use Rattle.std.proofs.Common.{length}
use Rattle.const_env.specs.Counting.{names_view}
use Rattle.cal_check.specs.Actors.{formals_broken, procs_in}
use Rattle.cal_check.specs.Variables.{found_in}
use Rattle.check_member.specs.Parts.{members_tree}
use Rattle.check_actor.specs.Sifting.{IsLeft}
use Rattle.check_actor.proofs.sifting.sift_members.Given as goal

abbrev pub invariant-members : goal.invariant-members
invariant-members l = IsLeft (found_in l.file (formals_broken (procs_in (members_tree l.rest)) (names_view l.names)))
    (found_in l.file (formals_broken (procs_in (members_tree l.initial.rest)) (names_view l.names)))

abbrev pub decreases-members : goal.decreases-members
decreases-members l = length l.rest
