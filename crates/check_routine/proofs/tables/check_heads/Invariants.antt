use Rattle.std.proofs.Common.{◌≡◌, ℕ, length}
use Rattle.const_env.specs.Counting.{names_view}
use Rattle.cal_check.specs.Actors.{funs_in, heads_broken}
use Rattle.check_routine.specs.Heads.{members_tree}
use Rattle.check_routine.proofs.tables.check_heads.Given as goal

abbrev pub invariant-members : goal.invariant-members
invariant-members l = (file : ℕ) → heads_broken (funs_in file (members_tree l.rest)) (names_view l.names) ≡ heads_broken (funs_in file (members_tree l.initial.rest)) (names_view l.names)

abbrev pub decreases-members : goal.decreases-members
decreases-members l = length l.rest
