use Rattle.std.proofs.Common.{◌≡◌, length}
use Rattle.const_env.specs.Counting.{names_view}
use Rattle.cal_check.specs.Actions.{each_guard}
use Rattle.cal_check.specs.Violations.{all_broken, said}
use Rattle.check_member.specs.Parts.{exprs_tree}
use Rattle.check_action.proofs.guards.guards.Given as goal

abbrev pub invariant-guards : goal.invariant-guards
invariant-guards l = said l.passes (all_broken (each_guard (exprs_tree l.rest) (names_view l.names)))
    ≡ said l.passes (all_broken (each_guard (exprs_tree l.initial.rest) (names_view l.names)))

abbrev pub decreases-guards : goal.decreases-guards
decreases-guards l = length l.rest
