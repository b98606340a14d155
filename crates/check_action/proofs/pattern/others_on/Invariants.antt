use Rattle.std.proofs.Common.{◌≡◌, length}
use Rattle.const_env.specs.Counting.{names_view}
use Rattle.cal_check.specs.Actions.{patterns_on}
use Rattle.cal_check.specs.Violations.{all_broken, said}
use Rattle.check_member.specs.Asking.{patterns_tree}
use Rattle.check_action.proofs.pattern.others_on.Given as goal

abbrev pub invariant-patterns : goal.invariant-patterns
invariant-patterns l =
    said l.passes (all_broken (patterns_on (patterns_tree l.rest) l.left (names_view l.names)))
    ≡ said l.passes (all_broken (patterns_on (patterns_tree l.initial.rest) l.initial.left (names_view l.names)))

abbrev pub decreases-patterns : goal.decreases-patterns
decreases-patterns l = length l.rest
