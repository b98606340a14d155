use Rattle.std.proofs.Common.{◌≡◌, ◌++◌, length, map}
use Rattle.cal_model.specs.Kinding.{Fine}
use Rattle.cal_model.specs.View.{pattern_view}
use Rattle.const_env.specs.Counting.{names_view}
use Rattle.cal_check.specs.Actions.{patterns_on}
use Rattle.check_member.specs.Asking.{patterns_tree}
use Rattle.check_action.proofs.pattern.patterns_on.Given as goal

abbrev pub invariant-patterns : goal.invariant-patterns
invariant-patterns l =
    patterns_on (patterns_tree l.initial.rest) l.initial.left (names_view l.names)
    ≡ map Fine (map pattern_view l.found.items) ++ patterns_on (patterns_tree l.rest) l.left (names_view l.names)

abbrev pub decreases-patterns : goal.decreases-patterns
decreases-patterns l = length l.rest
