use Rattle.std.proofs.Common.{◌≡◌, length, map}
use Rattle.cal_model.specs.View.{pattern_view}
use Rattle.const_env.specs.Counting.{names_view}
use Rattle.cal_check.specs.Actions.{with_all_patterns}
use Rattle.check_member.specs.Asking.{port_views}
use Rattle.check_stmt.specs.Declaring.{seen_behind}
use Rattle.check_action.proofs.behind.pattern_names.Given as goal

abbrev pub invariant-patterns : goal.invariant-patterns
invariant-patterns l =
    with_all_patterns (port_views l.ins) (map pattern_view l.rest) (seen_behind l.seen l.names)
    ≡ with_all_patterns (port_views l.ins) (map pattern_view l.initial.rest) (names_view l.names)

abbrev pub decreases-patterns : goal.decreases-patterns
decreases-patterns l = length l.rest
