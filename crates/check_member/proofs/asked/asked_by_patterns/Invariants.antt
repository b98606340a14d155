use Rattle.std.proofs.Common.{◌≡◌, ◌++◌, length}
use Rattle.cal_check.specs.Ports.{each_asked}
use Rattle.check_member.specs.Asking.{asked_views, patterns_tree}
use Rattle.check_member.proofs.asked.asked_by_patterns.Given as goal

abbrev pub invariant-patterns : goal.invariant-patterns
invariant-patterns l = asked_views l.asked.items ++ each_asked (patterns_tree l.rest) ≡ each_asked (patterns_tree l.initial.rest)

abbrev pub decreases-patterns : goal.decreases-patterns
decreases-patterns l = length l.rest
