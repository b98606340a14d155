use Rattle.std.proofs.Common.{◌≡◌, length}
use Rattle.check_used.specs.Naming.{patterns_tree, with_names}
use Rattle.check_used.proofs.members.add_patterns.Given as goal

abbrev pub invariant-patterns : goal.invariant-patterns
invariant-patterns l = with_names (patterns_tree l.rest) l.names ≡ with_names (patterns_tree l.initial.rest) l.initial.names

abbrev pub decreases-patterns : goal.decreases-patterns
decreases-patterns l = length l.rest
