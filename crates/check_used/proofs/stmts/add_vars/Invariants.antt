use Rattle.std.proofs.Common.{◌≡◌, length}
use Rattle.check_used.specs.Naming.{vars_tree, with_names}
use Rattle.check_used.proofs.stmts.add_vars.Given as goal

abbrev pub invariant-vars : goal.invariant-vars
invariant-vars l = with_names (vars_tree l.rest) l.names ≡ with_names (vars_tree l.initial.rest) l.initial.names

abbrev pub decreases-vars : goal.decreases-vars
decreases-vars l = length l.rest
