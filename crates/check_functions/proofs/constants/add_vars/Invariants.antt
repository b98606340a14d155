use Rattle.std.proofs.Common.{◌≡◌, length, false}
use Rattle.check_functions.specs.Needs.{vars_tree, with_needs}
use Rattle.check_functions.proofs.constants.add_vars.Given as goal

abbrev pub invariant-vars : goal.invariant-vars
invariant-vars l = with_needs false (vars_tree l.rest) l.needs ≡ with_needs false (vars_tree l.initial.rest) l.initial.needs

abbrev pub decreases-vars : goal.decreases-vars
decreases-vars l = length l.rest
