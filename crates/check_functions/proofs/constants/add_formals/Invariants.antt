use Rattle.std.proofs.Common.{◌≡◌, length, false}
use Rattle.check_functions.specs.Needs.{formals_tree, with_needs}
use Rattle.check_functions.proofs.constants.add_formals.Given as goal

abbrev pub invariant-formals : goal.invariant-formals
invariant-formals l = with_needs false (formals_tree l.rest) l.needs ≡ with_needs false (formals_tree l.initial.rest) l.initial.needs

abbrev pub decreases-formals : goal.decreases-formals
decreases-formals l = length l.rest
