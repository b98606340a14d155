use Rattle.std.proofs.Common.{length}
use Rattle.expr_lower.proofs.routines.+take_formals.Given as goal

abbrev pub decreases-take_formals : goal.decreases-take_formals
decreases-take_formals l = length l.formals.now
