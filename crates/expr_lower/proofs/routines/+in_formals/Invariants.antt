use Rattle.std.proofs.Common.{length}
use Rattle.expr_lower.proofs.routines.+in_formals.Given as goal

abbrev pub decreases-in_formals : goal.decreases-in_formals
decreases-in_formals l = length l.formals.now
