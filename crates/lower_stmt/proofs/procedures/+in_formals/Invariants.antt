use Rattle.std.proofs.Common.{length}
use Rattle.lower_stmt.proofs.procedures.+in_formals.Given as goal

abbrev pub decreases-in_formals : goal.decreases-in_formals
decreases-in_formals l = length l.formals.now
