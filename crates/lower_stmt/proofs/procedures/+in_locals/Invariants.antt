use Rattle.std.proofs.Common.{length}
use Rattle.lower_stmt.proofs.procedures.+in_locals.Given as goal

abbrev pub decreases-in_locals : goal.decreases-in_locals
decreases-in_locals l = length l.locals.now
