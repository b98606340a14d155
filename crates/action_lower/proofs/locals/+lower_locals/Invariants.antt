use Rattle.std.proofs.Common.{length}
use Rattle.action_lower.proofs.locals.+lower_locals.Given as goal

abbrev pub decreases-lower_locals : goal.decreases-lower_locals
decreases-lower_locals l = length l.locals.now
