use Rattle.std.proofs.Common.{length}
use Rattle.expr_lower.proofs.generators.+makes_none.Given as goal

abbrev pub decreases-makes_none : goal.decreases-makes_none
decreases-makes_none l = length l.gens.now
