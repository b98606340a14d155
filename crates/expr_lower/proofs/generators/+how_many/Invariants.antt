use Rattle.std.proofs.Common.{length}
use Rattle.expr_lower.proofs.generators.+how_many.Given as goal

abbrev pub decreases-how_many : goal.decreases-how_many
decreases-how_many l = length l.gens.now
