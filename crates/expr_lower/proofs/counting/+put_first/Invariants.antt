use Rattle.std.proofs.Common.{length}
use Rattle.expr_lower.proofs.counting.+put_first.Given as goal

abbrev pub decreases-put_first : goal.decreases-put_first
decreases-put_first l = length l.gens.now
