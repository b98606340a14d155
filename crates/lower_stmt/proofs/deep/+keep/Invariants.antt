use Rattle.std.proofs.Common.{length}
use Rattle.lower_stmt.proofs.deep.+keep.Given as goal

abbrev pub decreases-keep : goal.decreases-keep
decreases-keep l = length l.places.now
