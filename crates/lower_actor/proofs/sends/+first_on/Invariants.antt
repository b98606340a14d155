use Rattle.std.proofs.Common.{length}
use Rattle.lower_actor.proofs.sends.+first_on.Given as goal

abbrev pub decreases-first_on : goal.decreases-first_on
decreases-first_on l = length l.outputs.now
