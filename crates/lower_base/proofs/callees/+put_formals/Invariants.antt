use Rattle.std.proofs.Common.{length}
use Rattle.lower_base.proofs.callees.+put_formals.Given as goal

abbrev pub decreases-put_formals : goal.decreases-put_formals
decreases-put_formals l = length l.formals.now
