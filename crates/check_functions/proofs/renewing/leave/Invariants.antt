use Rattle.std.proofs.Common.{List, ℕ, length}
use Rattle.check_functions.specs.Left.{Leaves}
use Rattle.check_functions.proofs.renewing.leave.Given as goal

abbrev pub invariant-places : goal.invariant-places
invariant-places l = (last : List ℕ) → Leaves l.rest l.left.keys last → Leaves l.places l.initial.left.keys last

abbrev pub decreases-places : goal.decreases-places
decreases-places l = length l.rest
