use Rattle.std.proofs.Common.{List, length}
use Rattle.cal_check.specs.Routines.{FunDecl}
use Rattle.check_functions.specs.Order.{Extends}
use Rattle.check_functions.proofs.order.open_all.Given as goal

abbrev pub invariant-names : goal.invariant-names
invariant-names l = (fs : List FunDecl) → Extends fs l.initial.order l.order

abbrev pub decreases-names : goal.decreases-names
decreases-names l = length l.rest
