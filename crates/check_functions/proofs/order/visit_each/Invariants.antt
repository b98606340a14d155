use Rattle.std.proofs.Common.{length}
use Rattle.check_functions.specs.Known.{fun_decls}
use Rattle.check_functions.specs.Order.{Extends}
use Rattle.check_functions.proofs.order.visit_each.Given as goal

abbrev pub invariant-names : goal.invariant-names
invariant-names l = Extends (fun_decls l.funs) l.initial.order l.order

abbrev pub decreases-names : goal.decreases-names
decreases-names l = length l.rest
