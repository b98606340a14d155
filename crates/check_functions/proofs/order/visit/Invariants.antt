use Rattle.check_functions.specs.Known.{fun_decls}
use Rattle.check_functions.specs.Order.{Extends}
use Rattle.check_functions.proofs.order.visit.Given as goal

abbrev pub invariant-loop-passed : goal.invariant-loop-passed
invariant-loop-passed l = Extends (fun_decls l.funs) l.initial.order l.order
