use Rattle.std.proofs.Common.{◌≡◌, [], drop}
use Rattle.check_functions.specs.Known.{fun_decls}
use Rattle.check_functions.specs.Order.{names_met}
use Rattle.check_functions.proofs.order.fun_names.Given as goal

abbrev pub invariant-loop-f : goal.invariant-loop-f
invariant-loop-f l = names_met l.names (fun_decls (drop l.f-index l.funs)) ≡ names_met [] (fun_decls l.funs)
