use Rattle.check_functions.specs.Known.{fun_decls}
use Rattle.check_functions.proofs.Visiting.{extends_same, extends_then}
use Rattle.check_functions.proofs.order.visit_each.Goals as goal

pub names-init : goal.names-init
names-init c = extends_same (fun_decls c.args.funs.now) c.args.order.now

pub names-preserved : goal.names-preserved
names-preserved c = extends_then (fun_decls c.args.funs.now) c.args.order.now c.names.order c.visit.new.order c.names.invariant c.in_ok-visit.ensures.extends
