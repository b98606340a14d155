use Rattle.check_functions.specs.Known.{fun_decls}
use Rattle.check_functions.proofs.Visiting.{extends_then}
use Rattle.check_functions.proofs.order.visit.Goals as goal

pub returns-in_default-clause-extends : goal.returns-in_default-clause-extends
returns-in_default-clause-extends c =
    let fs = fun_decls c.args.funs.now in
    extends_then fs c.args.order.now c.open_name.new.order c.loop-passed.order (c.in_ok-open_name.ensures fs) c.loop-passed.invariant

pub loop-passed-preserved : goal.loop-passed-preserved
loop-passed-preserved c =
    extends_then (fun_decls c.args.funs.now) c.open_name.new.order c.loop-passed.order c.pass.new.order c.loop-passed.invariant c.in_ok-pass.ensures

pub returns-then-not-branch-clause-extends : goal.returns-then-not-branch-clause-extends
returns-then-not-branch-clause-extends c =
    let fs = fun_decls c.args.funs.now in
    extends_then fs c.args.order.now c.loop-passed.order c.pass.new.order
    (extends_then fs c.args.order.now c.open_name.new.order c.loop-passed.order (c.in_ok-open_name.ensures fs) c.loop-passed.invariant) c.in_ok-pass.ensures

pub returns-clause-extends : goal.returns-clause-extends
returns-clause-extends c =
    let fs = fun_decls c.args.funs.now in
    extends_then fs c.args.order.now c.open_name.new.order c.loop-passed.order (c.in_ok-open_name.ensures fs) c.loop-passed.invariant
