use Rattle.check_functions.proofs.Visiting.{extends_same, extends_then}
use Rattle.check_functions.proofs.order.open_all.Goals as goal

pub names-init : goal.names-init
names-init c = λ fs. extends_same fs c.args.order.now

pub names-preserved : goal.names-preserved
names-preserved c = λ fs. extends_then fs c.args.order.now c.names.order c.open_name.new.order (c.names.invariant fs) (c.in_ok-open_name.ensures fs)
