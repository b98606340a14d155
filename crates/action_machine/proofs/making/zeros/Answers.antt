use Rattle.action_machine.proofs.Zeros.{zeros-more}
use Rattle.action_machine.proofs.making.zeros.Goals as goal

pub loop-k-preserved : goal.loop-k-preserved
loop-k-preserved c = rw c.in_ok-push.ensures.items (zeros-more c.loop-k._k c.loop-k.zeros.items c.loop-k.invariant)
