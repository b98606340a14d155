use Rattle.actor_cell.specs.Queues.{MayHoldEach}
use Rattle.actor_cell.proofs.limits.may_hold_each.Given as goal

abbrev pub invariant-loop-p : goal.invariant-loop-p
invariant-loop-p l = MayHoldEach l.outboxes l.rooms l.p
