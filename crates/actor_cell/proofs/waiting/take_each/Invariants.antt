use Rattle.lowered_actor.specs.Actor.{number_on}
use Rattle.actor_cell.specs.Queues.{taken_from}
use Rattle.actor_cell.proofs.Ports.{IsChangedUpTo}
use Rattle.actor_cell.proofs.waiting.take_each.Given as goal

abbrev pub invariant-loop-p : goal.invariant-loop-p
invariant-loop-p l = IsChangedUpTo l.p (λ p q. taken_from (number_on l.needs p) q) l.initial.rings l.rings
