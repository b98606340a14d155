use Rattle.lowered_actor.specs.Actor.{number_on}
use Rattle.lowered_actor.specs.Facts.{cells_from}
use Rattle.actor_cell.specs.Queues.{sent_to}
use Rattle.actor_cell.proofs.Ports.{IsChangedUpTo}
use Rattle.actor_cell.proofs.rooms.send_each.Given as goal

abbrev pub invariant-loop-p : goal.invariant-loop-p
invariant-loop-p l = IsChangedUpTo l.p
    (λ p q. sent_to q (cells_from l.cells.numbers (number_on l.action.sends.items p) (number_on l.action.gives.items p))) l.initial.outboxes l.outboxes
