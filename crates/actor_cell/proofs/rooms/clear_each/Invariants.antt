use Rattle.std.specs.Prelude.{[]}
use Rattle.actor_cell.proofs.Ports.{IsChangedUpTo}
use Rattle.actor_cell.proofs.rooms.clear_each.Given as goal

abbrev pub invariant-loop-p : goal.invariant-loop-p
invariant-loop-p l = IsChangedUpTo l.p (λ p q. record { tokens = []; capacity = q.capacity }) l.initial.outboxes l.outboxes
