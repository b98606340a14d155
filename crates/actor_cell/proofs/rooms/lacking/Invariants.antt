use Rattle.std.specs.Prelude.{ℕ, ◌<◌}
use Rattle.actor_cell.specs.Queues.{IsInRoom}
use Rattle.actor_cell.proofs.rooms.lacking.Given as goal

abbrev pub invariant-loop-port : goal.invariant-loop-port
invariant-loop-port l = (q : ℕ) → q < l.port → IsInRoom l.outboxes l.gives l.rooms q
