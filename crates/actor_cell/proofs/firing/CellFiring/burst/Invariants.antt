use Rattle.actor_cell.specs.Core.{seen}
use Rattle.actor_cell.proofs.Turns.{HasFired}
use Rattle.actor_cell.proofs.firing.CellFiring.burst.Given as goal

-- so many selected firings were made
abbrev pub invariant-loop-turn : goal.invariant-loop-turn
invariant-loop-turn l = HasFired l.rooms l._turn (seen l.initial.self) (seen l.self)
