use Rattle.actor_cell.specs.Core.{seen}
use Rattle.actor_cell.proofs.Turns.{fired-more}
use Rattle.actor_cell.proofs.firing.CellFiring.burst.Goals as goal

pub loop-turn-preserved : goal.loop-turn-preserved
loop-turn-preserved c = fired-more c.args.rooms.now c.loop-turn._turn (seen c.args.self.now) (seen c.loop-turn.self) (seen c.turn.new.self) c.loop-turn.invariant
    c.in-None.ensures.turned.0 c.in-None.ensures.turned.1
