use Rattle.actor_cell.proofs.Asking.{picked-to-fire}
use Rattle.actor_cell.proofs.cell.Cell.turn.Goals as goal

pub fire-requires-clause-to_fire : goal.fire-requires-clause-to_fire
fire-requires-clause-to_fire c = picked-to-fire c.look_at.new.self c.outs-outs.ensures.lawful c.in-Ready.action.0 c.in-Ready.ensures.looks.0
