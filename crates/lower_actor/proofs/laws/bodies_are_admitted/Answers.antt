use Rattle.lower_actor.proofs.BodyRows.{bodies-admitted}
use Rattle.lower_actor.proofs.laws.bodies_are_admitted.Goals as goal

pub returns : goal.returns
returns c = bodies-admitted
