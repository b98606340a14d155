use Rattle.lowered_actor.proofs.Lawful.{is-lawful}
use Rattle.lowered_actor.proofs.laws.lowered_actors_are_lawful.Goals as goal

pub returns : goal.returns
returns c = λ actor lowered. is-lawful actor lowered c.stands.ensures.next c.stands.ensures.first
