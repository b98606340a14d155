use Rattle.lower_scratch.proofs.Clearing.{stand-right}
use Rattle.lower_scratch.proofs.laws.standing_bodies_are_right.Goals as goal

pub returns : goal.returns
returns c = λ actor all. stand-right actor c.has_one_end.ensures.once all
