use Rattle.lowered_actor.proofs.StraightFacts.{straight-right}
use Rattle.lowered_actor.specs.Actor.{actor_of}
use Rattle.lowered_actor.proofs.parts.Parts.are_straight.Goals as goal

pub returns-clause-right : goal.returns-clause-right
returns-clause-right c = λ done. straight-right (actor_of c.args.self.now) c.most_operands-most.ensures.admitted c.never_stuck.ensures c.has_one_end.ensures.once c.requires.fits (c.are_all_straight.ensures done)
