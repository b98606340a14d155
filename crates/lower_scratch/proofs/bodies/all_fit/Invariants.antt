use Rattle.lowered_actor.specs.Actor.{actor_of}
use Rattle.lower_scratch.specs.Fitting.{FitsAll}
use Rattle.lower_scratch.proofs.bodies.all_fit.Given as goal

abbrev pub invariant-loop-place : goal.invariant-loop-place
invariant-loop-place l = FitsAll (actor_of l.parts) l.routines l.firing l.needs l.last l.body l.place
