use Rattle.lowered_actor.specs.Actor.{action_of, actor_of}
use Rattle.lower_scratch.specs.Fitting.{Sends}
use Rattle.lower_scratch.proofs.bodies.sends.Given as goal

abbrev pub invariant-loop-place : goal.invariant-loop-place
invariant-loop-place l = Sends (actor_of l.parts) (action_of l.action) l.body l.place
