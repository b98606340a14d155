use Rattle.std.proofs.Common.{◌≡◌, true}
use Rattle.lowered_actor.specs.Actor.{action_of, actor_of}
use Rattle.lowered_actor.specs.Straight.{body_at, stores_sent}
use Rattle.lowered_actor.proofs.straight.stores_sent.Given as goal

abbrev pub invariant-loop-p : goal.invariant-loop-p
invariant-loop-p l = stores_sent (action_of l.action) l.p (body_at (actor_of l.parts) l.action.fire) ≡ true
