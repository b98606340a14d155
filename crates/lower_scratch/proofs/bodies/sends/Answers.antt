use Rattle.lowered_actor.specs.Actor.{action_of, actor_of}
use Rattle.lower_scratch.proofs.Looping.{sends-more, sends-whole}
use Rattle.lower_scratch.proofs.bodies.sends.Goals as goal

pub loop-place-preserved : goal.loop-place-preserved
loop-place-preserved c =
    sends-more (actor_of c.args.parts.now) (action_of c.args.action.now) c.args.body.now c.loop-place.place c.loop-place.invariant (c.sends_at.ensures c.if-not-sends_at.false)

pub returns : goal.returns
returns c = λ done.
    sends-whole (actor_of c.args.parts.now) (action_of c.args.action.now) c.args.body.now c.loop-place.place c.args.body.now.end c.loop-place-test.false c.loop-place.invariant
