use Rattle.lowered_actor.specs.Actor.{actor_of}
use Rattle.lower_scratch.proofs.Looping.{fits-more, fits-whole}
use Rattle.lower_scratch.proofs.bodies.all_fit.Goals as goal

pub loop-place-preserved : goal.loop-place-preserved
loop-place-preserved c =
    fits-more (actor_of c.args.parts.now) c.args.routines.now c.args.firing c.args.needs.now c.args.last c.args.body.now c.loop-place.place c.loop-place.invariant
    (c.fits_here.ensures c.if-not-fits_here.false)

pub returns : goal.returns
returns c = λ done.
    fits-whole (actor_of c.args.parts.now) c.args.routines.now c.args.firing c.args.needs.now c.args.last c.args.body.now c.loop-place.place c.args.body.now.end c.loop-place-test.false c.loop-place.invariant
