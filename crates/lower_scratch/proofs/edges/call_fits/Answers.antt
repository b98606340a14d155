use Rattle.std.proofs.Common.{◌≡◌, subst}
use Rattle.lowered_actor.specs.Actor.{actor_of}
use Rattle.lower_scratch.specs.Fitting.{MayCall}
use Rattle.lower_scratch.proofs.edges.call_fits.Goals as goal

pub returns-in-Some : goal.returns-in-Some
returns-in-Some c = λ may r e.
    let same : c.in-Some.r ≡ r = let is = c.in-Some.is in let ens = c.called.ensures in cc in
    subst (λ k. MayCall (actor_of c.args.parts.now) c.args.routines.now c.args.body.now c.args.place k) same (c.may_call.ensures may)
