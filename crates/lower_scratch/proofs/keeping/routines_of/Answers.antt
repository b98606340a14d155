use Rattle.std.proofs.Common.{subst}
use Rattle.lowered_actor.specs.Actor.{actor_of}
use Rattle.lower_scratch.specs.Fitting.{IsRoutine}
use Rattle.lower_scratch.proofs.Looping.{routines-more}
use Rattle.lower_scratch.proofs.keeping.routines_of.Goals as goal

pub loop-r-preserved : goal.loop-r-preserved
loop-r-preserved c =
    routines-more (actor_of c.args.parts.now) c.args.firing c.loop-r.routines.items c.push.new.self.items c.in_ok-body.body c.loop-r.r c.in_ok-push.ensures.items c.loop-r.invariant.0 c.loop-r.invariant.1
    (λ body e. subst (λ rs. IsRoutine (actor_of c.args.parts.now) rs c.args.firing c.loop-r.r body) c.deref.ensures.value (c.in_ok-body.ensures body e))
