use Rattle.std.proofs.Common.{List, ℕ, true, subst}
use Rattle.lowered_actor.specs.Actor.{actor_of}
use Rattle.lower_scratch.specs.declared.body.Last.TheVariants as last
use Rattle.lower_scratch.specs.Fitting.{FitsBody}
use Rattle.lower_scratch.proofs.keeping.keeps_firing.Goals as goal

pub returns : goal.returns
returns c = λ done. record {
  routines = c.args.routines.now;
  are = c.requires.are;
  body = c.in_ok-body.body;
  begins = c.in_ok-body.ensures;
  first = c.none_is_set.ensures c.if-not-none_is_set.false;
  fits = subst (λ (needs : List ℕ). FitsBody (actor_of c.args.parts.now) c.args.routines.now true needs last.Done c.in_ok-body.body) c.deref.ensures.value (c.fits_body.ensures c.if-not-fits_body.false);
  sends = λ e. c.sends.ensures done;
}
