use Rattle.std.proofs.Common.{◌≡◌, ◌∙◌, Some, ap, sym}
use Rattle.std.specs.Prelude.{slice_get}
use Rattle.std.proofs.lemmas.Option.{slice_get-get_or}
use Rattle.lowered_actor.specs.Actor.{actor_of}
use Rattle.lower_scratch.proofs.Looping.{may-call}
use Rattle.lower_scratch.proofs.edges.may_call.Goals as goal

pub returns-in-Some : goal.returns-in-Some
returns-in-Some c = λ enters.
    let found = c.in-Some.ensures.lookup in
    let there : slice_get c.args.routines.now c.args.r ≡ Some c.in-Some.callee.now =
    slice_get-get_or c.args.routines.now c.args.r c.in-Some.callee.now found.3.0 ∙ ap Some (sym found.1) in
    may-call (actor_of c.args.parts.now) c.args.routines.now c.args.body.now c.args.place c.args.r c.in-Some.callee.now there (c.may_enter.ensures enters)
