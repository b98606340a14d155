use Rattle.std.proofs.Common.{◌≡◌, ◌≤◌, ◌<◌, List, false, map, length, subst, sym, true}
use Rattle.std.specs.Prelude.{slice_index_or}
use Rattle.std.proofs.lemmas.List.Elements.{All-map}
use Rattle.lowered_actor.specs.declared.parts.ActionCode.{ActionCode}
use Rattle.lowered_actor.specs.Actor.{action_of, actor_of}
use Rattle.lowered_actor.specs.Facts.{Fits}
use Rattle.lowered_actor.proofs.Loops.{all-one-more, all-whole, mapped-at}
use Rattle.lowered_actor.proofs.Running.{all-at}
use Rattle.lower_scratch.specs.Fitting.{AreRoutines, HasBodies}
use Rattle.lower_scratch.proofs.Whole.{all-spans, run-right}
use Rattle.lower_scratch.proofs.keeping.keep_facts.Goals as goal

pub keeps_action-requires-clause-fits : goal.keeps_action-requires-clause-fits
keeps_action-requires-clause-fits c =
    all-at (Fits (actor_of c.args.parts.now)) (map action_of c.args.parts.now.actions.items) c.loop-action.action-index (action_of c.action-item.result) c.requires.fits.each
    (mapped-at action_of c.args.parts.now.actions.items c.loop-action.action-index c.action-item.result
    (subst (λ (l : List ActionCode). c.loop-action.action-index < length l) c.deref-action-items.ensures.value c.loop-action-test.true)
    (subst (λ (l : List ActionCode). c.action-item.result ≡ slice_index_or l c.loop-action.action-index c.action-item.result) c.deref-action-items.ensures.value c.action-item.is))

pub keeps_action-requires-clause-guards : goal.keeps_action-requires-clause-guards
keeps_action-requires-clause-guards c = subst (AreRoutines (actor_of c.args.parts.now) false) (sym c.deref.ensures.value) c.in_ok-called_by_guards.ensures

pub keeps_action-requires-clause-firings : goal.keeps_action-requires-clause-firings
keeps_action-requires-clause-firings c = subst (AreRoutines (actor_of c.args.parts.now) true) (sym c.deref-in-loop-action.ensures.value) c.in_ok-called_by_firings.ensures

pub loop-action-preserved : goal.loop-action-preserved
loop-action-preserved c =
    all-one-more (λ a. HasBodies (actor_of c.args.parts.now) (action_of a)) c.args.parts.now.actions.items c.loop-action.action-index c.action-item.result
    (subst (λ (l : List ActionCode). c.loop-action.action-index < length l) c.deref-action-items.ensures.value c.loop-action-test.true)
    (subst (λ (l : List ActionCode). c.action-item.result ≡ slice_index_or l c.loop-action.action-index c.action-item.result) c.deref-action-items.ensures.value c.action-item.is)
    c.loop-action.invariant (c.in_ok-keeps.ensures c.if-not-keeps.false)

pub returns-clause-right : goal.returns-clause-right
returns-clause-right c = λ done.
    run-right (actor_of c.args.parts.now) c.has_one_end.ensures.once
    (all-spans (actor_of c.args.parts.now)
    (All-map (HasBodies (actor_of c.args.parts.now)) action_of c.args.parts.now.actions.items
    (all-whole (λ a. HasBodies (actor_of c.args.parts.now) (action_of a)) c.args.parts.now.actions.items c.loop-action.action-index
    (subst (λ (l : List ActionCode). length l ≤ c.loop-action.action-index) c.deref-action-items.ensures.value c.loop-action-test.false) c.loop-action.invariant)))
