use Rattle.std.proofs.Common.{◌≡◌, ◌≤◌, ◌<◌, List, subst, length}
use Rattle.std.specs.Prelude.{slice_index_or}
use Rattle.std.proofs.lemmas.List.Elements.{All-map}
use Rattle.lowered_actor.specs.declared.parts.ActionCode.{ActionCode}
use Rattle.lowered_actor.specs.Actor.{action_of, actor_of}
use Rattle.lowered_actor.specs.Facts.{Fits}
use Rattle.lowered_actor.proofs.Loops.{all-one-more, all-whole}
use Rattle.lowered_actor.proofs.fitting.actions_fit.Goals as goal

pub loop-action-preserved : goal.loop-action-preserved
loop-action-preserved c =
    all-one-more (λ a. Fits (actor_of c.args.parts.now) (action_of a)) c.args.parts.now.actions.items c.loop-action.action-index c.action-item.result
    (subst (λ (l : List ActionCode). c.loop-action.action-index < length l) c.deref-action-items.ensures.value c.loop-action-test.true)
    (subst (λ (l : List ActionCode). c.action-item.result ≡ slice_index_or l c.loop-action.action-index c.action-item.result) c.deref-action-items.ensures.value c.action-item.is)
    c.loop-action.invariant (c.fits.ensures c.if-not-fits.false)

pub returns : goal.returns
returns c = λ done.
    All-map (Fits (actor_of c.args.parts.now)) action_of c.args.parts.now.actions.items
    (all-whole (λ a. Fits (actor_of c.args.parts.now) (action_of a)) c.args.parts.now.actions.items c.loop-action.action-index
    (subst (λ (l : List ActionCode). length l ≤ c.loop-action.action-index) c.deref-action-items.ensures.value c.loop-action-test.false) c.loop-action.invariant)
