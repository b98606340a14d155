use Rattle.std.proofs.Common.{◌≡◌, ◌≤◌, ◌<◌, ◌∙◌, List, map, length, subst, true}
use Rattle.std.specs.Prelude.{slice_index_or}
use Rattle.std.proofs.lemmas.List.Folds.{list_all-map}
use Rattle.lowered_actor.specs.declared.parts.ActionCode.{ActionCode}
use Rattle.lowered_actor.specs.Actor.{action_of, actor_of}
use Rattle.lowered_actor.specs.Facts.{Fits}
use Rattle.lowered_actor.specs.Straight.{is_straight}
use Rattle.lowered_actor.proofs.Running.{all-at}
use Rattle.lowered_actor.proofs.Loops.{each-passes, mapped-at}
use Rattle.lowered_actor.proofs.straight.are_all_straight.Goals as goal

pub is_straight-requires : goal.is_straight-requires
is_straight-requires c =
    all-at (Fits (actor_of c.args.parts.now)) (map action_of c.args.parts.now.actions.items) c.loop-action.action-index (action_of c.action-item.result) c.requires.each
    (mapped-at action_of c.args.parts.now.actions.items c.loop-action.action-index c.action-item.result
    (subst (λ (l : List ActionCode). c.loop-action.action-index < length l) c.deref-action-items.ensures.value c.loop-action-test.true)
    (subst (λ (l : List ActionCode). c.action-item.result ≡ slice_index_or l c.loop-action.action-index c.action-item.result) c.deref-action-items.ensures.value c.action-item.is))

pub returns : goal.returns
returns c = λ done.
    list_all-map (is_straight (actor_of c.args.parts.now)) action_of c.args.parts.now.actions.items
    ∙ each-passes (λ a. is_straight (actor_of c.args.parts.now) (action_of a)) c.args.parts.now.actions.items c.loop-action.action-index
    (subst (λ (l : List ActionCode). length l ≤ c.loop-action.action-index) c.deref-action-items.ensures.value c.loop-action-test.false) c.loop-action.invariant
