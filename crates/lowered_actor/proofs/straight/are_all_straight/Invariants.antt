use Rattle.std.proofs.Common.{◌≡◌, true, take}
use Rattle.std.specs.List.{list_all}
use Rattle.lowered_actor.specs.Actor.{action_of, actor_of}
use Rattle.lowered_actor.specs.Straight.{is_straight}
use Rattle.lowered_actor.proofs.straight.are_all_straight.Given as goal

abbrev pub invariant-loop-action : goal.invariant-loop-action
invariant-loop-action l = list_all (λ a. is_straight (actor_of l.parts) (action_of a)) (take l.action-index l.parts.actions.items) ≡ true
