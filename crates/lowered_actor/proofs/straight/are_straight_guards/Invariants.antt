use Rattle.std.proofs.Common.{◌≡◌, true, take}
use Rattle.std.specs.List.{list_all}
use Rattle.lowered_actor.specs.Actor.{action_of, actor_of}
use Rattle.lowered_actor.specs.Straight.{is_straight_guard}
use Rattle.lowered_actor.proofs.straight.are_straight_guards.Given as goal

abbrev pub invariant-loop-entry : goal.invariant-loop-entry
invariant-loop-entry l = list_all (is_straight_guard (actor_of l.parts) (action_of l.action)) (take l.entry-index l.action.guards.items) ≡ true
