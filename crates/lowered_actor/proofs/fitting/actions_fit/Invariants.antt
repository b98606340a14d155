use Rattle.std.proofs.Common.{All, take}
use Rattle.lowered_actor.specs.Actor.{action_of, actor_of}
use Rattle.lowered_actor.specs.Facts.{Fits}
use Rattle.lowered_actor.proofs.fitting.actions_fit.Given as goal

abbrev pub invariant-loop-action : goal.invariant-loop-action
invariant-loop-action l = All (λ a. Fits (actor_of l.parts) (action_of a)) (take l.action-index l.parts.actions.items)
