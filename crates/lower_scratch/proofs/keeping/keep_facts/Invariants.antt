use Rattle.std.proofs.Common.{take}
use Rattle.std.specs.Prelude.{All}
use Rattle.lowered_actor.specs.Actor.{action_of, actor_of}
use Rattle.lower_scratch.specs.Fitting.{HasBodies}
use Rattle.lower_scratch.proofs.keeping.keep_facts.Given as goal

abbrev pub invariant-loop-action : goal.invariant-loop-action
invariant-loop-action l = All (λ a. HasBodies (actor_of l.parts) (action_of a)) (take l.action-index l.parts.actions.items)
