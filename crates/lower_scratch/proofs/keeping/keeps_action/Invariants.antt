use Rattle.std.proofs.Common.{false, take}
use Rattle.std.specs.Prelude.{All}
use Rattle.lowered_actor.specs.Actor.{action_of, actor_of}
use Rattle.lower_scratch.specs.Fitting.{HasBody}
use Rattle.lower_scratch.proofs.keeping.keeps_action.Given as goal

abbrev pub invariant-loop-entry : goal.invariant-loop-entry
invariant-loop-entry l = All (HasBody (actor_of l.parts) (action_of l.action) false) (take l.entry-index l.action.guards.items)
