use Rattle.std.proofs.Common.{◌≡◌, ℕ, ◌+◌, ◌<◌, true}
use Rattle.lowered_actor.specs.Actor.{action_of, actor_of, number_on}
use Rattle.lower_scratch.specs.Rows.{is_set}
use Rattle.lower_scratch.proofs.bodies.sends_are_set.Given as goal

abbrev pub invariant-loop-port : goal.invariant-loop-port
invariant-loop-port l = (port k : ℕ) → port < l.port → k < number_on (action_of l.action).gives port
    → is_set (actor_of l.parts).kept l.body l.place (number_on (action_of l.action).sends port + k) ≡ true
