use Rattle.std.proofs.Common.{◌≡◌, ℕ, ◌+◌, ◌<◌, ◌≤◌, true}
use Rattle.lowered_actor.specs.Actor.{actor_of}
use Rattle.lowered_actor.specs.Straight.{may_store}
use Rattle.lower_scratch.proofs.stores.each_may_store.Given as goal

abbrev pub invariant-loop-k : goal.invariant-loop-k
invariant-loop-k l = (d : ℕ) → l.cell ≤ d → d < l.cell + l.k → may_store (actor_of l.parts) l.firing d ≡ true
