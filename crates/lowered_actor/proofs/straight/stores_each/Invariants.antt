use Rattle.std.proofs.Common.{◌≡◌, ◌+◌, ◌-◌, true}
use Rattle.lowered_actor.specs.Actor.{actor_of}
use Rattle.lowered_actor.specs.Straight.{body_at, stores_each}
use Rattle.lowered_actor.proofs.straight.stores_each.Given as goal

abbrev pub invariant-loop-k : goal.invariant-loop-k
invariant-loop-k l = stores_each (l.cell + l.k) (l.n - l.k) (body_at (actor_of l.parts) l.entry) ≡ true
    → stores_each l.cell l.n (body_at (actor_of l.parts) l.entry) ≡ true
