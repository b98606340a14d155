use Rattle.std.proofs.Common.{◌≡◌, true, drop}
use Rattle.lowered_actor.specs.Actor.{actor_of}
use Rattle.lowered_actor.specs.Straight.{body_at, stores}
use Rattle.lowered_actor.proofs.straight.stores.Given as goal

abbrev pub invariant-loop-place : goal.invariant-loop-place
invariant-loop-place l = stores l.cell (drop l.place l.instrs) ≡ true → stores l.cell (body_at (actor_of l.parts) l.entry) ≡ true
