use Rattle.std.proofs.Common.{◌≡◌, true, drop}
use Rattle.lowered_actor.specs.Actor.{action_of, actor_of}
use Rattle.lowered_actor.specs.Straight.{body_at, is_line}
use Rattle.lowered_actor.proofs.straight.is_line.Given as goal

abbrev pub invariant-loop-place : goal.invariant-loop-place
invariant-loop-place l = is_line (actor_of l.parts) (action_of l.action) l.firing (drop l.place l.instrs) ≡ true
    → is_line (actor_of l.parts) (action_of l.action) l.firing (body_at (actor_of l.parts) l.entry) ≡ true
