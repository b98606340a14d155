use Rattle.std.proofs.Common.{◌≡◌, length}
use Rattle.lowered_actor.specs.Actor.{actor_of}
use Rattle.lower_scratch.specs.Fitting.{AreRoutines}
use Rattle.lower_scratch.proofs.keeping.routines_of.Given as goal

abbrev pub invariant-loop-r : goal.invariant-loop-r
invariant-loop-r l = AreRoutines (actor_of l.parts) l.firing l.routines.items × (length l.routines.items ≡ l.r)
