use Rattle.std.proofs.Common.{length, map}
use Rattle.std.specs.Arc.{arc_value}
use Rattle.lower_actor.specs.Leaves.{StandForActors}
use Rattle.rvc_engine.proofs.Compiled.{PlacesSoFar}
use Rattle.rvc_engine.proofs.compiling.codes_at.Given as goal

abbrev pub invariant-places : goal.invariant-places
invariant-places l = PlacesSoFar (λ actors. StandForActors actors (map arc_value l.codes.items)) l.initial.rest l.rest l.all

abbrev pub decreases-places : goal.decreases-places
decreases-places l = length l.rest
