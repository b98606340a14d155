use Rattle.std.proofs.Common.{length}
use Rattle.rvc_engine.specs.Built.{AreJudged}
use Rattle.rvc_engine.proofs.Compiled.{PlacesSoFar}
use Rattle.rvc_engine.proofs.compiling.uncertified_at.Given as goal

abbrev pub invariant-places : goal.invariant-places
invariant-places l = PlacesSoFar (λ actors. AreJudged actors l.said.items) l.initial.rest l.rest l.all

abbrev pub decreases-places : goal.decreases-places
decreases-places l = length l.rest
