use Rattle.std.proofs.Common.{length}
use Rattle.check_given.specs.Placing.{LeadBehind}
use Rattle.check_given.proofs.values.put_places.Given as goal

abbrev pub invariant-backwards : goal.invariant-backwards
invariant-backwards l = LeadBehind l.places.entries l.rest l.initial.rest

abbrev pub decreases-backwards : goal.decreases-backwards
decreases-backwards l = length l.rest
