use Rattle.std.proofs.Common.{◌≡◌, length, map}
use Rattle.cal_model.specs.View.{local_view}
use Rattle.lower_actor.specs.Calls.{with_starts}
use Rattle.lower_actor.proofs.calls.add_starts.Given as goal

abbrev pub invariant-locals : goal.invariant-locals
invariant-locals l = with_starts l.b (map local_view l.rest) l.calls ≡ with_starts l.b (map local_view l.locals) l.initial.calls

abbrev pub decreases-locals : goal.decreases-locals
decreases-locals l = length l.rest
