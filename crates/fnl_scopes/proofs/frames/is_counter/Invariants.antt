use Rattle.std.proofs.Common.{◌≡◌, length}
use Rattle.fnl_bind.specs.Library.{is_among}
use Rattle.fnl_scopes.specs.View.{counters}
use Rattle.fnl_scopes.proofs.frames.is_counter.Given as goal

abbrev pub invariant-backwards : goal.invariant-backwards
invariant-backwards l = is_among l.name (counters l.rest) ≡ is_among l.name (counters l.initial.rest)

abbrev pub decreases-backwards : goal.decreases-backwards
decreases-backwards l = length l.rest
