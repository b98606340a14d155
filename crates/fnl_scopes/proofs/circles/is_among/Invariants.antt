use Rattle.std.proofs.Common.{◌≡◌, map, length}
use Rattle.fnl_bind.specs.Library.{is_among}
use Rattle.std.specs.Prelude.{string_bytes}
use Rattle.fnl_scopes.proofs.circles.is_among.Given as goal

abbrev pub invariant-names : goal.invariant-names
invariant-names l = is_among l.name (map string_bytes l.rest) ≡ is_among l.name (map string_bytes l.initial.rest)

abbrev pub decreases-names : goal.decreases-names
decreases-names l = length l.rest
