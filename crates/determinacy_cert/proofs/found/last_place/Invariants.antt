use Rattle.std.proofs.Common.{◌≡◌, ◌≤◌, length, map, drop, None}
use Rattle.std.specs.Prelude.{string_bytes}
use Rattle.determinacy_cert.specs.Deciding.{last_place}
use Rattle.determinacy_cert.proofs.found.last_place.Given as goal

abbrev pub invariant-backwards : goal.invariant-backwards
invariant-backwards l = (l.place ≤ length l.names) × (last_place l.name (map string_bytes (drop l.place l.names)) ≡ None)

abbrev pub decreases-backwards : goal.decreases-backwards
decreases-backwards l = l.place
