use Rattle.std.proofs.Common.{List, map, length}
use Rattle.std.specs.Prelude.{string_bytes}
use Rattle.check_functions.specs.Said.{Saying, Says}
use Rattle.check_functions.proofs.needs.Needs.say.Given as goal

abbrev pub invariant-names : goal.invariant-names
invariant-names l = (last : List Saying) → Says (map string_bytes l.rest) l.place l.said last → Says (map string_bytes l.initial.rest) l.place l.initial.said last

abbrev pub decreases-names : goal.decreases-names
decreases-names l = length l.rest
