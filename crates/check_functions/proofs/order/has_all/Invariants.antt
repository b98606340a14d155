use Rattle.std.proofs.Common.{◌≡◌, map, length}
use Rattle.std.specs.Prelude.{string_bytes}
use Rattle.check_functions.specs.Order.{all_seen}
use Rattle.check_functions.proofs.order.has_all.Given as goal

abbrev pub invariant-names : goal.invariant-names
invariant-names l = all_seen (map string_bytes l.rest) (l.order).names ≡ all_seen l.names (l.order).names

abbrev pub decreases-names : goal.decreases-names
decreases-names l = length l.rest
