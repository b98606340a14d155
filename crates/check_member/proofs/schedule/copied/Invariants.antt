use Rattle.std.proofs.Common.{◌≡◌, ◌++◌, length, map, string_bytes}
use Rattle.check_member.proofs.schedule.copied.Given as goal

abbrev pub invariant-names : goal.invariant-names
invariant-names l = map string_bytes l.copied.items ++ map string_bytes l.rest ≡ map string_bytes l.initial.rest

abbrev pub decreases-names : goal.decreases-names
decreases-names l = length l.rest
