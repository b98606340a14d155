use Rattle.std.proofs.Common.{◌≡◌, ◌++◌, length, map}
use Rattle.check_member.proofs.priorities.add_below.Given as goal

abbrev pub invariant-lower : goal.invariant-lower
invariant-lower l = l.pairs.items ++ map (λ b. (l.action, b)) l.rest ≡ l.initial.pairs.items ++ map (λ b. (l.action, b)) l.initial.rest

abbrev pub decreases-lower : goal.decreases-lower
decreases-lower l = length l.rest
