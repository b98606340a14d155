use Rattle.std.proofs.Common.{◌≡◌, ◌+◌, ◌≤◌, ◌<◌, length}
use Rattle.std.specs.Prelude.{All}
use Rattle.cmd_certify.specs.Steps.{said_at, status_from}
use Rattle.cmd_certify.proofs.judging.status_of_leaves.Given as goal

abbrev pub invariant-places : goal.invariant-places
invariant-places l = (status_from l.leaf (said_at l.all l.rest) ≡ status_from 0 (said_at l.all l.initial.rest))
    × (l.leaf + length l.rest ≤ length l.initial.rest) × All (λ p. p < length l.all) l.rest

abbrev pub decreases-places : goal.decreases-places
decreases-places l = length l.rest
