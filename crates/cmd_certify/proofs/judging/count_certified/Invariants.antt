use Rattle.std.proofs.Common.{◌≡◌, ◌+◌, ◌≤◌, ◌<◌, length}
use Rattle.std.specs.Prelude.{All}
use Rattle.cmd_network.specs.Commands.{count_none}
use Rattle.cmd_certify.specs.Steps.{said_at}
use Rattle.cmd_certify.proofs.judging.count_certified.Given as goal

abbrev pub invariant-places : goal.invariant-places
invariant-places l = (l.count + count_none (said_at l.all l.rest) ≡ count_none (said_at l.all l.initial.rest))
    × (l.count + length l.rest ≤ length l.initial.rest) × All (λ p. p < length l.all) l.rest

abbrev pub decreases-places : goal.decreases-places
decreases-places l = length l.rest
