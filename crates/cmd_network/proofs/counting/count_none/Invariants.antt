use Rattle.std.proofs.Common.{◌≡◌, ◌+◌, ◌≤◌, length}
use Rattle.cmd_network.specs.Commands.{count_none}
use Rattle.cmd_network.proofs.counting.count_none.Given as goal

abbrev pub invariant-said : goal.invariant-said
invariant-said l = (l.count + count_none l.rest ≡ count_none l.initial.rest)
    × (l.count + length l.rest ≤ length l.initial.rest)

abbrev pub decreases-said : goal.decreases-said
decreases-said l = length l.rest
