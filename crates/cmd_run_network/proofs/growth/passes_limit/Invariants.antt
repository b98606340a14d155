use Rattle.std.proofs.Common.{◌≡◌, ◌+◌, length}
use Rattle.fnl_flatten.specs.Links.{max_capacity}
use Rattle.cmd_run_network.specs.Growth.{grown_capacities}
use Rattle.cmd_run_network.proofs.growth.passes_limit.Given as goal

abbrev pub invariant-links : goal.invariant-links
invariant-links l = grown_capacities l.grow l.initial.rest + l.left ≡ grown_capacities l.grow l.rest + max_capacity

abbrev pub decreases-links : goal.decreases-links
decreases-links l = length l.rest
