use Rattle.std.specs.Prelude.{◌≡◌, length}
use Rattle.kit_runs.specs.Links.{are_ports_sized}
use Rattle.kit_runs.proofs.sizes.are_ports_sized.Given as goal

abbrev pub invariant-ports : goal.invariant-ports
invariant-ports l = are_ports_sized l.rest ≡ are_ports_sized l.initial.rest

abbrev pub decreases-ports : goal.decreases-ports
decreases-ports l = length l.rest
