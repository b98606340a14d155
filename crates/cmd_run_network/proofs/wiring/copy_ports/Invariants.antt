use Rattle.std.proofs.Common.{◌≡◌, ◌++◌, map, length}
use Rattle.net_model.specs.Ready.{port_of}
use Rattle.cmd_run_network.proofs.wiring.copy_ports.Given as goal

abbrev pub invariant-ports : goal.invariant-ports
invariant-ports l = map port_of l.copy.items ++ map port_of l.rest ≡ map port_of l.initial.rest

abbrev pub decreases-ports : goal.decreases-ports
decreases-ports l = length l.rest
