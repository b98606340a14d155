use Rattle.std.proofs.Common.{◌≡◌, map, length}
use Rattle.fnl_bind.specs.Scopes.{keyed_ports, named_twice}
use Rattle.fnl_frames.specs.Views.{port_of}
use Rattle.fnl_scopes.specs.Behind.{twice_behind}
use Rattle.fnl_scopes.proofs.once.ports_once.Given as goal

abbrev pub invariant-ports : goal.invariant-ports
invariant-ports l = twice_behind l.names (keyed_ports (map port_of l.rest)) ≡ named_twice (keyed_ports (map port_of l.initial.rest))

abbrev pub decreases-ports : goal.decreases-ports
decreases-ports l = length l.rest
