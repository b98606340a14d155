use Rattle.std.proofs.Common.{◌≡◌, map, length}
use Rattle.fnl_bind.specs.Scopes.{unknown_in_ports}
use Rattle.fnl_frames.specs.Views.{port_of}
use Rattle.fnl_scopes.proofs.parts.known_ports.Given as goal

abbrev pub invariant-ports : goal.invariant-ports
invariant-ports l = unknown_in_ports (map port_of l.rest) l.names ≡ unknown_in_ports (map port_of l.initial.rest) l.names

abbrev pub decreases-ports : goal.decreases-ports
decreases-ports l = length l.rest
