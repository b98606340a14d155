use Rattle.std.proofs.Common.{◌≡◌, map, length}
use Rattle.fnl_bind.specs.Scopes.{unknown_in_connections}
use Rattle.fnl_frames.specs.Views.{connection_of}
use Rattle.fnl_scopes.proofs.parts.known_connections.Given as goal

abbrev pub invariant-connections : goal.invariant-connections
invariant-connections l = unknown_in_connections (map connection_of l.rest) l.names ≡ unknown_in_connections (map connection_of l.initial.rest) l.names

abbrev pub decreases-connections : goal.decreases-connections
decreases-connections l = length l.rest
