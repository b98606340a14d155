use Rattle.std.proofs.Common.{◌≡◌, map, length}
use Rattle.fnl_bind.specs.Scopes.{unknown_in_parameters}
use Rattle.fnl_frames.specs.Views.{parameter_of}
use Rattle.fnl_scopes.proofs.parts.known_parameters.Given as goal

abbrev pub invariant-parameters : goal.invariant-parameters
invariant-parameters l = unknown_in_parameters (map parameter_of l.rest) l.names ≡ unknown_in_parameters (map parameter_of l.initial.rest) l.names

abbrev pub decreases-parameters : goal.decreases-parameters
decreases-parameters l = length l.rest
