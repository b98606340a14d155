use Rattle.std.proofs.Common.{◌≡◌, map, length}
use Rattle.fnl_bind.specs.Scopes.{unknown_in_instances}
use Rattle.fnl_frames.specs.Views.{instance_of}
use Rattle.fnl_scopes.proofs.parts.known_instances.Given as goal

abbrev pub invariant-instances : goal.invariant-instances
invariant-instances l = unknown_in_instances (map instance_of l.rest) l.names ≡ unknown_in_instances (map instance_of l.initial.rest) l.names

abbrev pub decreases-instances : goal.decreases-instances
decreases-instances l = length l.rest
