use Rattle.std.proofs.Common.{◌≡◌, map, length}
use Rattle.fnl_bind.specs.Scopes.{keyed_instances, named_twice}
use Rattle.fnl_frames.specs.Views.{instance_of}
use Rattle.fnl_scopes.specs.Behind.{twice_behind}
use Rattle.fnl_scopes.proofs.once.instances_once.Given as goal

abbrev pub invariant-instances : goal.invariant-instances
invariant-instances l = twice_behind l.names (keyed_instances (map instance_of l.rest)) ≡ named_twice (keyed_instances (map instance_of l.initial.rest))

abbrev pub decreases-instances : goal.decreases-instances
decreases-instances l = length l.rest
