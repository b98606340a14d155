use Rattle.std.proofs.Common.{◌≡◌, length, ◌++◌, map}
use Rattle.fnl_frames.specs.Views.{instance_of}
use Rattle.fnl_files.specs.Requests.{instance_request}
use Rattle.fnl_files.specs.SoFar.{waiting_of}
use Rattle.fnl_files.proofs.requests.push_instances.Given as goal

abbrev pub invariant-instances : goal.invariant-instances
invariant-instances l = waiting_of l.waiting ++ map (instance_request l.file) (map instance_of l.rest) ≡ waiting_of l.initial.waiting ++ map (instance_request l.initial.file) (map instance_of l.initial.rest)

abbrev pub decreases-instances : goal.decreases-instances
decreases-instances l = length l.rest
