use Rattle.std.proofs.Common.{◌≡◌, map, length}
use Rattle.fnl_bind.specs.Scopes.{circles}
use Rattle.fnl_frames.specs.Views.{instance_of}
use Rattle.std.specs.Prelude.{string_bytes}
use Rattle.fnl_scopes.proofs.circles.no_circles.Given as goal

abbrev pub invariant-instances : goal.invariant-instances
invariant-instances l = circles (map instance_of l.rest) (map string_bytes l.above) ≡ circles (map instance_of l.initial.rest) (map string_bytes l.above)

abbrev pub decreases-instances : goal.decreases-instances
decreases-instances l = length l.rest
