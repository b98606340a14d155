-- What the code answers, beside what it means.
-- Not trusted: no promise is read with it.
use Rattle.std.specs.Prelude.{◌≡◌, Result, Ok, Err}
use Rattle.fnl_expr.specs.declared.stop.Stop.{Stop}
use Rattle.fnl_expr.specs.declared.stop.Stop.TheVariants as stops
use Rattle.fnl_frames.specs.Frames.{Frame}
use Rattle.fnl_frames.specs.Views.{frame_of}
use Rattle.fnl_frames.specs.declared.frame.Frame.{Frame as TheFrame}

-- the frame is what is meant, or memory was refused
abbrev pub Becomes : Frame → Result TheFrame Stop → Type 0
Becomes meant (Ok frame) = frame_of frame ≡ meant
Becomes meant (Err (stops.Broken rule at)) = ⊥
Becomes meant (Err stops.Memory) = Unit {0}
