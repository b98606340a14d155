-- What a reader stands for.
-- Trusted: part of what a promise means.
use Rattle.fnl_expr.specs.Stack.{stack}
use Rattle.fnl_frames.specs.Views.{frame_of}
use Rattle.fnl_read.specs.States.{State}
use Rattle.fnl_read.specs.declared.reader.Reader.{Reader}

abbrev pub state_of : Reader → State
state_of r = record { top = frame_of r.top; below = stack frame_of r.below.items }
