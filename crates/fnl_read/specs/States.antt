-- What a reader of elements has at hand between two tags, and what a tag brings.
-- Trusted: part of what a promise means.
use Rattle.std.specs.Prelude.{ℕ, List, [], None}
use Rattle.rvc_base.specs.declared.refusal.Rule.{Rule}
use Rattle.fnl_frames.specs.Frames.{Frame, outside}

pub record State : Type 0 where
  pub top : Frame
  -- the elements round it, the innermost first
  pub below : List Frame

-- nothing was read
abbrev pub fresh : State
fresh = record { top = outside None; below = [] }

-- it goes on, or a rule is broken at an offset
pub data Next : Type 0 where
  Going : State → Next
  Fault : (rule : Rule) (at : ℕ) → Next
