-- What comes of the tags of a text.
-- Trusted: part of what a promise means.
use Rattle.std.specs.Prelude.{List, [], ◌∷◌, Option, None}
use Rattle.fnl_markup.specs.Tags.{Tag, opens, closes}
use Rattle.fnl_frames.specs.Net.{Net}
use Rattle.fnl_frames.specs.Frames.{Frame, outside}
use Rattle.fnl_read.specs.States.{State, Next, Going, Fault}
use Rattle.fnl_read.specs.Opening.{opened}
use Rattle.fnl_read.specs.Closing.{closed}

abbrev pub step : Tag → State → Next
step (opens name attributes at) s = opened name attributes at s
step (closes at) s = closed at s

-- what comes of several tags
abbrev pub run : Next → List Tag → Next
run next [] = next
run (Going s) (tag ∷ tags) = run (step tag s) tags
run (Fault rule at) (tag ∷ tags) = Fault rule at

abbrev pub net_in : Frame → Option Net
net_in (outside net) = net
net_in frame = None
