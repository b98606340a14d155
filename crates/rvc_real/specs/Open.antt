-- Which of numbered files are open, what was done with them, and what is told of them.
-- Trusted: part of what a promise means.
use Rattle.std.specs.Prelude.{ℕ, List, Bool, true, false, ◌||◌, ◌==◌, None, slice_index_or}
use Rattle.rvc_io.specs.Channels.{Channels}
use Rattle.rvc_io.specs.Feeds.{Inputs}
use Rattle.rvc_io.specs.Past.{Done, passed}

-- for each number whether its file is open, how many calls failed, and what was done
pub record OpenState : Type 0 where
  pub flags : List Bool
  pub faults : ℕ
  pub past : List Done

-- the file of this number is open
abbrev pub is_open_at : List Bool → ℕ → Bool
is_open_at flags number = slice_index_or flags number false

-- a feed is open
abbrev pub feed_is_open : OpenState → ℕ → Bool
feed_is_open f feed = is_open_at f.flags feed

-- a channel is open, and channel 0 always is
abbrev pub channel_is_open : OpenState → ℕ → Bool
channel_is_open d channel = (channel == 0) || is_open_at d.flags channel

-- what is known of the feeds: none of their bytes
abbrev pub inputs_of : OpenState → Inputs
inputs_of f =
    record {
      under = λ name. None;
      left = λ feed. None;
      is_open = feed_is_open f;
      faults = f.faults;
    }

-- what is known of the channels: the bytes that they took
abbrev pub channels_of : OpenState → Channels
channels_of d =
    record {
      tells = true;
      held = passed d.past;
      is_open = channel_is_open d;
      faults = d.faults;
    }
