-- Drains in memory.
-- Trusted: part of what a promise means.
use Rattle.std.specs.Prelude.{◌≡◌, ℕ, ◌≤◌, ◌-◌, Bool, true, false, ◌||◌, List, [], Option, None, Some, All, map, length, min, nat_le, is_some, unwrap_or, slice_index_or, vec_capacity, if◌then◌else◌}
use Rattle.rvc_io.specs.Calls.{CallCount, is_listed}
use Rattle.rvc_io.specs.Channels.{Channels}
use Rattle.rvc_io.specs.Past.{Done}
use Rattle.rvc_io.specs.declared.mem_drains.Channel.{Channel}

-- the most bytes that a call moves, the most that a channel holds, for each channel the bytes that it
-- holds if it is open, the calls, and what was done
pub record DrainsState : Type 0 where
  pub step : ℕ
  pub room : ℕ
  pub held : List (Option (List ℕ))
  pub calls : CallCount
  pub past : List Done

-- what a channel holds, if it is open
abbrev pub held_by : Channel → Option (List ℕ)
held_by c = if c.is_open then Some c.bytes.items else None

-- what each channel holds
abbrev pub held_by_each : List Channel → List (Option (List ℕ))
held_by_each channels = map held_by channels

-- a channel has memory for its room, holds no more, and holds nothing before it is open
pub record HasRoom (room : ℕ) (c : Channel) : Type 0 where
  pub memory : room ≤ vec_capacity c.bytes
  pub within : length c.bytes.items ≤ room
  pub closed_holds_nothing : c.is_open ≡ false → c.bytes.items ≡ []

abbrev pub EachHasRoom : ℕ → List Channel → Type 0
EachHasRoom room channels = All (HasRoom room) channels

-- what an open channel holds
abbrev pub held_on : DrainsState → ℕ → Option (List ℕ)
held_on d channel = slice_index_or d.held channel None

-- a channel is open
abbrev pub channel_is_open : DrainsState → ℕ → Bool
channel_is_open d channel = is_some (held_on d channel)

-- what a channel holds, which is nothing if it isn't open
abbrev pub bytes_held : DrainsState → ℕ → List ℕ
bytes_held d channel = unwrap_or (held_on d channel) []

-- what is known of the channels, which is all
abbrev pub channels_of : DrainsState → Channels
channels_of d =
    record {
      tells = true;
      held = bytes_held d;
      is_open = channel_is_open d;
      faults = d.calls.faults;
    }

-- an opening of the channel fails: it is listed, or there is no such channel
abbrev pub opening_fails : DrainsState → ℕ → Bool
opening_fails d channel = is_listed d.calls || nat_le (length d.held) channel

-- a put on the channel fails: it is listed, or the channel's room is used up
abbrev pub put_fails : DrainsState → ℕ → Bool
put_fails d channel = is_listed d.calls || nat_le d.room (length (bytes_held d channel))

-- how many bytes a call takes of a piece of this length, into a channel that holds so many
abbrev pub taken : DrainsState → ℕ → ℕ → ℕ
taken d piece held = min (min piece d.step) (d.room - held)
