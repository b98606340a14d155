-- What a call wrote to a channel, by its answer.
-- Trusted: part of what a promise means.
use Rattle.std.specs.Prelude.{ℕ, List, ◌++◌, Result, OnOk, OnErr}
use Rattle.rvc_io.specs.Channels.{Channels}
use Rattle.channel_writer.specs.Held.{AppendsFront, WritesOn}
use Rattle.round_runner.specs.declared.TheConstants.{TRACE_CHANNEL}

module _ {S A E : Type 0} (channels : S → Channels) (old new : S) (channel : ℕ) where
  -- if all went well, this text was written
  abbrev pub Wrote : (pending pending_new text : List ℕ) → Result A E → Type 0
  Wrote pending pending_new text result =
      OnOk result (WritesOn channel (channels old) (channels new) pending pending_new text)

  -- else the channel got a prefix of what was buffered and of the text
  abbrev pub Broke : (pending text : List ℕ) → Result A E → Type 0
  Broke pending text result =
      OnErr result (AppendsFront channel (channels old) (channels new) (pending ++ text))

-- the same of the trace
module _ {S A E : Type 0} (channels : S → Channels) (old new : S) where
  abbrev pub Noted : (pending pending_new text : List ℕ) → Result A E → Type 0
  Noted pending pending_new text result =
      OnOk result (WritesOn TRACE_CHANNEL (channels old) (channels new) pending pending_new text)

  abbrev pub NotedFront : (pending text : List ℕ) → Result A E → Type 0
  NotedFront pending text result =
      OnErr result (AppendsFront TRACE_CHANNEL (channels old) (channels new) (pending ++ text))
