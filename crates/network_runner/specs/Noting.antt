-- The lines of a round on their way to the trace's channel.
-- Trusted but for `closing_line` and `close_text`: part of what a promise means.
use Rattle.std.specs.Prelude.{◌≡◌, ℕ, List, map, Result, Option, None, Some, option_to_list}
use Rattle.rvc_io.specs.Channels.{Channels}
use Rattle.trace_text.specs.declared.line.Line.{Line}
use Rattle.trace_text.specs.declared.line.Line.TheVariants.{Grow as GrowLine}
use Rattle.net_model.specs.Cell.{Cell}
use Rattle.net_model.specs.Paced.{Block, lines_of}
use Rattle.round_runner.specs.declared.outcome.RoundEnd.{RoundEnd}
use Rattle.round_runner.specs.declared.outcome.RoundEnd.TheVariants as round
use Rattle.round_runner.specs.Firings.{journals}
use Rattle.round_runner.specs.Rounds.{Answers, end_line, text_of}
use Rattle.round_runner.specs.Writing.{Noted, NotedFront}

-- the line that closes a round which is answered so, if there is one
abbrev pub closing_line : RoundEnd → Option Line
closing_line (round.Fired n) = None
closing_line round.Idle = None
closing_line (round.Grew link capacity) = Some (GrowLine link.0 capacity)
closing_line (round.End how) = end_line how

abbrev pub close_text : RoundEnd → List ℕ
close_text answer = text_of (option_to_list (closing_line answer))

module _ {C X S A E : Type 0} (cell : C → Cell X) (channels : S → Channels) (cells : List C)
    (answer : RoundEnd) (old new : S) where
  -- if all went well the lines of a round that is answered so, and whose firings the journals name, were written
  abbrev pub NotesRound : (pending pending_new : List ℕ) → Result A E → Type 0
  NotesRound pending pending_new result = (block : Block) → Answers answer block
      → journals (map cell cells) ≡ block.bursts
      → Noted channels old new pending pending_new (text_of (lines_of block)) result

  -- else the channel got a prefix of them
  abbrev pub NotesFront : (pending : List ℕ) → Result A E → Type 0
  NotesFront pending result = (block : Block) → Answers answer block
      → journals (map cell cells) ≡ block.bursts
      → NotedFront channels old new pending (text_of (lines_of block)) result
