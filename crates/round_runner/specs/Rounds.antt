-- What a round does, by its answer, and what a run does.
-- Trusted: part of what a promise means.
use Rattle.std.specs.Prelude.{◌≡◌, ◌⊎◌, ℕ, suc, ◌+◌, ◌<◌, ◌==◌, true, false, List, [], ◌++◌, ℤ, length, drop, flat_map, slice_index_or, option_to_list, Option, None, Some}
use Rattle.rvc_io.specs.Channels.{Appends, Channels}
use Rattle.rvc_io.specs.Feeds.{Inputs}
use Rattle.channel_writer.specs.Held.{AppendsFront, WritesOn}
use Rattle.trace_text.specs.declared.line.Line.{Line}
use Rattle.trace_text.specs.declared.line.Line.TheVariants.{Quiet, Trap as TrapLine, Stall, Budget}
use Rattle.trace_text.specs.Text.{line_text}
use Rattle.net_model.specs.declared.wiring.Counts.{Counts}
use Rattle.net_model.specs.Network.{Network, kind_at}
use Rattle.net_model.specs.State.{State, sent_to}
use Rattle.net_model.specs.Cell.{Cell}
use Rattle.net_model.specs.Counted.{IsCounted}
use Rattle.net_model.specs.Paced.{AreRounds, Block, Ends, GoesOn, IsRound, Moment, Pace, Widens, count_of, lines_of}
use Rattle.net_model.specs.PacingLaws.{CanBegin}
use Rattle.net_model.specs.PortFile.{all_encoded}
use Rattle.net_model.specs.Trace.{played}
use Rattle.round_runner.specs.declared.outcome.RoundEnd.{RoundEnd}
use Rattle.round_runner.specs.declared.outcome.RoundEnd.TheVariants as round
use Rattle.round_runner.specs.declared.outcome.RunEnd.{RunEnd}
use Rattle.round_runner.specs.declared.outcome.RunEnd.TheVariants as end
use Rattle.round_runner.specs.Pulling.{NeedsPull}
use Rattle.round_runner.specs.Running.{Running, StandsWith, buffer, moment_of, pace_of}

-- What is written.

-- the tokens that go out to network output p when all that had been sent at the first state has gone out
abbrev pub gone_since : {X : Type 0} → Network X → ℕ → State X → List ℤ → List ℤ
gone_since net p s tokens = drop (length (sent_to p net.links s.flows)) tokens

abbrev pub out_bytes : {X : Type 0} → Network X → ℕ → State X → List ℤ → List ℕ
out_bytes net p s tokens = all_encoded (kind_at net.outs p) (gone_since net p s tokens)

-- each output that has a channel got the bytes of its tokens
abbrev pub EachOut : {X : Type 0} → Network X → Running (Cell X) → (ℕ → List ℕ → Type 0)
    → State X → (ℕ → List ℤ) → Type 0
EachOut net run P s tokens = (p : ℕ) → slice_index_or run.writes p false ≡ true
    → P p (out_bytes net p s (tokens p))

-- the trace got a text, of which a part may be buffered; it got the whole; it got a prefix
abbrev pub TraceGetsSome : {C : Type 0} → Running C → Running C → Channels → Channels → List ℕ
    → Type 0
TraceGetsSome run new old now text = WritesOn 1 old now run.trace new.trace text

abbrev pub TraceGetsAll : {C : Type 0} → Running C → Channels → Channels → List ℕ → Type 0
TraceGetsAll run old now text = Appends 1 old now (run.trace ++ text)

abbrev pub TraceGetsFront : {C : Type 0} → Running C → Channels → Channels → List ℕ → Type 0
TraceGetsFront run old now text = AppendsFront 1 old now (run.trace ++ text)

-- the same of network output p
abbrev pub OutGetsSome : {C : Type 0} → Running C → Running C → Channels → Channels → ℕ → List ℕ
    → Type 0
OutGetsSome run new old now p text =
    WritesOn (2 + p) old now (buffer run p) (buffer new p) text

abbrev pub OutGetsAll : {C : Type 0} → Running C → Channels → Channels → ℕ → List ℕ → Type 0
OutGetsAll run old now p text = Appends (2 + p) old now (buffer run p ++ text)

abbrev pub OutGetsFront : {C : Type 0} → Running C → Channels → Channels → ℕ → List ℕ → Type 0
OutGetsFront run old now p text = AppendsFront (2 + p) old now (buffer run p ++ text)

abbrev pub text_of : List Line → List ℕ
text_of lines = flat_map line_text lines

-- Answers.

-- the line of an end; a fault has none
abbrev pub end_line : RunEnd → Option Line
end_line end.Quiet = Some Quiet
end_line (end.Trapped inst action trap) = Some (TrapLine inst.0 action.0 trap)
end_line (end.Stalled inst action link) = Some (Stall inst.0 action.0 link.0)
end_line end.Budget = Some Budget
end_line (end.ReadFault feed) = None
end_line (end.WriteFault channel) = None

-- what a round that wasn't cut off answers
abbrev pub Answers : RoundEnd → Block → Type 0
Answers (round.Fired n) block = (block.close ≡ GoesOn) × (count_of block.bursts ≡ n) × (0 < n)
Answers round.Idle block = (block.close ≡ GoesOn) × (count_of block.bursts ≡ 0)
Answers (round.Grew link capacity) block = block.close ≡ Widens link.0 capacity
Answers (round.End how) block = (line : Line) × (end_line how ≡ Some line)
    × (block.close ≡ Ends line)

-- The numbers go on with the lines: if they counted lines that led to the first state, they count these too now.
abbrev pub CountsOn : {X : Type 0} → Network X → List (List ℕ) → State X → List Line → State X
    → Counts → Counts → Type 0
CountsOn {X} net inputs s lines last counts new = (first : State X) (before : List Line)
    → CanBegin net first → played net first before ≡ Some s
    → IsCounted net inputs first before s counts
    → IsCounted net inputs first (before ++ lines) last new

-- A round was made from this state, and the run goes on. What was sent to outputs goes out at once.
pub record Made {X : Type 0} (net : Network X) (inputs : List (List ℕ)) (budget left : ℕ)
    (s : State X) (answer : RoundEnd) (run new : Running (Cell X)) (feeds : Inputs)
    (old now : Channels) : Type 0 where
  pub block : Block
  pub last : State X
  pub is_round : IsRound net (pace_of run budget) (moment_of run s left) block last
  pub answers : Answers answer block
  pub stands : StandsWith net inputs new feeds last
  pub rounds : new.rounds ≡ suc run.rounds
  pub idle : new.idle ≡ (count_of block.bursts == 0)
  pub trace : TraceGetsSome run new old now (text_of (lines_of block))
  pub outputs : EachOut net run (OutGetsSome run new old now) s
      (λ p. sent_to p net.links last.flows)
  pub counts : CountsOn net inputs s (lines_of block) last run.counts new.counts

-- A round was made, which ended the run. Nothing stays buffered.
pub record Closed {X : Type 0} (net : Network X) (inputs : List (List ℕ)) (budget left : ℕ)
    (s : State X) (how : RunEnd) (run new : Running (Cell X)) (old now : Channels) : Type 0 where
  pub block : Block
  pub last : State X
  pub is_round : IsRound net (pace_of run budget) (moment_of run s left) block last
  pub answers : Answers (round.End how) block
  pub trace : TraceGetsAll run old now (text_of (lines_of block))
  pub outputs : EachOut net run (OutGetsAll run old now) s (λ p. sent_to p net.links last.flows)
  pub counts : CountsOn net inputs s (lines_of block) last run.counts new.counts

-- A feed couldn't be read, of which the delivery has to pull: no line is written, and nothing stays buffered.
pub record CutOff {X : Type 0} (net : Network X) (inputs : List (List ℕ)) (s : State X) (feed : ℕ)
    (run new : Running (Cell X)) (feeds : Inputs) (old now : Channels) : Type 0 where
  pub needs : NeedsPull net inputs s feed feeds
  pub trace : TraceGetsAll run old now []
  pub outputs : EachOut net run (OutGetsAll run old now) s (λ p. sent_to p net.links s.flows)
  pub counts : new.counts ≡ run.counts

-- A channel couldn't be written. Each got a prefix of what was buffered and of its text for the round, if one was made.
pub record Breaks {X : Type 0} (net : Network X) (s last : State X) (lines : List Line)
    (run : Running (Cell X)) (old now : Channels) : Type 0 where
  pub trace : TraceGetsFront run old now (text_of lines)
  pub outputs : EachOut net run (OutGetsFront run old now) s (λ p. sent_to p net.links last.flows)

pub record BreaksRound {X : Type 0} (net : Network X) (budget left : ℕ) (s : State X)
    (run : Running (Cell X)) (old now : Channels) : Type 0 where
  pub block : Block
  pub last : State X
  pub is_round : IsRound net (pace_of run budget) (moment_of run s left) block last
  pub breaks : Breaks net s last (lines_of block) run old now

abbrev pub BrokenOff : {X : Type 0} → Network X → ℕ → ℕ → State X → Running (Cell X)
    → Channels → Channels → Type 0
BrokenOff net budget left s run old now =
    Breaks net s s [] run old now ⊎ BreaksRound net budget left s run old now

-- what a round leaves, by its answer; the budget is what a whole run may spend, if this round is one of it
abbrev pub Leaves : {X : Type 0} → Network X → List (List ℕ) → ℕ → ℕ → State X → RoundEnd
    → Running (Cell X) → Running (Cell X) → Inputs → Channels → Channels → Type 0
Leaves net inputs budget left s (round.Fired n) run new feeds old now =
    Made net inputs budget left s (round.Fired n) run new feeds old now
Leaves net inputs budget left s round.Idle run new feeds old now =
    Made net inputs budget left s round.Idle run new feeds old now
Leaves net inputs budget left s (round.Grew link capacity) run new feeds old now =
    Made net inputs budget left s (round.Grew link capacity) run new feeds old now
Leaves net inputs budget left s (round.End end.Quiet) run new feeds old now =
    Closed net inputs budget left s end.Quiet run new old now
Leaves net inputs budget left s (round.End (end.Trapped inst action trap)) run new feeds old now =
    Closed net inputs budget left s (end.Trapped inst action trap) run new old now
Leaves net inputs budget left s (round.End (end.Stalled inst action link)) run new feeds old now =
    Closed net inputs budget left s (end.Stalled inst action link) run new old now
Leaves net inputs budget left s (round.End end.Budget) run new feeds old now =
    Closed net inputs budget left s end.Budget run new old now
Leaves net inputs budget left s (round.End (end.ReadFault feed)) run new feeds old now =
    CutOff net inputs s feed run new feeds old now
Leaves net inputs budget left s (round.End (end.WriteFault channel)) run new feeds old now =
    BrokenOff net budget left s run old now

-- A run.

-- rounds that were begun from a state, the last of which ended the run if it is there
abbrev pub AreBegunBy : {X : Type 0} → Network X → Pace → Moment X → List Block → Option Block
    → State X → Type 0
AreBegunBy {X} net pace at blocks None last =
    (reached : Moment X) × AreRounds net pace at blocks reached × (reached.state ≡ last)
AreBegunBy {X} net pace at blocks (Some final) last =
    (reached : Moment X) × AreRounds net pace at blocks reached
    × IsRound net pace reached final last

-- A run from this state wrote these lines whole, or without its end.
pub record RunWrote {X : Type 0} (net : Network X) (inputs : List (List ℕ)) (s last : State X)
    (lines : List Line) (run new : Running (Cell X)) (old now : Channels) : Type 0 where
  pub trace : TraceGetsAll run old now (text_of lines)
  pub outputs : EachOut net run (OutGetsAll run old now) s (λ p. sent_to p net.links last.flows)
  pub counts : CountsOn net inputs s lines last run.counts new.counts

abbrev pub all_lines : List Block → List Line
all_lines blocks = flat_map lines_of blocks

-- it ended by its last round
pub record Ended {X : Type 0} (net : Network X) (inputs : List (List ℕ)) (budget : ℕ) (s : State X)
    (how : RunEnd) (run new : Running (Cell X)) (old now : Channels) : Type 0 where
  pub blocks : List Block
  pub final : Block
  pub last : State X
  pub paced : AreBegunBy net (pace_of run budget) (moment_of run s budget) blocks (Some final) last
  pub answers : Answers (round.End how) final
  pub wrote : RunWrote net inputs s last (all_lines blocks ++ lines_of final) run new old now

-- A feed couldn't be read after these rounds, of which the next delivery has to pull: so they are all that were made.
pub record EndedEarly {X : Type 0} (net : Network X) (inputs : List (List ℕ)) (budget : ℕ)
    (s : State X) (feed : ℕ) (run new : Running (Cell X)) (feeds : Inputs)
    (old now : Channels) : Type 0 where
  pub blocks : List Block
  pub last : State X
  pub begun : AreBegunBy net (pace_of run budget) (moment_of run s budget) blocks None last
  pub needs : NeedsPull net inputs last feed feeds
  pub wrote : RunWrote net inputs s last (all_lines blocks) run new old now

-- a channel couldn't be written after these rounds, or in the last of them
pub record EndedBroken {X : Type 0} (net : Network X) (budget : ℕ) (s : State X)
    (run : Running (Cell X)) (old now : Channels) : Type 0 where
  pub blocks : List Block
  pub final : Option Block
  pub last : State X
  pub begun : AreBegunBy net (pace_of run budget) (moment_of run s budget) blocks final last
  pub breaks : Breaks net s last (all_lines (blocks ++ option_to_list final)) run old now

-- what a run leaves, by its end
abbrev pub RunLeaves : {X : Type 0} → Network X → List (List ℕ) → ℕ → State X → RunEnd
    → Running (Cell X) → Running (Cell X) → Inputs → Channels → Channels → Type 0
RunLeaves net inputs budget s end.Quiet run new feeds old now =
    Ended net inputs budget s end.Quiet run new old now
RunLeaves net inputs budget s (end.Trapped inst action trap) run new feeds old now =
    Ended net inputs budget s (end.Trapped inst action trap) run new old now
RunLeaves net inputs budget s (end.Stalled inst action link) run new feeds old now =
    Ended net inputs budget s (end.Stalled inst action link) run new old now
RunLeaves net inputs budget s end.Budget run new feeds old now =
    Ended net inputs budget s end.Budget run new old now
RunLeaves net inputs budget s (end.ReadFault feed) run new feeds old now =
    EndedEarly net inputs budget s feed run new feeds old now
RunLeaves net inputs budget s (end.WriteFault channel) run new feeds old now =
    EndedBroken net budget s run old now
