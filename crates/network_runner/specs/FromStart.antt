-- What a run leaves that goes from its start to its end: paced lines, whatever the rounds were.
-- Trusted: part of what a promise means.
use Rattle.std.specs.Prelude.{◌≡◌, ◌⊎◌, ℕ, false, List, [], ◌∷◌, ◌++◌, Some}
use Rattle.rvc_io.specs.Channels.{Channels}
use Rattle.rvc_io.specs.Feeds.{Inputs}
use Rattle.trace_text.specs.declared.line.Line.{Line}
use Rattle.net_model.specs.Network.{Network}
use Rattle.net_model.specs.State.{State, sent_to}
use Rattle.net_model.specs.Cell.{Cell}
use Rattle.net_model.specs.Counted.{IsCounted}
use Rattle.net_model.specs.Laws.{AreLawful}
use Rattle.net_model.specs.Paced.{IsBegun, IsPaced, Moment}
use Rattle.net_model.specs.PacingLaws.{CanBegin}
use Rattle.net_model.specs.Trace.{KeepsFrom, PlaysFrom}
use Rattle.net_model.specs.Wired.{IsWired}
use Rattle.round_runner.specs.declared.outcome.RunEnd.{RunEnd}
use Rattle.round_runner.specs.declared.outcome.RunEnd.TheVariants as end
use Rattle.round_runner.specs.Rounds.{Breaks, EachOut, OutGetsAll, RunLeaves, TraceGetsAll, end_line, text_of}
use Rattle.round_runner.specs.Pulling.{NeedsPull}
use Rattle.round_runner.specs.Running.{Running, pace_of}

-- the lines play from the state at the start, and at each moment the links hold at most their capacities
pub record PlaysAndKeeps {X : Type 0} (net : Network X) (grow : ℕ) (s last : State X) (lines : List Line) : Type 0 where
  pub plays : PlaysFrom net grow s lines last
  pub keeps : KeepsFrom net s lines

-- These lines and the bytes of what they sent were written whole, and the numbers count them.
pub record WritesWhole {X : Type 0} (net : Network X) (inputs : List (List ℕ)) (s last : State X)
    (lines : List Line) (run new : Running (Cell X)) (old now : Channels) : Type 0 where
  pub trace : TraceGetsAll run old now (text_of lines)
  pub outputs : EachOut net run (OutGetsAll run old now) s (λ p. sent_to p net.links last.flows)
  pub counted : IsCounted net inputs s lines last new.counts

-- the last line is that of this end
pub record EndsBy (how : RunEnd) (lines : List Line) : Type 0 where
  pub before : List Line
  pub line : Line
  pub line_is : end_line how ≡ Some line
  pub lines_are : lines ≡ before ++ line ∷ []

-- It came to its end: the lines are paced.
pub record RunsWhole {X : Type 0} (net : Network X) (inputs : List (List ℕ)) (budget : ℕ)
    (s : State X) (how : RunEnd) (run new : Running (Cell X)) (old now : Channels) : Type 0 where
  pub lines : List Line
  pub last : State X
  pub paced : IsPaced net (pace_of run budget) s lines last
  pub ends_by : EndsBy how lines
  pub permitted : PlaysAndKeeps net run.grow s last lines
  pub wrote : WritesWhole net inputs s last lines run new old now

-- A feed couldn't be read: the lines are begun. The delivery behind them has to pull from the feed, so they are those of all
-- rounds that were made.
pub record RunsShort {X : Type 0} (net : Network X) (inputs : List (List ℕ)) (budget : ℕ)
    (s : State X) (feed : ℕ) (run new : Running (Cell X)) (feeds : Inputs)
    (old now : Channels) : Type 0 where
  pub lines : List Line
  pub reached : Moment X
  pub begun : IsBegun net (pace_of run budget) s lines reached
  pub needs : NeedsPull net inputs reached.state feed feeds
  pub permitted : PlaysAndKeeps net run.grow s reached.state lines
  pub wrote : WritesWhole net inputs s reached.state lines run new old now

-- A channel couldn't be written: each got a prefix of what begun or paced lines give.
pub record RunsBroken {X : Type 0} (net : Network X) (budget : ℕ) (s : State X)
    (run : Running (Cell X)) (old now : Channels) : Type 0 where
  pub lines : List Line
  pub last : State X
  pub begun_or_paced : ((reached : Moment X) × IsBegun net (pace_of run budget) s lines reached
      × (reached.state ≡ last))
      ⊎ IsPaced net (pace_of run budget) s lines last
  pub permitted : PlaysAndKeeps net run.grow s last lines
  pub breaks : Breaks net s last lines run old now

-- what a run from its start leaves, by its end
abbrev pub RunsFromStart : {X : Type 0} → Network X → List (List ℕ) → ℕ → State X → RunEnd
    → Running (Cell X) → Running (Cell X) → Inputs → Channels → Channels → Type 0
RunsFromStart net inputs budget s end.Quiet run new feeds old now =
    RunsWhole net inputs budget s end.Quiet run new old now
RunsFromStart net inputs budget s (end.Trapped inst action trap) run new feeds old now =
    RunsWhole net inputs budget s (end.Trapped inst action trap) run new old now
RunsFromStart net inputs budget s (end.Stalled inst action link) run new feeds old now =
    RunsWhole net inputs budget s (end.Stalled inst action link) run new old now
RunsFromStart net inputs budget s end.Budget run new feeds old now =
    RunsWhole net inputs budget s end.Budget run new old now
RunsFromStart net inputs budget s (end.ReadFault feed) run new feeds old now =
    RunsShort net inputs budget s feed run new feeds old now
RunsFromStart net inputs budget s (end.WriteFault channel) run new feeds old now =
    RunsBroken net budget s run old now

-- a runner that has made no round, at a state in which a run may begin
pub record HasMadeNone {X : Type 0} (net : Network X) (inputs : List (List ℕ))
    (run : Running (Cell X)) (s : State X) : Type 0 where
  pub wired : IsWired net
  pub lawful : AreLawful net
  pub may_begin : CanBegin net s
  pub counted : IsCounted net inputs s [] s run.counts
  pub rounds : run.rounds ≡ 0
  pub idle : run.idle ≡ false

-- The law: what such a runner's run leaves is that.
abbrev pub RunsArePaced : (X : Type 0) → Type 0
RunsArePaced X = (net : Network X) (inputs : List (List ℕ)) (budget : ℕ) (s : State X) (how : RunEnd)
    (run new : Running (Cell X)) (feeds : Inputs) (old now : Channels) → HasMadeNone net inputs run s
    → RunLeaves net inputs budget s how run new feeds old now
    → RunsFromStart net inputs budget s how run new feeds old now
