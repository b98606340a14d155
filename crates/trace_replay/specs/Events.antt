-- Lines of a run that are read one after another, up to an end line.
-- Trusted are `IsTextOf` and `IsEnded`: part of what a promise means.
use Rattle.std.specs.Prelude.{◌≡◌, ℕ, suc, ◌+◌, List, [], ◌++◌, length, map, flat_map, Some, String, string_bytes}
use Rattle.std.specs.declared.alloc.Global.{Global as Heap}
use Rattle.rvc_io.specs.Feeds.{Inputs}
use Rattle.trace_text.specs.declared.line.Line.{Line}
use Rattle.trace_text.specs.Table.{AreWritten}
use Rattle.trace_text.specs.Text.{line_text}
use Rattle.net_model.specs.declared.wiring.Counts.{Counts}
use Rattle.net_model.specs.Counted.{IsCounted}
use Rattle.net_model.specs.Trace.{head_text, played}
use Rattle.net_model.specs.State.{State}
use Rattle.net_model.specs.Laws.{AreLawful}
use Rattle.net_model.specs.Wired.{IsWired}
use Rattle.net_model.specs.Cell.{Cell}
use Rattle.trace_replay.specs.Between.{Between, IsAt, stand}
use Rattle.trace_replay.specs.Counting.{IsCountedTo}
use Rattle.trace_replay.specs.Head.{IsHeadOf, PassesEnd, StandsAt}
use Rattle.trace_replay.specs.Judging.{AtEvents, AtFirst, Trial}
use Rattle.trace_replay.specs.Laws.{StartFits}
use Rattle.trace_replay.specs.Reading.{IsJudged, IsWhole}
use Rattle.trace_replay.specs.declared.between.Replay.{Replay}
use Rattle.trace_replay.specs.declared.reading.Trace.{Trace}
use Rattle.trace_replay.specs.declared.why.ReplayFault.{ReplayFault}

-- the head of a trace was read, and the network stands where the run begins
pub record BeginsAt {X : Type 0} (t : Trial X) (text : List ℕ) (inputs : List (List ℕ))
    (trace : Trace) (now : Between X) (grow : ℕ) : Type 0 where
  pub grow_is : t.grow ≡ grow
  pub wired : IsWired t.net
  pub lawful : AreLawful t.net
  pub fits : StartFits t
  pub at : IsAt t.net inputs now t.start t.start
  pub counted : IsCountedTo t.net inputs t.start [] t.start now.numbers
  pub number : trace.count ≡ suc (length t.net.leaves)
  pub reached : StandsAt t text trace now.feeds (AtEvents t.start t.start)

-- a text is that of the head and these lines of the run, which lead from its start to the state s
pub record IsTextOf {X : Type 0} (t : Trial X) (text : List ℕ) (lines : List Line) (s : State X) :
    Type 0 where
  pub written : AreWritten lines
  pub text_is : text ≡ head_text t.net t.grow ++ flat_map line_text lines
  pub leads : played t.net t.start lines ≡ Some s

-- the trace was read to its end, with this end line, and the numbers count its lines
pub record IsEnded {X : Type 0} (t : Trial X) (text : List ℕ) (inputs : List (List ℕ)) (end : Line)
    (numbers : Counts) : Type 0 where
  pub last : State X
  pub whole : IsWhole t text end last
  pub lines : List Line
  pub text_of : IsTextOf t text lines last
  pub counted : IsCounted t.net inputs t.start lines last numbers

abbrev pub EventsEnd : {X : Type 0} → Trace → Between X → ℕ → Line → Counts → Type 0
EventsEnd {X} trace now grow end numbers = (t : Trial X) (text : List ℕ) (inputs : List (List ℕ))
    → BeginsAt t text inputs trace now grow → IsEnded t text inputs end numbers

abbrev pub EventsJudged : {X : Type 0} → Trace → Between X → ℕ → ReplayFault → Type 0
EventsJudged {X} trace now grow fault = (t : Trial X) (text : List ℕ) (inputs : List (List ℕ))
    → BeginsAt t text inputs trace now grow → IsJudged t text fault

-- the trace ends behind this end line
abbrev pub EndsWhole : (X : Type 0) {S : Type 0} → (S → Inputs) → Line → Trace → S → Line → Type 0
EndsWhole X feeds end old before line = (line ≡ end) × PassesEnd X old (feeds before)

-- The whole trace.

-- nothing of the trace was read, and the network stands where the run begins
pub record BeginsFirst {X : Type 0} (t : Trial X) (text : List ℕ) (inputs : List (List ℕ))
    (trace : Trace) (now : Between X) (grow : ℕ) (first : Line)
    (names : List (List ℕ)) : Type 0 where
  pub head : IsHeadOf t trace.grow first names
  pub grow_is : t.grow ≡ grow
  pub wired : IsWired t.net
  pub lawful : AreLawful t.net
  pub fits : StartFits t
  pub at : IsAt t.net inputs now t.start t.start
  pub counted : IsCountedTo t.net inputs t.start [] t.start now.numbers
  pub number : trace.count ≡ 0
  pub reached : StandsAt t text trace now.feeds AtFirst

abbrev pub TraceEnds : {X : Type 0} → Line → List (List ℕ) → Trace → Between X → ℕ → Line → Counts
    → Type 0
TraceEnds {X} first names trace now grow end numbers = (t : Trial X) (text : List ℕ)
    (inputs : List (List ℕ)) → BeginsFirst t text inputs trace now grow first names
    → IsEnded t text inputs end numbers

abbrev pub TraceJudged : {X : Type 0} → Line → List (List ℕ) → Trace → Between X → ℕ → ReplayFault
    → Type 0
TraceJudged {X} first names trace now grow fault = (t : Trial X) (text : List ℕ)
    (inputs : List (List ℕ)) → BeginsFirst t text inputs trace now grow first names
    → IsJudged t text fault

-- The same of what the code holds.

module _ {A X S : Type 0} (cell : A → Cell X) (feeds : S → Inputs) where
  abbrev pub EndsEvents : Trace → Replay A → S → Line → Counts → Type 0
  EndsEvents trace replay now end numbers =
      EventsEnd trace (stand cell feeds replay now) replay.grow end numbers

  abbrev pub JudgesEvents : Trace → Replay A → S → ReplayFault → Type 0
  JudgesEvents trace replay now fault =
      EventsJudged trace (stand cell feeds replay now) replay.grow fault

  abbrev pub EndsTrace : Line → List (String Heap) → Trace → Replay A → S → Line → Counts → Type 0
  EndsTrace first names trace replay now end numbers =
      TraceEnds first (map string_bytes names) trace (stand cell feeds replay now) replay.grow end
      numbers

  abbrev pub JudgesTrace : Line → List (String Heap) → Trace → Replay A → S → ReplayFault → Type 0
  JudgesTrace first names trace replay now fault =
      TraceJudged first (map string_bytes names) trace (stand cell feeds replay now) replay.grow fault
