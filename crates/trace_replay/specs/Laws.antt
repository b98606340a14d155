-- What holds of all traces, as statements.
-- Trusted: part of what a promise means.
use Rattle.std.specs.Prelude.{◌≡◌, ℕ, ◌<◌, ◌≤◌, List, [], length, slice_get, Some}
use Rattle.rvc_base.specs.Lawful.{tokens_on}
use Rattle.std.specs.List.{concat}
use Rattle.trace_text.specs.declared.line.Line.{Line}
use Rattle.net_model.specs.Network.{Network}
use Rattle.net_model.specs.State.{State, start_of}
use Rattle.net_model.specs.Cell.{Cell}
use Rattle.net_model.specs.Ready.{given_state}
use Rattle.net_state.specs.Standing.{IsNetOf}
use Rattle.net_model.specs.Trace.{FitFlows}
use Rattle.net_model.specs.Wired.{IsWired}
use Rattle.net_model.specs.Laws.{AreLawful, sent_on_link}
use Rattle.trace_replay.specs.Judging.{Trial, AtFirst, AtEnd, MayCome, EventFails, Lead, IsNotRun, IsTrace, max_trace_bytes}
use Rattle.trace_replay.specs.declared.why.Why.{Why}

-- in the state in which the run begins no link holds more than its capacity
abbrev pub StartFits : {X : Type 0} → Trial X → Type 0
StartFits t = FitFlows t.net.links t.start.flows t.start.flows

-- lines that lead from the beginning of a text to an end line are a trace
abbrev pub LinesMakeTraces : (X : Type 0) → Type 0
LinesMakeTraces X = (t : Trial X) (texts : List (List ℕ)) (end : Line) (last : State X) → StartFits t
    → Lead t AtFirst texts (AtEnd end last)
    → (lines : List Line) × IsTrace t (concat texts) lines end last

-- a trace is lines that lead from its beginning to its end line
abbrev pub TracesAreLines : (X : Type 0) → Type 0
TracesAreLines X = (t : Trial X) (text : List ℕ) (lines : List Line) (end : Line) (last : State X)
    → IsTrace t text lines end last
    → (texts : List (List ℕ)) × (text ≡ concat texts) × Lead t AtFirst texts (AtEnd end last)

-- on each link at least as many tokens were sent as when it was opened
abbrev pub NoneIsLost : {X : Type 0} → Network X → State X → State X → Type 0
NoneIsLost net opened s = (l : ℕ) → l < length net.links
    → length (sent_on_link opened l) ≤ length (sent_on_link s l)

-- a line of the run that fails may not come
abbrev pub WhatFailsMayNotCome : (X : Type 0) → Type 0
WhatFailsMayNotCome X = (t : Trial X) (opened s next : State X) (line : Line) (why : Why)
    → IsWired t.net → AreLawful t.net → NoneIsLost t.net opened s
    → EventFails t opened s line why → MayCome t opened s line next → ⊥

-- A text that is a trace and not too long isn't told to be none.
abbrev pub NoTraceIsNotRun : (X : Type 0) → Type 0
NoTraceIsNotRun X = (t : Trial X) (text : List ℕ) (lines : List Line) (end : Line) (last : State X)
    (n : ℕ) (why : Why) → IsWired t.net → AreLawful t.net → length text ≤ max_trace_bytes
    → IsTrace t text lines end last → IsNotRun t text n why → ⊥

-- A text is told to be none for one line and one cause at most.
abbrev pub IsToldOnce : (X : Type 0) → Type 0
IsToldOnce X = (t : Trial X) (text : List ℕ) (n m : ℕ) (why cause : Why) → IsWired t.net
    → AreLawful t.net → IsNotRun t text n why → IsNotRun t text m cause → (n ≡ m) × (why ≡ cause)

-- a cell as it was made: its actor is at its start, and no token waits before it
pub record IsNew {X : Type 0} (cell : Cell X) : Type 0 where
  pub state : cell.state ≡ cell.actor.start
  pub empty : (p : ℕ) → tokens_on cell.inboxes p ≡ []

abbrev pub AreNew : {X : Type 0} → List (Cell X) → Type 0
AreNew {X} cells = (i : ℕ) (cell : Cell X) → slice_get cells i ≡ Some cell → IsNew cell

-- A run from cells as they were made begins where each run over these files does.
abbrev pub NewCellsBegin : (X : Type 0) → Type 0
NewCellsBegin X = (net : Network X) (cells : List (Cell X)) (inputs : List (List ℕ))
    → IsNetOf net cells net.links → AreNew cells
    → given_state net cells inputs ≡ start_of net inputs
