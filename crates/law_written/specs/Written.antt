-- What a run of a source network writes is a trace that a replay accepts, as statements.
-- Trusted: part of what a promise means.
use Rattle.std.specs.Prelude.{◌≡◌, ℕ, ◌≤◌, true, List, [], ◌∷◌, ◌++◌, length}
use Rattle.trace_text.specs.declared.line.Line.{Line}
use Rattle.cal_model.specs.Selection.{State as ActorState}
use Rattle.net_model.specs.Limits.{max_grow}
use Rattle.net_model.specs.Network.{Network}
use Rattle.net_model.specs.State.{State, start_of}
use Rattle.net_model.specs.Trace.{KeepsCapacities, Plays, text}
use Rattle.cal_files.specs.Loading.{Library}
use Rattle.fnl_source.specs.Files.{Asked}
use Rattle.fnl_source.specs.Library.{IsLibraryNetwork}
use Rattle.trace_replay.specs.Judging.{IsNotRun, IsTrace, Trial, is_end, max_trace_bytes}
use Rattle.trace_replay.specs.declared.why.Why.{Why}

-- by what a trace of a run over these bytes of its inputs is judged
abbrev pub trial_of : {X : Type 0} → Network X → (grow : ℕ) → (inputs : List (List ℕ)) → Trial X
trial_of net grow inputs = record { net = net; grow = grow; start = start_of net inputs }

-- A run over these inputs up to this end line: its lines play from the start of the network to this state, and keep the
-- capacities of the links.
pub record IsRun {X : Type 0} (net : Network X) (grow : ℕ) (inputs : List (List ℕ))
    (lines : List Line) (end : Line) (last : State X) : Type 0 where
  pub plays : Plays net grow inputs lines last
  pub keeps : KeepsCapacities net inputs lines
  pub ends : (before : List Line) × (lines ≡ before ++ end ∷ []) × (is_end end ≡ true)

-- The text of a run of a network that a library means is a trace, if links may grow to 2^20 or less: the numbers in it
-- are within their bounds, and paths and classes of instances are made of names.
abbrev pub WrittenAreTraces : Type 0
WrittenAreTraces = (library : Library) (top : Asked) (net : Network ActorState) (grow : ℕ)
    (inputs : List (List ℕ)) (lines : List Line) (end : Line) (last : State ActorState)
    → IsLibraryNetwork library top net → grow ≤ max_grow
    → IsRun net grow inputs lines end last
    → IsTrace (trial_of net grow inputs) (text net grow lines) lines end last

-- .. so over these inputs it isn't told to be that of no run, whatever the line and the cause, if it isn't longer than
-- a trace may be
abbrev pub WrittenAreNotRefused : Type 0
WrittenAreNotRefused = (library : Library) (top : Asked) (net : Network ActorState) (grow : ℕ)
    (inputs : List (List ℕ)) (lines : List Line) (end : Line) (last : State ActorState)
    (number : ℕ) (why : Why) → IsLibraryNetwork library top net → grow ≤ max_grow
    → IsRun net grow inputs lines end last → length (text net grow lines) ≤ max_trace_bytes
    → IsNotRun (trial_of net grow inputs) (text net grow lines) number why → ⊥
