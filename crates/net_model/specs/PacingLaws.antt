-- What holds of all paced and begun lines, as statements.
-- Trusted: part of what a promise means.
use Rattle.std.specs.Prelude.{◌≡◌, ℕ, ◌+◌, ◌≤◌, List, length}
use Rattle.trace_text.specs.declared.line.Line.{Line}
use Rattle.net_model.specs.Network.{Network}
use Rattle.net_model.specs.State.{State, start_of}
use Rattle.net_model.specs.Ends.{AllArrived}
use Rattle.net_model.specs.Trace.{PlaysFrom, FitFlows, KeepsFrom}
use Rattle.net_model.specs.Wired.{IsWired}
use Rattle.net_model.specs.Stable.{IsPrefix}
use Rattle.net_model.specs.Laws.{AreLawful, AreOrdered, HasFlows, firings_shown}
use Rattle.net_model.specs.Paced.{Pace, Moment, IsBegun, IsPaced}

-- begun lines play, and so do paced ones
abbrev pub BegunPlay : (X : Type 0) → Type 0
BegunPlay X = (net : Network X) (pace : Pace) (s : State X) (lines : List Line) (reached : Moment X)
    → IsBegun net pace s lines reached → PlaysFrom net pace.grow s lines reached.state

abbrev pub PacedPlay : (X : Type 0) → Type 0
PacedPlay X = (net : Network X) (pace : Pace) (s : State X) (lines : List Line) (last : State X)
    → IsPaced net pace s lines last → PlaysFrom net pace.grow s lines last

-- at most one list of lines is paced ..
abbrev pub PacedAreOne : (X : Type 0) → Type 0
PacedAreOne X = (net : Network X) (pace : Pace) (s : State X) (lines those : List Line)
    (last other : State X) → AreLawful net
    → IsPaced net pace s lines last → IsPaced net pace s those other → lines ≡ those

-- .. and begun lines are a prefix of it
abbrev pub BegunBeginPaced : (X : Type 0) → Type 0
BegunBeginPaced X = (net : Network X) (pace : Pace) (s : State X) (lines those : List Line)
    (reached : Moment X) (last : State X)
    → AreLawful net → IsBegun net pace s lines reached → IsPaced net pace s those last
    → IsPrefix lines those

-- begun lines have spent what isn't left of the budget, and paced lines have at most its firings
abbrev pub BegunWithinBudget : (X : Type 0) → Type 0
BegunWithinBudget X =
    (net : Network X) (pace : Pace) (s : State X) (lines : List Line) (reached : Moment X)
    → IsBegun net pace s lines reached → length (firings_shown lines) + reached.left ≡ pace.budget

abbrev pub PacedWithinBudget : (X : Type 0) → Type 0
PacedWithinBudget X =
    (net : Network X) (pace : Pace) (s : State X) (lines : List Line) (last : State X)
    → IsPaced net pace s lines last → length (firings_shown lines) ≤ pace.budget

-- a state in which a run may begin: no more was taken than has arrived, everything sent inside has arrived, and
-- no inner or output link holds more than its capacity
pub record CanBegin {X : Type 0} (net : Network X) (s : State X) : Type 0 where
  pub has_flows : HasFlows net s
  pub ordered : AreOrdered s
  pub arrived : AllArrived net.links s.flows
  pub fits : FitFlows net.links s.flows s.flows

-- so is the start of a run over files
abbrev pub StartsCanBegin : (X : Type 0) → Type 0
StartsCanBegin X = (net : Network X) (inputs : List (List ℕ)) → CanBegin net (start_of net inputs)

-- begun and paced lines keep the capacities
abbrev pub BegunKeep : (X : Type 0) → Type 0
BegunKeep X = (net : Network X) (pace : Pace) (s : State X) (lines : List Line) (reached : Moment X)
    → IsWired net → AreLawful net → CanBegin net s → IsBegun net pace s lines reached
    → KeepsFrom net s lines

abbrev pub PacedKeep : (X : Type 0) → Type 0
PacedKeep X = (net : Network X) (pace : Pace) (s : State X) (lines : List Line) (last : State X)
    → IsWired net → AreLawful net → CanBegin net s → IsPaced net pace s lines last
    → KeepsFrom net s lines
