-- Networks that are alike have the same traces, as statements.
-- Trusted: part of what a promise means.
use Rattle.std.specs.Prelude.{ℕ, List}
use Rattle.trace_text.specs.declared.line.Line.{Line}
use Rattle.net_model.specs.Network.{Network}
use Rattle.net_model.specs.State.{State}
use Rattle.net_model.specs.Alike.{Allowed, AreAlike, StatesAlike}
use Rattle.trace_replay.specs.Judging.{IsNotRun, IsTrace, Trial}
use Rattle.trace_replay.specs.declared.why.Why.{Why}

-- what a trace is judged by: a network, how far its links may grow, and the state in which the run begins
abbrev pub trial : {X : Type 0} → Network X → ℕ → State X → Trial X
trial net grow start = record { net = net; grow = grow; start = start }

-- Over states X and Y of actors and a relation between them for each leaf:

-- a trace over the one network is one over the other, with the same lines, and leads to a state that is alike
abbrev pub TracesAlike : {X Y : Type 0} → (ℕ → X → Y → Type 0) → Allowed → Type 0
TracesAlike {X} {Y} related allowed = (net : Network X) (other : Network Y) (grow : ℕ)
    (s last : State X) (that : State Y) (text : List ℕ) (lines : List Line) (end : Line)
    → AreAlike related allowed net other → StatesAlike related allowed net s that
    → IsTrace (trial net grow s) text lines end last
    → (there : State Y) × IsTrace (trial other grow that) text lines end there
    × StatesAlike related allowed net last there

-- a text that is no trace over the one, for this line and this cause, is none over the other for the same
abbrev pub NoRunsAlike : {X Y : Type 0} → (ℕ → X → Y → Type 0) → Allowed → Type 0
NoRunsAlike {X} {Y} related allowed = (net : Network X) (other : Network Y) (grow : ℕ)
    (s : State X) (that : State Y) (text : List ℕ) (line : ℕ) (why : Why)
    → AreAlike related allowed net other → StatesAlike related allowed net s that
    → IsNotRun (trial net grow s) text line why → IsNotRun (trial other grow that) text line why
