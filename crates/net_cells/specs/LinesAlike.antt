-- Networks that are alike have the same lines: what is begun, paced or counted in the one is in the other.
-- Trusted: part of what a promise means.
use Rattle.std.specs.Prelude.{ℕ, List}
use Rattle.trace_text.specs.declared.line.Line.{Line}
use Rattle.net_model.specs.declared.wiring.Counts.{Counts}
use Rattle.net_model.specs.Network.{Network}
use Rattle.net_model.specs.State.{State}
use Rattle.net_model.specs.Counted.{IsCounted}
use Rattle.net_model.specs.Alike.{Allowed, AreAlike, StatesAlike}
use Rattle.net_model.specs.Paced.{IsBegun, IsPaced, Moment, Pace}
use Rattle.net_model.specs.Trace.{PlaysFrom}

-- Over states X and Y of actors and a relation between them for each leaf:

-- lines that are begun from a state are begun from one that is alike, and lead to states that are alike, after as many
-- rounds and firings
abbrev pub BegunAlike : {X Y : Type 0} → (ℕ → X → Y → Type 0) → Allowed → Type 0
BegunAlike {X} {Y} related allowed = (net : Network X) (other : Network Y) (pace : Pace)
    (s : State X) (that : State Y) (lines : List Line) (reached : Moment X)
    → AreAlike related allowed net other → StatesAlike related allowed net s that
    → IsBegun net pace s lines reached
    → (last : State Y) × IsBegun other pace that lines
    (record { state = last; round = reached.round; idle = reached.idle; left = reached.left })
    × StatesAlike related allowed net reached.state last

-- what is paced in the other network is paced in the one
abbrev pub PacedBack : {X Y : Type 0} → (ℕ → X → Y → Type 0) → Allowed → Type 0
PacedBack {X} {Y} related allowed = (net : Network X) (other : Network Y) (pace : Pace)
    (s : State X) (that last : State Y) (lines : List Line) → AreAlike related allowed net other
    → StatesAlike related allowed net s that
    → IsPaced other pace that lines last → (t : State X) × IsPaced net pace s lines t
    × StatesAlike related allowed net t last

-- numbers that count lines of the one count them in the other
abbrev pub CountedAlike : {X Y : Type 0} → (ℕ → X → Y → Type 0) → Allowed → Type 0
CountedAlike {X} {Y} related allowed = (net : Network X) (other : Network Y)
    (inputs : List (List ℕ)) (grow : ℕ) (s last : State X) (that there : State Y)
    (lines : List Line) (counts : Counts) → AreAlike related allowed net other
    → StatesAlike related allowed net s that → StatesAlike related allowed net last there
    → PlaysFrom net grow s lines last
    → IsCounted net inputs s lines last counts → IsCounted other inputs that lines there counts
