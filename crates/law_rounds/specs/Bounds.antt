-- How many rounds a run has, and how often a link grows, as statements.
-- Trusted: part of what a promise means.
use Rattle.std.specs.Prelude.{ℕ, suc, ◌+◌, ◌*◌, ◌≤◌, ◌<◌, ◌==◌, List, [], ◌∷◌, length, if◌then◌else◌}
use Rattle.trace_text.specs.declared.line.Line.{Line}
use Rattle.trace_text.specs.declared.line.Line.TheVariants.{Header, Inst, Fire, Deliver, Grow, Quiet, Trap, Stall, Budget}
use Rattle.net_model.specs.Network.{Network}
use Rattle.net_model.specs.State.{State, capacity_at}
use Rattle.net_model.specs.Limits.{max_grow}
use Rattle.net_model.specs.Trace.{PlaysFrom}
use Rattle.net_model.specs.Laws.{firings_shown}
use Rattle.net_model.specs.Paced.{Pace, Moment, IsBegun, IsPaced}
use Rattle.net_model.specs.Counted.{deliveries_in}

-- how many lines are growths of a link
abbrev pub growths_in : List Line → ℕ
growths_in [] = 0
growths_in (Grow l capacity ∷ lines) = suc (growths_in lines)
growths_in (Deliver ∷ lines) = growths_in lines
growths_in (Fire i a ∷ lines) = growths_in lines
growths_in (Quiet ∷ lines) = growths_in lines
growths_in (Trap i a c ∷ lines) = growths_in lines
growths_in (Stall i a l ∷ lines) = growths_in lines
growths_in (Budget ∷ lines) = growths_in lines
growths_in (Header n l g ∷ lines) = growths_in lines
growths_in (Inst k ∷ lines) = growths_in lines

-- how many of them are growths of link l
abbrev pub growths_of : ℕ → List Line → ℕ
growths_of l [] = 0
growths_of l (Grow m capacity ∷ lines) =
    if l == m then suc (growths_of l lines) else growths_of l lines
growths_of l (Deliver ∷ lines) = growths_of l lines
growths_of l (Fire i a ∷ lines) = growths_of l lines
growths_of l (Quiet ∷ lines) = growths_of l lines
growths_of l (Trap i a c ∷ lines) = growths_of l lines
growths_of l (Stall i a m ∷ lines) = growths_of l lines
growths_of l (Budget ∷ lines) = growths_of l lines
growths_of l (Header n m g ∷ lines) = growths_of l lines
growths_of l (Inst k ∷ lines) = growths_of l lines

-- The laws, over states X of actors. Each round has one delivery.

-- paced lines have at most two rounds for each firing, one for each growth, and two more ..
abbrev pub PacedRoundsAreFew : (X : Type 0) → Type 0
PacedRoundsAreFew X =
    (net : Network X) (pace : Pace) (s : State X) (lines : List Line) (last : State X)
    → IsPaced net pace s lines last
    → deliveries_in lines ≤ 2 * length (firings_shown lines) + growths_in lines + 2

-- .. and begun lines, which lack the last round, have one more
abbrev pub BegunRoundsAreFew : (X : Type 0) → Type 0
BegunRoundsAreFew X =
    (net : Network X) (pace : Pace) (s : State X) (lines : List Line) (reached : Moment X)
    → IsBegun net pace s lines reached
    → deliveries_in lines ≤ 2 * length (firings_shown lines) + growths_in lines + 1

-- in lines that play, a link that can hold a token at first grows at most 20 times, if links may
-- grow to 2^20 or less
abbrev pub GrowthsAreFew : (X : Type 0) → Type 0
GrowthsAreFew X =
    (net : Network X) (grow : ℕ) (s : State X) (lines : List Line) (last : State X) (l : ℕ)
    → PlaysFrom net grow s lines last → grow ≤ max_grow → 1 ≤ capacity_at s l
    → growths_of l lines ≤ 20

-- each link of the network can hold a token
abbrev pub HoldTokens : {X : Type 0} → Network X → State X → Type 0
HoldTokens net s = (l : ℕ) → l < length net.links → 1 ≤ capacity_at s l

-- so if each link can hold a token at first, and may grow to 2^20 or less, paced lines have at most
-- two rounds for each firing, 20 for each link, and two more
abbrev pub FiringsBoundRounds : (X : Type 0) → Type 0
FiringsBoundRounds X =
    (net : Network X) (pace : Pace) (s : State X) (lines : List Line) (last : State X)
    → IsPaced net pace s lines last → pace.grow ≤ max_grow → HoldTokens net s
    → deliveries_in lines ≤ 2 * length (firings_shown lines) + 20 * length net.links + 2
