-- What closes a round.
-- Trusted: part of what a promise means.
use Rattle.std.specs.Prelude.{◌≡◌, ℕ, ◌≤◌, ◌<◌, List, length, slice_get, slice_set, slice_index_or, Option, Some}
use Rattle.trace_text.specs.declared.line.Line.{Line}
use Rattle.net_model.specs.Network.{Network}
use Rattle.net_model.specs.State.{State}
use Rattle.net_model.specs.Cell.{Cell}
use Rattle.net_model.specs.Trace.{played}
use Rattle.net_model.specs.Paced.{Close, ClosesIdle, Ends, GoesOn, Widens, close_lines}
use Rattle.net_state.specs.Held.{Held}
use Rattle.net_state.specs.Standing.{StandsSince}
use Rattle.net_state.specs.Working.{CanHold, LacksAt}
use Rattle.net_state.specs.declared.made.Lacking.{Lacking}
use Rattle.round_runner.specs.declared.outcome.RoundEnd.{RoundEnd}
use Rattle.round_runner.specs.declared.outcome.RoundEnd.TheVariants as round
use Rattle.round_runner.specs.Bursting.{Sees}
use Rattle.round_runner.specs.Rounds.{end_line}

-- what is answered if a round is closed so
abbrev pub AnswersTo : RoundEnd → Close → Type 0
AnswersTo (round.Fired n) close = close ≡ GoesOn
AnswersTo round.Idle close = close ≡ GoesOn
AnswersTo (round.Grew link capacity) close = close ≡ Widens link.0 capacity
AnswersTo (round.End how) close = (line : Line) × (end_line how ≡ Some line) × (close ≡ Ends line)

-- Each link on which an action lacks room can hold some tokens, and its queues as many as the limit says.
abbrev pub MayGrow : {X : Type 0} → ℕ → Held (Cell X) → Type 0
MayGrow grow held = (i a l : ℕ) → LacksAt held i a l
    → CanHold held.cells grow (slice_get held.links l) × (0 < slice_index_or held.capacities l 0)

-- How present capacities change by an answer: a link that grew can hold more, at most as the limit says, and else
-- they stay.
abbrev pub GrowsBy : RoundEnd → ℕ → List ℕ → List ℕ → Type 0
GrowsBy (round.Fired n) grow old new = new ≡ old
GrowsBy round.Idle grow old new = new ≡ old
GrowsBy (round.Grew link capacity) grow old new =
    (link.0 < length old) × (slice_index_or old link.0 0 < capacity) × (capacity ≤ grow)
    × (new ≡ slice_set old link.0 capacity)
GrowsBy (round.End how) grow old new = new ≡ old

-- a round that fired nothing is closed in this state: the line that closes it, what is answered, and the state to
-- which it leads
pub record IsClosedIdle {X : Type 0} (net : Network X) (grow : ℕ) (s : State X) (answer : RoundEnd)
    (new : Held (Cell X)) : Type 0 where
  pub close : Close
  pub closes : ClosesIdle net grow s close
  pub answers : AnswersTo answer close
  pub last : State X
  pub leads : played net s (close_lines close) ≡ Some last
  pub stands : StandsSince net new s last

-- .. in each state that was just opened, and of whose leaves this was seen
abbrev pub ClosesAllIdle : {X : Type 0} → ℕ → Option Lacking → RoundEnd → Held (Cell X)
    → Held (Cell X) → Type 0
ClosesAllIdle {X} grow lacks answer old new = (net : Network X) (s : State X)
    → StandsSince net old s s
    → Sees (length old.cells) net s lacks → IsClosedIdle net grow s answer new
