-- What is asked of a network whose trace comes to an end line or to the growth of a link.
-- Not trusted: no promise is read with it.
use Rattle.std.specs.Prelude.{◌≡◌, ◌≢◌, ℕ, ◌*◌, ◌≤◌, ◌<◌, true, false, List, ℤ, length, min, slice_get, slice_index_or, Option, None, Some}
use Rattle.rvc_io.specs.Feeds.{Inputs}
use Rattle.port_files.specs.Coming.{Reading}
use Rattle.trace_text.specs.declared.line.Line.{Line}
use Rattle.trace_text.specs.declared.line.Line.TheVariants.{Header as FirstLine, Inst, Fire, Deliver, Grow, Quiet, Trap as TrapLine, Stall, Budget}
use Rattle.net_model.specs.declared.wiring.Link.{Link}
use Rattle.net_model.specs.Network.{Network, is_input, is_output}
use Rattle.net_model.specs.State.{Flow, State, untaken}
use Rattle.net_model.specs.Ends.{Grows, IsBetween, IsQuiet, IsSettled, IsStuck}
use Rattle.net_model.specs.Laws.{AreLawful}
use Rattle.net_model.specs.Trace.{OnNext, grown}
use Rattle.net_model.specs.Wired.{IsWired}
use Rattle.net_model.specs.Cell.{Cell}
use Rattle.net_state.specs.Held.{Held, IsReader, seen}
use Rattle.net_state.specs.Moving.{IsWriter}
use Rattle.net_state.specs.Standing.{IsTrueOfUnarrived, StandsIn, StandsSince}
use Rattle.net_state.specs.Working.{AreFed, CanHold, GrewTo}
use Rattle.trace_replay.specs.Holding.{StandsHeld, stacked}
use Rattle.trace_replay.specs.declared.holding.TakenBack.{TakenBack}

-- an end line but that of a trap is true of a state
abbrev pub IsTrueEnd : {X : Type 0} → Network X → ℕ → State X → Line → Type 0
IsTrueEnd net grow s Quiet = IsQuiet net s
IsTrueEnd net grow s (Stall i a l) = IsStuck net grow s i a l
IsTrueEnd net grow s Budget = IsBetween net grow s
IsTrueEnd net grow s (TrapLine i a c) = ⊥
IsTrueEnd net grow s (FirstLine n l g) = ⊥
IsTrueEnd net grow s (Inst k) = ⊥
IsTrueEnd net grow s (Fire i a) = ⊥
IsTrueEnd net grow s Deliver = ⊥
IsTrueEnd net grow s (Grow l capacity) = ⊥

-- no state that stands is settled
abbrev pub AreUnsettled : {X : Type 0} → Held (Cell X) → Type 0
AreUnsettled {X} held = (net : Network X) (s : State X) → StandsIn net held s → IsSettled net s → ⊥

-- all that was sent on a link has arrived, if it begins inside
abbrev pub IsOut : {X : Type 0} → ℕ → Link → Held (Cell X) → Type 0
IsOut l link held = is_input link ≡ false → IsTrueOfUnarrived held l (λ tokens. 0 ≡ length tokens)

-- on an input link no more tokens wait than it can hold
abbrev pub FitInputs : {X : Type 0} → Network X → State X → Type 0
FitInputs net s = (l : ℕ) (link : Link) (flow : Flow) → slice_get net.links l ≡ Some link
    → slice_get s.flows l ≡ Some flow → is_input link ≡ true → untaken flow ≤ flow.capacity

-- this is the one end line that is true of each state that stands, if the feeds came as far as they may
abbrev pub IsEndOf : {X : Type 0} → ℕ → Held (Cell X) → Line → Type 0
IsEndOf {X} grow held line = (net : Network X) (s : State X) → StandsIn net held s → IsWired net
    → AreLawful net → AreFed net s → IsSettled net s → IsTrueEnd net grow s line

-- an end line is true of each state that stands, or of none
abbrev pub EndsSo : {X : Type 0} → ℕ → Line → Held (Cell X) → List (List ℤ) → List (Option Reading)
    → Inputs → Type 0
EndsSo {X} grow line held stacks readings feeds = (net : Network X) (inputs : List (List ℕ))
    (opened s : State X) → StandsHeld net inputs held stacks readings feeds opened s → IsWired net
    → AreLawful net → FitInputs net s
    → IsTrueEnd net grow s line

abbrev pub EndsNotSo : {X : Type 0} → ℕ → Line → Held (Cell X) → List (List ℤ)
    → List (Option Reading) → Inputs → Type 0
EndsNotSo {X} grow line held stacks readings feeds = (net : Network X) (inputs : List (List ℕ))
    (opened s : State X) → StandsHeld net inputs held stacks readings feeds opened s → IsWired net
    → AreLawful net → FitInputs net s
    → IsTrueEnd net grow s line → ⊥

-- link l may grow further
abbrev pub MayGrow : {X : Type 0} → ℕ → Held (Cell X) → ℕ → Type 0
MayGrow grow held l = slice_index_or held.capacities l 0 < grow

-- the queues of a link can hold so many tokens
pub record HasQueuesFor {X : Type 0} (cells : List (Cell X)) (n : ℕ) (link : Link) : Type 0 where
  pub writer : IsWriter cells link.from
  pub reader : IsReader cells link.to
  pub holds : CanHold cells n (Some link)

-- .. and so can those of each inner link for what it may grow to
abbrev pub CanGrow : {X : Type 0} → ℕ → List (Cell X) → List Link → Type 0
CanGrow grow cells links = (l : ℕ) (link : Link) → slice_get links l ≡ Some link
    → is_input link ≡ false → is_output link ≡ false → HasQueuesFor cells grow link

-- link l grew so: each state goes on by its growth; or it may not grow so
abbrev pub GrowsSo : {X : Type 0} → ℕ → ℕ → ℕ → Held (Cell X) → Held (Cell X) → Type 0
GrowsSo {X} grow l capacity old new = (net : Network X) (opened s : State X)
    → StandsSince net old opened s → IsWired net → AreFed net s
    → Grows net grow s l capacity
    × OnNext (grown s l capacity (slice_get s.flows l)) (λ next. StandsSince net new opened next)

abbrev pub GrowsNotSo : {X : Type 0} → ℕ → ℕ → ℕ → Held (Cell X) → Type 0
GrowsNotSo {X} grow l capacity held = (net : Network X) (opened s : State X)
    → StandsSince net held opened s → IsWired net → AreLawful net → AreFed net s
    → Grows net grow s l capacity → ⊥

-- a link that leads from a leaf to a leaf
abbrev pub IsInner : Option Link → Type 0
IsInner None = ⊥
IsInner (Some link) = (is_input link ≡ false) × (is_output link ≡ false)

-- each link can hold at least what it could at the start
abbrev pub HoldEnough : List Link → List ℕ → Type 0
HoldEnough links capacities = (l : ℕ) (link : Link) → slice_get links l ≡ Some link
    → link.capacity ≤ slice_index_or capacities l 0

-- an input link can hold what it could
abbrev pub SameOnInputs : List Link → List ℕ → List ℕ → Type 0
SameOnInputs links old new = (l : ℕ) (link : Link) → slice_get links l ≡ Some link
    → is_input link ≡ true → slice_index_or new l 0 ≡ slice_index_or old l 0

-- link l grew to this capacity, which is twice what it could hold, at most the limit; or it may not
pub record GrewAt {X : Type 0} (grow l capacity : ℕ) (old new : Held (Cell X)) : Type 0 where
  pub below : MayGrow grow old l
  pub doubled : capacity ≡ min (2 * slice_index_or old.capacities l 0) grow
  pub grew : GrewTo l capacity old new

abbrev pub GrewNotAt : {X : Type 0} → ℕ → ℕ → ℕ → Held (Cell X) → Type 0
GrewNotAt grow l capacity held = IsInner (slice_get held.links l) → MayGrow grow held l
    → capacity ≢ min (2 * slice_index_or held.capacities l 0) grow

-- The same of what the code holds.

module _ {C X S : Type 0} (cell : C → Cell X) (feeds : S → Inputs) where
  abbrev pub EndsOn : ℕ → Line → Held C → TakenBack → List (Option Reading) → S → Type 0
  EndsOn grow line held taken readings now =
      EndsSo grow line (seen cell held) (stacked taken) readings (feeds now)

  abbrev pub EndsNotOn : ℕ → Line → Held C → TakenBack → List (Option Reading) → S → Type 0
  EndsNotOn grow line held taken readings now =
      EndsNotSo grow line (seen cell held) (stacked taken) readings (feeds now)
