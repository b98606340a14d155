-- A period at work: the run of events in which the leaves of an order take their turns.
-- Trusted: part of what a promise means.
use Rattle.std.specs.Prelude.{◌≡◌, ℕ, suc, ◌+◌, ◌-◌, ◌*◌, ◌≤◌, false, true, List, [], ◌∷◌, ◌++◌, length, slice_get, Some}
use Rattle.rvc_base.specs.declared.trap.Trap.{Trap as TrapName}
use Rattle.rvc_base.specs.Behaviour.{Picks}
use Rattle.balanced_rates.specs.declared.link.RatedLink.{RatedLink}
use Rattle.period_order.specs.Turns.{IsPeak}
use Rattle.net_model.specs.declared.wiring.End.{End}
use Rattle.net_model.specs.declared.wiring.End.TheVariants.{Leaf as AtLeaf, Net as AtNet}
use Rattle.net_model.specs.declared.wiring.Link.{Link}
use Rattle.net_model.specs.Network.{Network, is_input, is_output}
use Rattle.net_model.specs.State.{Flow, State, choice_at}
use Rattle.net_model.specs.Event.{Event, Fire, Deliver, Trap, happens, run}
use Rattle.net_model.specs.Trace.{OnNext}
use Rattle.net_model.specs.Laws.{HasFlows, AreOrdered}
use Rattle.law_period.specs.Static.{NetRates, rated}

-- ---- states between periods

-- nothing lies on a link: what was sent has arrived and was taken
pub record IsEmpty (flow : Flow) : Type 0 where
  pub arrived : flow.arrived ≡ length flow.sent
  pub taken : flow.taken ≡ length flow.sent

-- a flow belongs to a link of the network
abbrev pub IsOn : {X : Type 0} → Network X → State X → Link → Flow → Type 0
IsOn net s link flow = (l : ℕ) × (slice_get net.links l ≡ Some link)
    × (slice_get s.flows l ≡ Some flow)

-- nothing trapped, each leaf is in one of its states, and the inner links are empty
pub record IsAtRest {X : Type 0} (net : Network X) (kept : ℕ → X → Type 0) (s : State X) :
    Type 0 where
  pub untrapped : s.trapped ≡ false
  pub actors : length s.actors ≡ length net.leaves
  pub kept_states : (i : ℕ) (x : X) → slice_get s.actors i ≡ Some x → kept i x
  pub flows : HasFlows net s
  pub ordered : AreOrdered s
  pub empty : (link : Link) (flow : Flow) → IsOn net s link flow → is_input link ≡ false
      → is_output link ≡ false → IsEmpty flow

-- how many tokens are given at a writing end, and taken at a reading end, if leaves fire so often
abbrev pub given_at : NetRates → (ℕ → ℕ) → End → ℕ
given_at rates firings (AtLeaf inst port) = rates.give inst.0 port * firings inst.0
given_at rates firings (AtNet port) = 0

abbrev pub taken_at : NetRates → (ℕ → ℕ) → End → ℕ
taken_at rates firings (AtLeaf inst port) = rates.need inst.0 port * firings inst.0
taken_at rates firings (AtNet port) = 0

-- the tokens of a link that weren't taken, whether they have arrived or not
abbrev pub held : Flow → ℕ
held flow = length flow.sent - flow.taken

-- on each input link there are as many tokens as a period takes
abbrev pub HasEnoughInput : {X : Type 0} → Network X → NetRates → (ℕ → ℕ) → State X → Type 0
HasEnoughInput net rates firings s = (link : Link) (flow : Flow) → IsOn net s link flow
    → is_input link ≡ true → taken_at rates firings link.to ≤ held flow

-- ---- runs

-- all that was sent arrives, link by link, from link l on
abbrev pub arrivals : ℕ → List Flow → List Event
arrivals l [] = []
arrivals l (flow ∷ flows) =
    Deliver l (length flow.sent - flow.arrived) ∷ arrivals (suc l) flows

abbrev pub all_arrive : {X : Type 0} → State X → List Event
all_arrive s = arrivals 0 s.flows

-- a leaf fires the action that selection gives, and then all arrives
pub record IsTurn {X : Type 0} (net : Network X) (s : State X) (leaf : ℕ) (events : List Event)
    (last : State X) : Type 0 where
  pub action : ℕ
  pub fired : State X
  pub chosen : choice_at net s leaf ≡ Picks action
  pub fires : happens net s (Fire leaf action) ≡ Some fired
  pub arrives : run net fired (all_arrive fired) ≡ Some last
  pub events_are : events ≡ Fire leaf action ∷ all_arrive fired

-- the leaves of an order take their turns
abbrev pub AreTurns : {X : Type 0} → Network X → State X → List ℕ → List Event → State X → Type 0
AreTurns net s [] events last = (events ≡ []) × (s ≡ last)
AreTurns {X} net s (leaf ∷ order) events last = (turn : List Event) × (rest : List Event)
    × (next : State X) × IsTurn net s leaf turn next × AreTurns net next order rest last
    × (events ≡ turn ++ rest)

-- all arrives, and then the leaves of an order take their turns
pub record PlaysOrder {X : Type 0} (net : Network X) (s : State X) (order : List ℕ)
    (events : List Event) (last : State X) : Type 0 where
  pub ready : State X
  pub turns : List Event
  pub arrives : run net s (all_arrive s) ≡ Some ready
  pub taken : AreTurns net ready order turns last
  pub events_are : events ≡ all_arrive s ++ turns

-- ---- what holds of a run

-- no inner link holds more than the peak that it has in the order
abbrev pub IsWithinPeaks : {X : Type 0} → Network X → NetRates → List ℕ → State X → Type 0
IsWithinPeaks net rates order s = (link : Link) (flow : Flow) (inner : RatedLink) (peak : ℕ)
    → IsOn net s link flow → rated rates link ≡ Some inner → IsPeak inner order peak
    → held flow ≤ peak

-- the events may happen, and this holds of each state, the first and the last too
abbrev pub Throughout : {X : Type 0} → Network X → (State X → Type 0) → State X → List Event
    → Type 0
Throughout net P s [] = P s
Throughout net P s (event ∷ events) =
    P s × OnNext (happens net s event) (λ next. Throughout net P next events)

-- behind firings of the leaves each link got what its writer gave, and lost what its reader took
pub record IsMoved {X : Type 0} (net : Network X) (rates : NetRates) (firings : ℕ → ℕ)
    (s last : State X) : Type 0 where
  pub given : (l : ℕ) (link : Link) (before after : Flow) → slice_get net.links l ≡ Some link
      → slice_get s.flows l ≡ Some before → slice_get last.flows l ≡ Some after
      → length after.sent ≡ length before.sent + given_at rates firings link.from
  pub taken : (l : ℕ) (link : Link) (before after : Flow) → slice_get net.links l ≡ Some link
      → slice_get s.flows l ≡ Some before → slice_get last.flows l ≡ Some after
      → is_output link ≡ false
      → after.taken ≡ before.taken + taken_at rates firings link.to

-- the whole order is played, and leaves the inner links empty again
pub record Completes {X : Type 0} (net : Network X) (kept : ℕ → X → Type 0) (rates : NetRates)
    (firings : ℕ → ℕ) (order : List ℕ) (s : State X) : Type 0 where
  pub events : List Event
  pub last : State X
  pub plays : PlaysOrder net s order events last
  pub leads : run net s events ≡ Some last
  pub within : Throughout net (IsWithinPeaks net rates order) s events
  pub at_rest : IsAtRest net kept last
  pub moved : IsMoved net rates firings s last

-- some turns are played, and in the next one the action that selection gives traps
pub record TrapsOnTheWay {X : Type 0} (net : Network X) (rates : NetRates) (order : List ℕ)
    (s : State X) : Type 0 where
  pub before : List ℕ
  pub leaf : ℕ
  pub after : List ℕ
  pub order_is : order ≡ before ++ leaf ∷ after
  pub events : List Event
  pub reached : State X
  pub plays : PlaysOrder net s before events reached
  pub action : ℕ
  pub cause : TrapName
  pub chosen : choice_at net reached leaf ≡ Picks action
  pub last : State X
  pub leads : run net s (events ++ Trap leaf action cause ∷ []) ≡ Some last
  pub within : Throughout net (IsWithinPeaks net rates order) s
      (events ++ Trap leaf action cause ∷ [])
