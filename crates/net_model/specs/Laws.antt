-- What holds of all runs, as statements.
-- Trusted: part of what a promise means.
use Rattle.std.specs.Prelude.{◌≡◌, ◌≢◌, ℕ, ◌+◌, ◌≤◌, ◌<◌, ◌↔◌, List, [], ◌∷◌, ℤ, length, map, slice_get, Option, None, Some}
use Rattle.rvc_base.specs.declared.trap.Trap.{Trap as TrapName}
use Rattle.rvc_base.specs.Behaviour.{Effect, Waits}
use Rattle.trace_text.specs.declared.line.Line.{Line}
use Rattle.trace_text.specs.declared.line.Line.TheVariants.{Header, Inst, Fire as FireLine, Deliver as DeliverLine, Grow, Quiet, Trap as TrapLine, Stall, Budget}
use Rattle.net_model.specs.Network.{Leaf, Network}
use Rattle.net_model.specs.State.{Flow, State, start_of, effect_at, choice_at}
use Rattle.net_model.specs.Event.{Event, Fire, Deliver, Trap, happens, run}
use Rattle.net_model.specs.Ends.{IsQuiet, IsSettled, IsStalled, all_fed}
use Rattle.net_model.specs.Trace.{PlaysFrom, played}
use Rattle.rvc_base.specs.Lawful.{IsLawful}
use Rattle.net_model.specs.Stable.{IsPrefix, AreStable}
use Rattle.net_model.specs.Wired.{IsWired}

abbrev pub sent_of : Option Flow → List ℤ
sent_of None = []
sent_of (Some flow) = flow.sent

-- the tokens that were sent on link l
abbrev pub sent_on_link : {X : Type 0} → State X → ℕ → List ℤ
sent_on_link s l = sent_of (slice_get s.flows l)

-- what was sent in s on each link of the network was sent in t too, before all else
abbrev pub SentGrows : {X : Type 0} → Network X → State X → State X → Type 0
SentGrows net s t = (l : ℕ) → l < length net.links → IsPrefix (sent_on_link s l) (sent_on_link t l)

-- no more tokens were taken than have arrived, and no more have arrived than were sent
abbrev pub IsOrdered : Flow → Type 0
IsOrdered flow = (flow.taken ≤ flow.arrived) × (flow.arrived ≤ length flow.sent)

-- this holds on each link
abbrev pub AreOrdered : {X : Type 0} → State X → Type 0
AreOrdered s = (l : ℕ) (flow : Flow) → slice_get s.flows l ≡ Some flow → IsOrdered flow

-- the behaviour of each leaf is lawful
abbrev pub AreLawful : {X : Type 0} → Network X → Type 0
AreLawful {X} net = (i : ℕ) (leaf : Leaf X) → slice_get net.leaves i ≡ Some leaf
    → IsLawful leaf.behaviour

-- the firings in events, and those that lines show: a leaf and its action, in order
abbrev pub firings_in : List Event → List (ℕ × ℕ)
firings_in [] = []
firings_in (Fire i a ∷ events) = (i, a) ∷ firings_in events
firings_in (Deliver l k ∷ events) = firings_in events
firings_in (Trap i a c ∷ events) = firings_in events

abbrev pub firings_shown : List Line → List (ℕ × ℕ)
firings_shown [] = []
firings_shown (FireLine i a ∷ lines) = (i, a) ∷ firings_shown lines
firings_shown (DeliverLine ∷ lines) = firings_shown lines
firings_shown (Grow l capacity ∷ lines) = firings_shown lines
firings_shown (TrapLine i a c ∷ lines) = firings_shown lines
firings_shown (Quiet ∷ lines) = firings_shown lines
firings_shown (Stall i a l ∷ lines) = firings_shown lines
firings_shown (Budget ∷ lines) = firings_shown lines
firings_shown (Header n l g ∷ lines) = firings_shown lines
firings_shown (Inst k ∷ lines) = firings_shown lines

-- a state without the capacities of its links, of which no event knows
abbrev pub without_capacity : Flow → Flow
without_capacity flow =
    record { sent = flow.sent; arrived = flow.arrived; taken = flow.taken; capacity = 0 }

abbrev pub without_capacities : {X : Type 0} → State X → State X
without_capacities s = record s { flows = map without_capacity s.flows }

-- Some events lead from s to t but for the capacities, and the firings among them are these.
pub record IsRunOf {X : Type 0} (net : Network X) (s t : State X) (firings : List (ℕ × ℕ)) :
    Type 0 where
  pub events : List Event
  pub reached : State X
  pub leads : run net s events ≡ Some reached
  pub same_tokens : without_capacities reached ≡ without_capacities t
  pub same_firings : firings_in events ≡ firings

-- each link has its flow
abbrev pub HasFlows : {X : Type 0} → Network X → State X → Type 0
HasFlows net s = length s.flows ≡ length net.links

-- The laws, over states X of actors.

-- what was sent stays in front of what is sent later, in every run ..
abbrev pub EventsKeepSent : (X : Type 0) → Type 0
EventsKeepSent X = (net : Network X) (s t : State X) (events : List Event)
    → run net s events ≡ Some t → SentGrows net s t

-- .. and by every line
abbrev pub LinesKeepSent : (X : Type 0) → Type 0
LinesKeepSent X = (net : Network X) (s t : State X) (lines : List Line)
    → played net s lines ≡ Some t → SentGrows net s t

-- at the start of a run over files each link has its flow, and no more was taken than has arrived ..
abbrev pub StartsInOrder : (X : Type 0) → Type 0
StartsInOrder X = (net : Network X) (inputs : List (List ℕ))
    → HasFlows net (start_of net inputs) × AreOrdered (start_of net inputs)

-- .. and so it is in every state that a run reaches from such a state ..
abbrev pub RunsAreOrdered : (X : Type 0) → Type 0
RunsAreOrdered X = (net : Network X) (events : List Event) (s t : State X)
    → IsWired net → AreLawful net → AreOrdered s → run net s events ≡ Some t → AreOrdered t

-- .. and that lines lead to
abbrev pub LinesAreOrdered : (X : Type 0) → Type 0
LinesAreOrdered X = (net : Network X) (grow : ℕ) (lines : List Line) (s t : State X)
    → IsWired net → AreLawful net → HasFlows net s → AreOrdered s → PlaysFrom net grow s lines t
    → HasFlows net t × AreOrdered t

-- lines lead to one state
abbrev pub LinesLeadToOne : (X : Type 0) → Type 0
LinesLeadToOne X = (net : Network X) (grow : ℕ) (lines : List Line) (s t u : State X)
    → PlaysFrom net grow s lines t → PlaysFrom net grow s lines u → t ≡ u

-- what lines play is a run of events, with the firings that the lines show
abbrev pub LinesAreRuns : (X : Type 0) → Type 0
LinesAreRuns X = (net : Network X) (grow : ℕ) (lines : List Line) (s t : State X) → HasFlows net s
    → PlaysFrom net grow s lines t → IsRunOf net s t (firings_shown lines)

-- each leaf's choice is to wait, with the rest of the feeds counted as arrived
abbrev pub AllWait : {X : Type 0} → Network X → State X → Type 0
AllWait net s = (i : ℕ) → choice_at net (all_fed net s) i ≡ Waits

-- a state is quiet if it is settled and each leaf waits
abbrev pub QuietIsWaiting : (X : Type 0) → Type 0
QuietIsWaiting X = (net : Network X) (s : State X) → AreLawful net → IsQuiet net s
    ↔ (IsSettled net s × AllWait net s)

-- a state is stalled in one place
abbrev pub StallsInOnePlace : (X : Type 0) → Type 0
StallsInOnePlace X = (net : Network X) (s : State X) (i a l j b m : ℕ)
    → IsStalled net s i a l → IsStalled net s j b m → (i ≡ j) × (a ≡ b) × (l ≡ m)

-- and it isn't quiet then
abbrev pub StalledIsNotQuiet : (X : Type 0) → Type 0
StalledIsNotQuiet X = (net : Network X) (s : State X) (i a l : ℕ) → AreLawful net
    → IsStalled net s i a l → IsQuiet net s → ⊥

-- an event from t and another from u lead to one state
pub record Meets {X : Type 0} (net : Network X) (t : State X) (from_t : Event) (u : State X)
    (from_u : Event) : Type 0 where
  pub last : State X
  pub one_way : happens net t from_t ≡ Some last
  pub other_way : happens net u from_u ≡ Some last

-- two firings of different leaves lead to one state in either order
abbrev pub FiringsCommute : (X : Type 0) → Type 0
FiringsCommute X = (net : Network X) (s t u : State X) (i a j b : ℕ) → AreOrdered s → i ≢ j
    → happens net s (Fire i a) ≡ Some t → happens net s (Fire j b) ≡ Some u
    → Meets net t (Fire j b) u (Fire i a)

-- a firing of a stable actor and a delivery lead to one state in either order
abbrev pub DeliveriesKeepFirings : (X : Type 0) → Type 0
DeliveriesKeepFirings X = (net : Network X) (s t u : State X) (i a l k : ℕ) → AreStable net
    → happens net s (Fire i a) ≡ Some t → happens net s (Deliver l k) ≡ Some u
    → Meets net t (Deliver l k) u (Fire i a)

-- two deliveries on different links lead to one state in either order
abbrev pub DeliveriesCommute : (X : Type 0) → Type 0
DeliveriesCommute X = (net : Network X) (s t u : State X) (l k m n : ℕ) → l ≢ m
    → happens net s (Deliver l k) ≡ Some t → happens net s (Deliver m n) ≡ Some u
    → Meets net t (Deliver m n) u (Deliver l k)

-- and so do two deliveries on one link that together don't pass what was sent
abbrev pub DeliveriesAdd : (X : Type 0) → Type 0
DeliveriesAdd X = (net : Network X) (s t u : State X) (l k n : ℕ)
    → ((flow : Flow) → slice_get s.flows l ≡ Some flow → flow.arrived + (k + n) ≤ length flow.sent)
    → happens net s (Deliver l k) ≡ Some t → happens net s (Deliver l n) ≡ Some u
    → Meets net t (Deliver l n) u (Deliver l k)

-- an event may happen in a state
abbrev pub MayHappen : {X : Type 0} → Network X → State X → Event → Type 0
MayHappen {X} net s event = (t : State X) × (happens net s event ≡ Some t)

-- a trap of a stable actor stays possible when tokens arrive ..
abbrev pub TrapsOutlastDeliveries : (X : Type 0) → Type 0
TrapsOutlastDeliveries X = (net : Network X) (s u : State X) (i a l k : ℕ) (c : TrapName)
    → AreStable net
    → MayHappen net s (Trap i a c) → happens net s (Deliver l k) ≡ Some u
    → MayHappen net u (Trap i a c)

-- .. and when another leaf fires
abbrev pub TrapsOutlastFirings : (X : Type 0) → Type 0
TrapsOutlastFirings X = (net : Network X) (s u : State X) (i a j b : ℕ) (c : TrapName)
    → AreOrdered s → i ≢ j
    → MayHappen net s (Trap i a c) → happens net s (Fire j b) ≡ Some u
    → MayHappen net u (Trap i a c)

-- in a network of stable actors a leaf has one firing or trap in a state
abbrev pub ActsOnce : (X : Type 0) → Type 0
ActsOnce X = (net : Network X) (s : State X) (i a b : ℕ) (this that : Effect X) → AreStable net
    → effect_at net s i a ≡ Some this → effect_at net s i b ≡ Some that → (a ≡ b) × (this ≡ that)

-- at most one cause of a trap of an action
abbrev pub TrapsByOneCause : (X : Type 0) → Type 0
TrapsByOneCause X = (net : Network X) (s t u : State X) (i a : ℕ) (c d : TrapName)
    → happens net s (Trap i a c) ≡ Some t → happens net s (Trap i a d) ≡ Some u → c ≡ d
