-- The state of a network as its cells hold it.
-- Trusted: part of what a promise means.
use Rattle.std.specs.Prelude.{◌≡◌, ℕ, ◌≤◌, ◌<◌, true, false, List, [], ℤ, length, map, drop, slice_get, slice_index_or, Option, None, Some, if◌then◌else◌}
use Rattle.rvc_base.specs.Storing.{conv}
use Rattle.rvc_base.specs.Lawful.{tokens_on}
use Rattle.net_model.specs.declared.wiring.End.{End}
use Rattle.net_model.specs.declared.wiring.End.TheVariants.{Leaf as AtLeaf, Net as AtNet}
use Rattle.net_model.specs.declared.wiring.Link.{Link}
use Rattle.net_model.specs.Network.{Network, is_input, is_output}
use Rattle.net_model.specs.State.{Flow, State, untaken, inbox}
use Rattle.net_model.specs.Event.{each_flow}
use Rattle.net_model.specs.Trace.{delivered}
use Rattle.net_model.specs.Cell.{Cell, HasNothingOut}
use Rattle.net_model.specs.Ready.{given_state}
use Rattle.net_state.specs.Held.{Held, held_of}
use Rattle.net_state.specs.Moving.{sent_of}

-- The network whose leaves are these cells' actors, joined by these links. Its paths, classes and ports are any.
pub record IsNetOf {X : Type 0} (net : Network X) (cells : List (Cell X)) (links : List Link) :
    Type 0 where
  pub actors : map (λ leaf. leaf.behaviour) net.leaves ≡ map (λ cell. cell.actor) cells
  pub links_are : net.links ≡ links

-- What was sent on a link and hasn't arrived lies in the writer's outbox. It is stored in the reader's type when it
-- moves. What is to come from outside isn't held here.
abbrev pub LiesIn : {X : Type 0} → List (Cell X) → Link → List ℤ → End → Type 0
LiesIn cells link tokens (AtLeaf inst port) = tokens
    ≡ map (conv link.kind) (sent_of (slice_get cells inst.0) port)
LiesIn cells link tokens (AtNet port) = Unit {0}

pub record IsHeld {X : Type 0} (cells : List (Cell X)) (link : Link) (flow : Flow) (capacity : ℕ) :
    Type 0 where
  pub lies : LiesIn cells link (drop flow.arrived flow.sent) link.from
  pub capacity_is : flow.capacity ≡ capacity
  pub arrived : flow.arrived ≤ length flow.sent
  pub taken : flow.taken ≤ flow.arrived
  -- what arrives at an output of the network counts as taken
  pub gone : is_output link ≡ true → flow.taken ≡ flow.arrived

-- the same of each link
pub record AreHeld {X : Type 0} (cells : List (Cell X)) (links : List Link) (flows : List Flow)
    (capacities : List ℕ) : Type 0 where
  pub count : length flows ≡ length links
  pub each : (l : ℕ) (link : Link) (flow : Flow) → slice_get links l ≡ Some link
      → slice_get flows l ≡ Some flow
      → IsHeld cells link flow (slice_index_or capacities l 0)

-- the tokens before each input port are those that wait on the link that leads there
abbrev pub InboxesHold : {X : Type 0} → List (Cell X) → List Link → List Flow → Type 0
InboxesHold {X} cells links flows = (i : ℕ) (cell : Cell X) → slice_get cells i ≡ Some cell
    → (p : ℕ) → p < cell.actor.ins → tokens_on cell.inboxes p ≡ inbox i p links flows

-- each actor's state is that of its cell; a cell that trapped holds none
pub record ActorsHold {X : Type 0} (cells : List (Cell X)) (actors : List X) : Type 0 where
  pub count : length actors ≡ length cells
  pub each : (i : ℕ) (cell : Cell X) → slice_get cells i ≡ Some cell → cell.trapped ≡ false
      → slice_get actors i ≡ Some cell.state

-- the cells hold this state of the network
pub record Stands {X : Type 0} (net : Network X) (cells : List (Cell X)) (capacities : List ℕ)
    (s : State X) : Type 0 where
  pub actors : ActorsHold cells s.actors
  pub inboxes : InboxesHold cells net.links s.flows
  pub flows : AreHeld cells net.links s.flows capacities
  pub untrapped : s.trapped ≡ false

-- the network is one of these cells and links, and they hold its state
pub record StandsIn {X : Type 0} (net : Network X) (held : Held (Cell X)) (s : State X) :
    Type 0 where
  pub is_of : IsNetOf net held.cells held.links
  pub stands : Stands net held.cells held.capacities s

-- On an inner or output link: all that had been sent when it was `opened` had arrived then, nothing has arrived
-- since, and so many tokens waited.
pub record IsSince (opened flow : Flow) (waited : ℕ) : Type 0 where
  pub all_arrived : opened.arrived ≡ length opened.sent
  pub none_since : flow.arrived ≡ opened.arrived
  pub waited_is : untaken opened ≡ waited

-- the network was opened by its last delivery, which led to the state `opened`; what waited then was counted
pub record IsOpened (links : List Link) (waited : List ℕ) (opened flows : List Flow) : Type 0 where
  pub whole : length opened ≡ length links
  pub each : (l : ℕ) (link : Link) (before flow : Flow) → slice_get links l ≡ Some link
      → is_input link ≡ false → slice_get opened l ≡ Some before → slice_get flows l ≡ Some flow
      → IsSince before flow (slice_index_or waited l 0)

-- the state stands in what is held, and it was `opened` by the last delivery
pub record StandsSince {X : Type 0} (net : Network X) (held : Held (Cell X)) (opened s : State X) :
    Type 0 where
  pub now : StandsIn net held s
  pub since : IsOpened net.links held.waited opened.flows s.flows

-- Deliveries.

-- a delivery of inner and output links: all that was sent arrives
abbrev pub inside_delivered : Link → Flow → Flow
inside_delivered link flow = if is_input link then flow else delivered link flow

abbrev pub after_inside : {X : Type 0} → Network X → State X → State X
after_inside net s = record s { flows = each_flow inside_delivered net.links s.flows }

-- a delivery of inner and output links leads each state that stood to this one, which it opened
abbrev pub LeadInside : {X : Type 0} → Held (Cell X) → Held (Cell X) → Type 0
LeadInside {X} old new = (net : Network X) (s : State X) → StandsIn net old s
    → StandsSince net new (after_inside net s) (after_inside net s)

-- the same of cells and of what waited, where links and capacities stay
abbrev pub Delivers : {X : Type 0} → List Link → List ℕ → List (Cell X) → List ℕ
    → List (Cell X) → List ℕ → Type 0
Delivers links capacities old waited_old new waited_new =
    LeadInside (held_of old links capacities waited_old)
    (held_of new links capacities waited_new)

-- no cell has sent anything that hasn't left, and no journal names a firing
abbrev pub AreAllOut : {X : Type 0} → List (Cell X) → Type 0
AreAllOut {X} cells = (i : ℕ) (cell : Cell X) → slice_get cells i ≡ Some cell → HasNothingOut cell

-- the cells hold the state in which a run from them begins
abbrev pub StandAtStart : {X : Type 0} → Held (Cell X) → Type 0
StandAtStart {X} held = (net : Network X) (inputs : List (List ℕ))
    → IsNetOf net held.cells held.links
    → StandsIn net held (given_state net held.cells inputs)

-- Reading what was sent.

-- what was sent on a link and hasn't arrived
abbrev pub unarrived : Option Flow → List ℤ
unarrived None = []
unarrived (Some flow) = drop flow.arrived flow.sent

-- this is true of what was sent on link l and hasn't arrived, in each state that the cells hold
abbrev pub IsTrueOfUnarrived : {X : Type 0} → Held (Cell X) → ℕ → (List ℤ → Type 0) → Type 0
IsTrueOfUnarrived {X} held l P = (net : Network X) (s : State X) → StandsIn net held s
    → P (unarrived (slice_get s.flows l))
