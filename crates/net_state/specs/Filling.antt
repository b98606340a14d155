-- What filling an input link from its feed does.
-- Trusted: part of what a promise means.
use Rattle.std.specs.Prelude.{◌≡◌, ℕ, ◌≤◌, ◌<◌, true, List, ℤ, length, take, drop, map, slice_get, slice_index_or, Option, None, Some}
use Rattle.rvc_base.specs.declared.scalar.Scalar.{Scalar}
use Rattle.rvc_base.specs.Storing.{conv}
use Rattle.rvc_io.specs.Feeds.{Inputs}
use Rattle.net_model.specs.declared.wiring.End.{End}
use Rattle.net_model.specs.declared.wiring.End.TheVariants.{Leaf as AtLeaf, Net as AtNet}
use Rattle.net_model.specs.declared.wiring.Link.{Link}
use Rattle.net_model.specs.Network.{Network, is_input}
use Rattle.net_model.specs.State.{Flow, State}
use Rattle.net_model.specs.Event.{Deliver, happens}
use Rattle.net_model.specs.Trace.{arrivals}
use Rattle.net_model.specs.Cell.{Cell}
use Rattle.net_model.specs.PortFile.{rest_of, tokens}
use Rattle.net_model.specs.Ready.{tokens_of}
use Rattle.port_files.specs.Coming.{EndsWith, Reading, coming_on, is_short}
use Rattle.net_state.specs.Held.{Held}
use Rattle.net_state.specs.Moving.{EachGains, only_to}
use Rattle.net_state.specs.Standing.{IsOpened, StandsIn, unarrived}

-- what is to come on a feed: the type of its tokens, and the bytes, if they are told
pub record Inflow : Type 0 where
  pub kind : Scalar
  pub bytes : Option (List ℕ)

-- what is to come on a feed that is read so far
abbrev pub inflow : Reading → Inputs → ℕ → Inflow
inflow reading feeds feed =
    record { kind = reading.kind; bytes = coming_on reading.pulled feeds feed }

-- these tokens are still to come, if the bytes to come are told
abbrev pub AreToCome : Scalar → Option (List ℕ) → List ℤ → Type 0
AreToCome kind None ts = ⊥
AreToCome kind (Some bytes) ts = tokens kind bytes ≡ ts

-- as many bytes at the end of those to come are no token as before, if they are told
abbrev pub SameRest : Scalar → Option (List ℕ) → Option (List ℕ) → Type 0
SameRest kind None after = after ≡ None
SameRest kind (Some before) None = ⊥
SameRest kind (Some before) (Some after) = rest_of kind after ≡ rest_of kind before

-- `count` of the tokens to come went behind those before port q of cell j, each stored in the reader's type
pub record Takes {X : Type 0} (kind stored_in : Scalar) (j q count : ℕ) (old new : List (Cell X))
    (coming_old coming_new : Option (List ℕ)) : Type 0 where
  pub taken : List ℤ
  pub count_is : length taken ≡ count
  pub gains : EachGains (only_to j q (map (conv stored_in) taken)) old new
  pub first : (ts : List ℤ) → AreToCome kind coming_old ts → (taken ≡ take count ts)
      × (count ≤ length ts) × AreToCome kind coming_new (drop count ts)

-- The port holds as many as it may, or no token is left and `rest` bytes are.
abbrev pub IsFilled : {X : Type 0} → Scalar → ℕ → ℕ → ℕ → Option ℕ → List (Cell X) → Option (List ℕ)
    → Type 0
IsFilled kind j q capacity None cells coming = length (tokens_of (slice_get cells j) q) ≡ capacity
IsFilled kind j q capacity (Some rest) cells coming =
    (length (tokens_of (slice_get cells j) q) < capacity) × EndsWith kind rest coming

-- A pull is due before port q of cell j: the port holds less than it may, and of what was pulled no whole token is left.
pub record IsDue {X : Type 0} (j q capacity : ℕ) (cells : List (Cell X)) (reading : Reading) : Type 0 where
  pub unfilled : length (tokens_of (slice_get cells j) q) < capacity
  pub short : is_short reading ≡ true

-- Input links.

-- link l begins at an input of the network
abbrev pub IsInputLink : Option Link → Type 0
IsInputLink None = ⊥
IsInputLink (Some link) = is_input link ≡ true

-- this is true of link l and the port to which it leads
abbrev pub AtPort : Link → (Link → ℕ → ℕ → Type 0) → End → Type 0
AtPort link P (AtLeaf inst port) = P link inst.0 port
AtPort link P (AtNet port) = ⊥

abbrev pub AtReader : Option Link → (Link → ℕ → ℕ → Type 0) → Type 0
AtReader None P = ⊥
AtReader (Some link) P = AtPort link P link.to

-- what was sent on link l and hasn't arrived is what is to come on its feed, as the link's reader stores it
abbrev pub IsFed : {X : Type 0} → State X → ℕ → Option Link → Inflow → Type 0
IsFed s l None feed = ⊥
IsFed s l (Some link) feed = (ts : List ℤ) × AreToCome feed.kind feed.bytes ts
    × (unarrived (slice_get s.flows l) ≡ map (conv link.kind) ts)

-- The state goes on by the arrival of `count` tokens of link l, to one that stands.
pub record Arrives {X : Type 0} (net : Network X) (s : State X) (l count : ℕ) (feed : Inflow)
    (new : Held (Cell X)) : Type 0 where
  pub next : State X
  pub happens_so : happens net s (Deliver l count) ≡ Some next
  pub stands : StandsIn net new next
  pub fed : IsFed next l (slice_get new.links l) feed
  -- a state that was just opened stays so
  pub opened : IsOpened net.links new.waited s.flows s.flows
      → IsOpened net.links new.waited next.flows next.flows

-- Tokens of a feed came over link l: how many is `told`. Each state goes on whose unread tokens are the feed's.
pub record Fills {X : Type 0} (l : ℕ) (before after : Inflow) (told : ℕ → Type 0)
    (old new : Held (Cell X)) : Type 0 where
  pub count : ℕ
  pub told_is : told count
  pub took : AtReader (slice_get old.links l)
      (λ link j q. Takes before.kind link.kind j q count old.cells new.cells before.bytes
      after.bytes)
  pub states : (net : Network X) (s : State X) → StandsIn net old s
      → IsFed s l (slice_get old.links l) before → Arrives net s l count after new

-- the link holds its capacity, or no token is left on its feed and `rest` bytes are
abbrev pub IsFull : {X : Type 0} → ℕ → Option ℕ → Held (Cell X) → Inflow → Type 0
IsFull l rest held feed = AtReader (slice_get held.links l)
    (λ link j q. IsFilled feed.kind j q
    (slice_index_or held.capacities l 0) rest held.cells feed.bytes)

-- a pull is due for the link
abbrev pub IsDueFor : {X : Type 0} → ℕ → Held (Cell X) → Reading → Type 0
IsDueFor l held reading = AtReader (slice_get held.links l)
    (λ link j q. IsDue j q (slice_index_or held.capacities l 0) held.cells reading)

-- so many tokens are those that arrive on link l at a delivery, in each state whose unread tokens are the feed's
abbrev pub AreArrivals : {X : Type 0} → ℕ → ℕ → Held (Cell X) → Inflow → Type 0
AreArrivals {X} l count held feed = (net : Network X) (s : State X) (link : Link) (flow : Flow)
    → StandsIn net held s
    → IsFed s l (slice_get held.links l) feed → slice_get net.links l ≡ Some link
    → slice_get s.flows l ≡ Some flow
    → count ≡ arrivals link flow
