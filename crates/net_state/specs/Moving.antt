-- What moves between the cells of a network: tokens that come in, and outboxes that are emptied.
-- Trusted: part of what a promise means.
use Rattle.std.specs.Prelude.{◌≡◌, ◌≢◌, ℕ, ◌+◌, ◌≤◌, ◌<◌, ◌==◌, ◌&&◌, false, List, [], ◌∷◌, ◌++◌, ℤ, length, map, slice_get, Option, None, Some, if◌then◌else◌}
use Rattle.rvc_base.specs.declared.scalar.Scalar.{Scalar}
use Rattle.rvc_base.specs.Storing.{IsSize, conv}
use Rattle.rvc_base.specs.Lawful.{tokens_on}
use Rattle.net_model.specs.declared.wiring.End.{End}
use Rattle.net_model.specs.declared.wiring.End.TheVariants.{Leaf as AtLeaf, Net as AtNet}
use Rattle.net_model.specs.declared.wiring.Link.{Link}
use Rattle.net_model.specs.Network.{is_input, is_leaf_port}
use Rattle.net_model.specs.Cell.{Cell, number_on, IsSameActor, SameOutboxes, Clears}
use Rattle.net_model.specs.Ready.{OnCell}

-- the tokens that were sent on a port and haven't left yet
abbrev pub sent_of : {X : Type 0} → Option (Cell X) → ℕ → List ℤ
sent_of None p = []
sent_of (Some cell) p = tokens_on cell.outboxes p

abbrev pub sent_by : {X : Type 0} → List (Cell X) → ℕ → ℕ → List ℤ
sent_by cells i p = sent_of (slice_get cells i) p

-- What stays.

-- the actors, the capacities of their queues and the rooms of their journals are the same
pub record SameActors {X : Type 0} (old new : List (Cell X)) : Type 0 where
  pub count : length new ≡ length old
  pub each : (i : ℕ) (before after : Cell X) → slice_get old i ≡ Some before
      → slice_get new i ≡ Some after → IsSameActor before after

-- each cell is marked as trapped where it was
abbrev pub SameMarks : {X : Type 0} → List (Cell X) → List (Cell X) → Type 0
SameMarks {X} old new = (i : ℕ) (before after : Cell X) → slice_get old i ≡ Some before
    → slice_get new i ≡ Some after → after.trapped ≡ before.trapped

-- tokens come in behind those before each port, and all else stays
pub record Gains {X : Type 0} (arriving : ℕ → List ℤ) (old new : Cell X) : Type 0 where
  pub actor : IsSameActor old new
  pub state : new.state ≡ old.state
  pub inboxes : (p : ℕ) → p < old.actor.ins
      → tokens_on new.inboxes p ≡ tokens_on old.inboxes p ++ arriving p
  pub outboxes : SameOutboxes old new
  pub journal : new.journal ≡ old.journal
  pub trapped : new.trapped ≡ old.trapped

-- the same of each cell: `arriving` gives the tokens by cell and port
pub record EachGains {X : Type 0} (arriving : ℕ → ℕ → List ℤ) (old new : List (Cell X)) :
    Type 0 where
  pub count : length new ≡ length old
  pub each : (i : ℕ) (before after : Cell X) → slice_get old i ≡ Some before
      → slice_get new i ≡ Some after
      → Gains (arriving i) before after

-- these tokens come to port q of cell j, and none elsewhere
abbrev pub only_to : ℕ → ℕ → List ℤ → ℕ → ℕ → List ℤ
only_to j q tokens i p = if (i == j) && (p == q) then tokens else []

-- what was sent on port p of cell i came to port q of cell j, stored in the reader's type
abbrev pub Carries : {X : Type 0} → ℕ → ℕ → ℕ → ℕ → Scalar → List (Cell X) → List (Cell X) → Type 0
Carries i p j q kind old new = EachGains (only_to j q (map (conv kind) (sent_by old i p))) old new

-- port p is an output port of cell i
abbrev pub IsOutput : {X : Type 0} → List (Cell X) → ℕ → ℕ → Type 0
IsOutput cells i p = OnCell (slice_get cells i) (λ cell. p < cell.actor.outs)

abbrev pub IsInput : {X : Type 0} → List (Cell X) → ℕ → ℕ → Type 0
IsInput cells j q = OnCell (slice_get cells j) (λ cell. q < cell.actor.ins)

-- port q is an input port of cell j, and so many tokens more have room before it
abbrev pub HasRoomBefore : {X : Type 0} → List (Cell X) → ℕ → ℕ → ℕ → Type 0
HasRoomBefore cells j q count = OnCell (slice_get cells j) (λ cell. (q < cell.actor.ins)
    × (length (tokens_on cell.inboxes q) + count ≤ number_on cell.inbox_capacities q))

-- cell i is cleared, and the others stay
pub record ClearsAt {X : Type 0} (i : ℕ) (old new : List (Cell X)) : Type 0 where
  pub count : length new ≡ length old
  pub here : (before after : Cell X) → slice_get old i ≡ Some before → slice_get new i ≡ Some after
      → Clears before after
  pub elsewhere : (k : ℕ) → k ≢ i → slice_get new k ≡ slice_get old k

pub record EachClears {X : Type 0} (old new : List (Cell X)) : Type 0 where
  pub count : length new ≡ length old
  pub each : (i : ℕ) (before after : Cell X) → slice_get old i ≡ Some before
      → slice_get new i ≡ Some after → Clears before after

-- Links.

-- what was sent at a writing end and hasn't left yet; what is to come from outside isn't known here
abbrev pub sent_from : {X : Type 0} → List (Cell X) → End → List ℤ
sent_from cells (AtLeaf inst port) = sent_of (slice_get cells inst.0) port
sent_from cells (AtNet port) = []

-- the same as a link's reader stores it
abbrev pub carried : {X : Type 0} → List (Cell X) → Link → List ℤ
carried cells link = map (conv link.kind) (sent_from cells link.from)

-- what comes over links to port p of cell i
abbrev pub arriving : {X : Type 0} → List (Cell X) → List Link → ℕ → ℕ → List ℤ
arriving cells [] i p = []
arriving cells (link ∷ links) i p = if is_leaf_port i p link.to then carried cells link
    else arriving cells links i p

-- what was sent on links between cells came to its readers
abbrev pub CarriesAlong : {X : Type 0} → List Link → List (Cell X) → List (Cell X) → Type 0
CarriesAlong links old new = EachGains (arriving old links) old new

abbrev pub IsWriter : {X : Type 0} → List (Cell X) → End → Type 0
IsWriter cells (AtLeaf inst port) = IsOutput cells inst.0 port
IsWriter cells (AtNet port) = Unit {0}

-- so many tokens more have room before a reading end
abbrev pub HasRoomAt : {X : Type 0} → List (Cell X) → End → ℕ → Type 0
HasRoomAt cells (AtLeaf inst port) count = HasRoomBefore cells inst.0 port count
HasRoomAt cells (AtNet port) count = Unit {0}

-- what was sent on a link can be moved to its reader
pub record CanCarry {X : Type 0} (cells : List (Cell X)) (link : Link) : Type 0 where
  pub size : IsSize link.kind
  pub writer : IsWriter cells link.from
  pub room : HasRoomAt cells link.to (length (sent_from cells link.from))

-- no two links lead to one place
abbrev pub AreApart : List Link → Type 0
AreApart links = (l m : ℕ) (link other : Link) → l < m → slice_get links l ≡ Some link
    → slice_get links m ≡ Some other
    → link.to ≢ other.to

abbrev pub CanCarryAll : {X : Type 0} → List (Cell X) → List Link → Type 0
CanCarryAll cells links = (l : ℕ) (link : Link) → slice_get links l ≡ Some link
    → CanCarry cells link

-- a link that begins at a cell
abbrev pub IsFromCell : Option Link → Type 0
IsFromCell None = ⊥
IsFromCell (Some link) = is_input link ≡ false

-- what was sent on a link, as its reader stores it
abbrev pub carried_on : {X : Type 0} → List (Cell X) → Option Link → List ℤ
carried_on cells None = []
carried_on cells (Some link) = carried cells link

-- each link begins at a port that is there, and has a type of tokens
abbrev pub WritersFit : {X : Type 0} → List (Cell X) → List Link → Type 0
WritersFit cells links = (l : ℕ) (link : Link) → slice_get links l ≡ Some link → IsSize link.kind
    × IsWriter cells link.from

-- port q is an input port of cell j; at most `capacity` tokens wait before it, and it can hold so many
abbrev pub HasRoomUpTo : {X : Type 0} → List (Cell X) → ℕ → ℕ → ℕ → Type 0
HasRoomUpTo cells j q capacity = OnCell (slice_get cells j) (λ cell. (q < cell.actor.ins)
    × (length (tokens_on cell.inboxes q) ≤ capacity)
    × (capacity ≤ number_on cell.inbox_capacities q))
