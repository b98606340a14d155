-- What is held of a network at work: its cells, its links, and how much each link can hold now.
-- Trusted: part of what a promise means.
use Rattle.std.specs.Prelude.{◌≡◌, ℕ, ◌+◌, ◌-◌, ◌≤◌, ◌<◌, ◌↔◌, min, true, false, List, [], ◌∷◌, length, map, slice_get, slice_index_or, Option, None, Some, Vec, vec_items, if◌then◌else◌}
use Rattle.std.specs.declared.alloc.Global.{Global}
use Rattle.rvc_base.specs.Storing.{IsSize}
use Rattle.rvc_base.specs.Lawful.{tokens_on}
use Rattle.net_model.specs.declared.wiring.End.{End}
use Rattle.net_model.specs.declared.wiring.End.TheVariants.{Leaf as AtLeaf, Net as AtNet}
use Rattle.net_model.specs.declared.wiring.Link.{Link}
use Rattle.net_model.specs.Network.{is_input, is_output, is_leaf_port}
use Rattle.net_model.specs.Cell.{Cell, number_on, unread_room, HasNothingOut}
use Rattle.net_model.specs.Limits.{max_instances, max_links, max_rate}
use Rattle.net_model.specs.Ready.{OutboxHolds, InboxHolds, waiting_at}
use Rattle.net_state.specs.Moving.{IsInput, IsWriter, AreApart, sent_from}

-- `waited` has for each link how many tokens waited at its reading end after the last delivery
pub record Held (C : Type 0) : Type 0 where
  pub cells : List C
  pub links : List Link
  pub capacities : List ℕ
  pub waited : List ℕ

-- the same with all that is seen of each cell
abbrev pub seen : {C X : Type 0} → (C → Cell X) → Held C → Held (Cell X)
seen cell held =
    record {
      cells = map cell held.cells;
      links = held.links;
      capacities = held.capacities;
      waited = held.waited;
    }

abbrev pub held_of : {X : Type 0} → List (Cell X) → List Link → List ℕ → List ℕ → Held (Cell X)
held_of cells links capacities waited =
    record { cells = cells; links = links; capacities = capacities; waited = waited }

-- The room of output port p of cell i, which is fixed at a delivery: the least of its links' present capacities,
-- each less what waited then at the link's reading end. A port that no link leaves has room for any number.
abbrev pub room_of : ℕ → ℕ → List Link → List ℕ → List ℕ → ℕ
room_of i p [] capacities waited = unread_room
room_of i p (link ∷ links) [] waited = unread_room
room_of i p (link ∷ links) (capacity ∷ capacities) [] = unread_room
room_of i p (link ∷ links) (capacity ∷ capacities) (count ∷ waited) =
    if is_leaf_port i p link.from
    then min (capacity - count) (room_of i p links capacities waited)
    else room_of i p links capacities waited

-- the rooms of all ports, a row for each cell
abbrev pub IsRoomTable : List Link → List ℕ → List ℕ → List (List ℕ) → Type 0
IsRoomTable links capacities waited table = (i p : ℕ) (row : List ℕ) → slice_get table i ≡ Some row
    → p < length row
    → slice_index_or row p 0 ≡ room_of i p links capacities waited

-- a table of the same shape
pub record HasShapeOf (old new : List (List ℕ)) : Type 0 where
  pub rows : length new ≡ length old
  pub widths : (i : ℕ) (before after : List ℕ) → slice_get old i ≡ Some before
      → slice_get new i ≡ Some after → length after ≡ length before

-- in the first n rows each room is that of a port which no link leaves
abbrev pub IsWide : ℕ → List (List ℕ) → Type 0
IsWide n table = (i p : ℕ) (row : List ℕ) → i < n → slice_get table i ≡ Some row → p < length row
    → slice_index_or row p 0 ≡ unread_room

-- a port has its place in the table
abbrev pub OnRow : Option (List ℕ) → (List ℕ → Type 0) → Type 0
OnRow None P = ⊥
OnRow (Some row) P = P row

abbrev pub HasPlace : List (List ℕ) → End → Type 0
HasPlace table (AtLeaf inst port) = OnRow (slice_get table inst.0) (λ row. port < length row)
HasPlace table (AtNet port) = Unit {0}

-- each link's writing end has its place
abbrev pub HavePlaces : List (List ℕ) → List Link → Type 0
HavePlaces table links = (l : ℕ) (link : Link) → slice_get links l ≡ Some link
    → HasPlace table link.from

-- the room at one place is at most this from now on
pub record Narrows (end : End) (room : ℕ) (old new : List (List ℕ)) : Type 0 where
  pub shape : HasShapeOf old new
  pub each : (i p : ℕ) (before after : List ℕ) → slice_get old i ≡ Some before
      → slice_get new i ≡ Some after → p < length before
      → slice_index_or after p 0 ≡ (if is_leaf_port i p end
      then min room (slice_index_or before p 0) else slice_index_or before p 0)

abbrev pub IsReader : {X : Type 0} → List (Cell X) → End → Type 0
IsReader cells (AtLeaf inst port) = IsInput cells inst.0 port
IsReader cells (AtNet port) = Unit {0}

-- for each link how many tokens wait at its reading end
pub record AreCounted {X : Type 0} (cells : List (Cell X)) (links : List Link) (waited : List ℕ) :
    Type 0 where
  pub as_many : length waited ≡ length links
  pub each : (l : ℕ) (link : Link) → slice_get links l ≡ Some link
      → slice_index_or waited l 0 ≡ length (waiting_at cells link.to)

-- a link leaves port p of cell i
abbrev pub IsLeft : List Link → ℕ → ℕ → Type 0
IsLeft links i p = (l : ℕ) × (link : Link) × (slice_get links l ≡ Some link)
    × (is_leaf_port i p link.from ≡ true)

-- what holds of a link and its queues
pub record FitsIn {X : Type 0} (cells : List (Cell X)) (capacity waited : ℕ) (link : Link) :
    Type 0 where
  pub size : IsSize link.kind
  pub writer : IsWriter cells link.from
  pub reader : IsReader cells link.to
  pub inside : is_input link ≡ true → is_output link ≡ false
  pub outbox : OutboxHolds cells capacity link.from
  pub inbox : InboxHolds cells capacity link.to
  pub waiting : length (waiting_at cells link.to) ≤ capacity
  pub counted : waited ≤ capacity
  pub grown : link.capacity ≤ capacity
  -- on inner and output links: what waited at the last delivery and what was sent since is at most the capacity
  pub fewer : is_input link ≡ false → length (waiting_at cells link.to) ≤ waited
  pub since : is_input link ≡ false → waited + length (sent_from cells link.from) ≤ capacity

-- no action gives more than an action may
abbrev pub GivesFew : {X : Type 0} → List (Cell X) → Type 0
GivesFew {X} cells = (i : ℕ) (cell : Cell X) → slice_get cells i ≡ Some cell → (a p : ℕ)
    → cell.actor.give a p ≤ max_rate

-- no capacity passes the room of a port that no link leaves
abbrev pub HoldFew : List ℕ → Type 0
HoldFew capacities = (l : ℕ) → slice_index_or capacities l 0 ≤ unread_room

-- what holds of all that is held
pub record IsWorking {X : Type 0} (cells : List (Cell X)) (links : List Link)
    (capacities waited : List ℕ) : Type 0 where
  pub each_holds : length capacities ≡ length links
  pub each_waited : length waited ≡ length links
  pub apart : AreApart links
  pub fits : (l : ℕ) (link : Link) → slice_get links l ≡ Some link
      → FitsIn cells (slice_index_or capacities l 0) (slice_index_or waited l 0) link
  -- a port is without reader exactly if no link leaves it
  pub read : (i : ℕ) (cell : Cell X) → slice_get cells i ≡ Some cell
      → (p : ℕ) → p < cell.actor.outs → (0 < number_on cell.outbox_capacities p) ↔ IsLeft links i p
  pub few_given : GivesFew cells
  pub few_held : HoldFew capacities
  pub few_cells : length cells ≤ max_instances
  pub few_links : length links ≤ max_links

-- the table has a row for each cell, and in it a place for each of its output ports
pub record HasWidths {X : Type 0} (cells : List (Cell X)) (table : List (List ℕ)) : Type 0 where
  pub rows : length table ≡ length cells
  pub widths : (i : ℕ) (cell : Cell X) (row : List ℕ) → slice_get cells i ≡ Some cell
      → slice_get table i ≡ Some row → length row ≡ cell.actor.outs

-- the table of rooms fits the cells
pub record HasRooms {X : Type 0} (cells : List (Cell X)) (links : List Link)
    (capacities waited : List ℕ) (table : List (List ℕ)) : Type 0 where
  pub rows : length table ≡ length cells
  pub widths : (i : ℕ) (cell : Cell X) (row : List ℕ) → slice_get cells i ≡ Some cell
      → slice_get table i ≡ Some row → length row ≡ cell.actor.outs
  pub rooms : IsRoomTable links capacities waited table

-- .. and both hold
abbrev pub KeepsRooms : {C X : Type 0} → (C → Cell X) → List C → List Link → List ℕ → List ℕ
    → List (Vec ℕ Global) → Type 0
KeepsRooms cell cells links capacities waited table =
    IsWorking (map cell cells) links capacities waited
    × HasRooms (map cell cells) links capacities waited (map vec_items table)

-- What is asked of cells and links at the start.

-- what is asked of a link and its queues
pub record IsJoinedTo {X : Type 0} (cells : List (Cell X)) (link : Link) : Type 0 where
  pub size : IsSize link.kind
  pub writer : IsWriter cells link.from
  pub reader : IsReader cells link.to
  pub inside : is_input link ≡ true → is_output link ≡ false
  pub outbox : OutboxHolds cells link.capacity link.from
  pub inbox : InboxHolds cells link.capacity link.to
  pub waiting : length (waiting_at cells link.to) ≤ link.capacity

-- no link leads to port p of cell i
abbrev pub NoneLeads : List Link → ℕ → ℕ → Type 0
NoneLeads links i p = (l : ℕ) (link : Link) → slice_get links l ≡ Some link
    → is_leaf_port i p link.to ≡ false

pub record CanWork {X : Type 0} (cells : List (Cell X)) (links : List Link) : Type 0 where
  pub apart : AreApart links
  pub joined : (l : ℕ) (link : Link) → slice_get links l ≡ Some link → IsJoinedTo cells link
  pub read : (i : ℕ) (cell : Cell X) → slice_get cells i ≡ Some cell
      → (p : ℕ) → p < cell.actor.outs → (0 < number_on cell.outbox_capacities p) ↔ IsLeft links i p
  pub few_given : GivesFew cells
  pub few_cells : length cells ≤ max_instances
  pub few_links : length links ≤ max_links
  -- nothing was sent, and no journal names a firing
  pub all_out : (i : ℕ) (cell : Cell X) → slice_get cells i ≡ Some cell → HasNothingOut cell
  -- before an input port to which no link leads no token waits
  pub unlinked : (i : ℕ) (cell : Cell X) → slice_get cells i ≡ Some cell
      → (p : ℕ) → p < cell.actor.ins → NoneLeads links i p → tokens_on cell.inboxes p ≡ []

abbrev pub capacity_of : Link → ℕ
capacity_of link = link.capacity
