-- Tables of rooms: a row for each leaf, and in it a number for each of its ports of one direction.
-- Not trusted: no promise is read with it.
use Rattle.std.specs.Prelude.{◌≡◌, ℕ, ◌<◌, ◌≤◌, max, All, Bool, true, false, List, [], ◌∷◌, length, replicate, slice_get, slice_set, slice_index_or, Some}
use Rattle.lowered_actor.specs.Actor.{Actor}
use Rattle.lowered_actor.specs.Meaning.{ActorState}
use Rattle.net_model.specs.declared.wiring.End.{End}
use Rattle.net_model.specs.declared.wiring.End.TheVariants.{Leaf as AtLeaf, Net as AtNet}
use Rattle.net_model.specs.declared.wiring.Link.{Link}
use Rattle.net_model.specs.Cell.{Cell}
use Rattle.actor_cell.specs.Core.{IsAtStart}
use Rattle.net_cells.specs.Rooms.{asked_at, end_at, queue_of}

-- how many ports a lowered actor has: inputs, or outputs
abbrev pub ports_of : Bool → Actor → ℕ
ports_of true code = code.ins
ports_of false code = code.outs

abbrev pub row_at : List (List ℕ) → ℕ → List ℕ
row_at table i = slice_index_or table i []

abbrev pub room_at : List (List ℕ) → ℕ → ℕ → ℕ
room_at table i p = slice_index_or (row_at table i) p 0

-- as many places as the lowered actor has ports, each with this room
abbrev pub first_row : Bool → ℕ → Actor → List ℕ
first_row inward least code = replicate (ports_of inward code) least

-- a place of a row, or of a table, holds so much at least; if there is none, nothing changes
abbrev pub widened_row : ℕ → ℕ → List ℕ → List ℕ
widened_row p room row = slice_set row p (max (slice_index_or row p 0) room)

abbrev pub widened : End → ℕ → List (List ℕ) → List (List ℕ)
widened (AtLeaf inst port) room table =
    slice_set table inst.0 (widened_row port room (row_at table inst.0))
widened (AtNet port) room table = table

-- .. for each link
abbrev pub filled : Bool → ℕ → List Link → List (List ℕ) → List (List ℕ)
filled inward grow [] table = table
filled inward grow (link ∷ links) table =
    filled inward grow links (widened (end_at inward link) (queue_of grow link) table)

-- a row for each lowered actor, and in it a place for each of its ports
pub record HasRowsOf (inward : Bool) (codes : List Actor) (table : List (List ℕ)) : Type 0 where
  pub rows : length table ≡ length codes
  pub ports : (i : ℕ) (code : Actor) → slice_get codes i ≡ Some code
      → length (row_at table i) ≡ ports_of inward code

-- The room of each port is the most that is asked for there, and `least` at least.
pub record AreRoomsOf (inward : Bool) (grow least : ℕ) (codes : List Actor) (links : List Link)
    (table : List (List ℕ)) : Type 0 where
  pub shape : HasRowsOf inward codes table
  pub rooms : (i p : ℕ) (code : Actor) → slice_get codes i ≡ Some code → p < ports_of inward code
      → room_at table i p ≡ max least (asked_at inward grow i p links)

-- a cell of the lowered actor at a place, whose queues have the rooms of its rows
abbrev pub IsCellBy : List Actor → List (List ℕ) → List (List ℕ) → ℕ → ℕ → Cell ActorState → Type 0
IsCellBy codes ins outs burst i cell = (code : Actor) → slice_get codes i ≡ Some code
    → IsAtStart code (row_at ins i) (row_at outs i) burst cell

-- one for each of the first n
pub record AreCellsBy (n : ℕ) (codes : List Actor) (ins outs : List (List ℕ)) (burst : ℕ)
    (cells : List (Cell ActorState)) : Type 0 where
  pub count : length cells ≡ n
  pub each : (i : ℕ) (cell : Cell ActorState) → slice_get cells i ≡ Some cell
      → IsCellBy codes ins outs burst i cell

-- each row has room for one at each port
abbrev pub AreRoomy : List (List ℕ) → Type 0
AreRoomy table = (i : ℕ) → All (λ room. 1 ≤ room) (row_at table i)
