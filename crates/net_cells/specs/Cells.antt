-- The cells of a network of lowered actors, before their first firings.
-- Trusted: part of what a promise means.
use Rattle.std.specs.Prelude.{◌≡◌, ℕ, List, length, slice_get, Some}
use Rattle.lowered_actor.specs.Actor.{Actor}
use Rattle.lowered_actor.specs.Meaning.{ActorState}
use Rattle.net_model.specs.declared.wiring.Link.{Link}
use Rattle.net_model.specs.Cell.{Cell}
use Rattle.actor_cell.specs.Core.{IsAtStart}
use Rattle.net_cells.specs.Rooms.{in_rooms, out_rooms}

-- There is a cell of each lowered actor, in its first state and with nothing in it. Its queues are made for the links at
-- its ports, and its journal for so many firings.
pub record AreCellsOf (codes : List Actor) (links : List Link) (burst grow : ℕ)
    (cells : List (Cell ActorState)) : Type 0 where
  pub one_each : length cells ≡ length codes
  pub starts : (i : ℕ) (code : Actor) (cell : Cell ActorState) → slice_get codes i ≡ Some code
      → slice_get cells i ≡ Some cell
      → IsAtStart code (in_rooms code links grow i) (out_rooms code links grow i) burst cell
