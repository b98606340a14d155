-- The cells of a network, before their first firings.
-- Not trusted: no promise is read with it.
use Rattle.std.specs.Prelude.{◌≡◌, ℕ, true, false, List, length, slice_get, Some}
use Rattle.lowered_actor.specs.Actor.{Actor}
use Rattle.lowered_actor.specs.Meaning.{ActorState}
use Rattle.net_model.specs.declared.wiring.Link.{Link}
use Rattle.net_model.specs.Cell.{Cell}
use Rattle.round_runner.specs.declared.outcome.Plan.{Plan}
use Rattle.actor_cell.specs.Core.{Core, IsAtStart, seen}
use Rattle.kit_runs.specs.Rooms.{AreRoomsOf}

-- a cell of this actor before its first firing, whose queues are made for the links at its ports
pub record IsCellOf (actor : Actor) (links : List Link) (plan : Plan) (i : ℕ) (cell : Cell ActorState) :
    Type 0 where
  pub ins : List ℕ
  pub outs : List ℕ
  pub in_rooms : AreRoomsOf true plan.grow i 1 links actor.ins ins
  pub out_rooms : AreRoomsOf false plan.grow i 0 links actor.outs outs
  pub start : IsAtStart actor ins outs plan.burst cell

-- the first n of these actors have cells
pub record AreCellsOf (n : ℕ) (actors : List Actor) (links : List Link) (plan : Plan) (cells : List Core) : Type 0 where
  pub count : length cells ≡ n
  pub each : (i : ℕ) (actor : Actor) (cell : Core) → slice_get actors i ≡ Some actor
      → slice_get cells i ≡ Some cell → IsCellOf actor links plan i (seen cell)
