-- A cell that is to make a burst, as a piece of work.
-- Trusted: part of what a promise means.
use Rattle.std.specs.Prelude.{◌≡◌, ℕ, ◌+◌, ◌≤◌, false, List, length, slice_get, Option, Some}
use Rattle.rvc_base.specs.Lawful.{IsLawful}
use Rattle.rvc_base.specs.declared.ids.InstId.{InstId}
use Rattle.net_model.specs.declared.firing.BurstEnd.{BurstEnd}
use Rattle.net_model.specs.Cell.{AreRooms, Bursts, Cell, FitsQueues}

-- the cell and its number, how often it may fire, the rooms of its output ports, and how the burst ended once it was made
pub record Task (C : Type 0) : Type 0 where
  pub cell : C
  pub inst : InstId
  pub limit : ℕ
  pub rooms : List ℕ
  pub end : Option BurstEnd

-- a burst of at most so many firings may be made
pub record MayBurst {X : Type 0} (cell : Cell X) (limit : ℕ) (rooms : List ℕ) : Type 0 where
  pub untrapped : cell.trapped ≡ false
  pub fits : AreRooms cell rooms
  pub journal : length cell.journal + limit ≤ cell.journal_room

-- the burst was made, and how it ended is noted
pub record MakesBurst {C X : Type 0} (cell : C → Cell X) (old new : Task C) : Type 0 where
  pub how : BurstEnd
  pub ended : new.end ≡ Some how
  pub lawful : IsLawful (cell old.cell).actor
  pub queues : FitsQueues (cell old.cell)
  pub bursts : Bursts old.rooms old.limit (cell old.cell) how (cell new.cell)
  pub inst : new.inst ≡ old.inst
  pub limit : new.limit ≡ old.limit
  pub rooms : new.rooms ≡ old.rooms

-- each of these tasks, by its place, is what one of the old ones became by its burst
pub record EachMakesBurst {C X : Type 0} (cell : C → Cell X) (old new : List (Task C)) : Type 0 where
  pub places : length new ≡ length old
  pub each : (place : ℕ) (after : Task C) → slice_get new place ≡ Some after
      → (before : Task C) × (slice_get old place ≡ Some before) × MakesBurst cell before after
