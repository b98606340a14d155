-- Pieces of work on a board: as they were put, and worked.
-- Trusted: part of what a promise means.
use Rattle.std.specs.Prelude.{◌≡◌, ℕ, List, Bool, true, false, Some, slice_get, map}

module _ {P X : Type 0} (state : P → X) where
  -- the states of the pieces as they were put, by place
  abbrev pub starts : List P → List X
  starts put = map state put

  module _ (marked : P → Bool) where
    -- the piece's state is the start at this place, and its mark isn't set
    abbrev pub IsAsPut : List P → ℕ → P → Type 0
    IsAsPut put place piece = (marked piece ≡ false)
        × (slice_get (starts put) place ≡ Some (state piece))

    -- its mark is set, and its state is what work gives from the start at this place
    abbrev pub IsWorked : (X → X → Type 0) → List P → ℕ → P → Type 0
    IsWorked gives put place piece = (marked piece ≡ true)
        × ((start : X) × (slice_get (starts put) place ≡ Some start) × gives start (state piece))
