-- The slots of a table with these pieces.
-- Not trusted: no promise is read with it.
use Rattle.std.specs.Prelude.{◌≡◌, List, [], ◌∷◌, ◌++◌, map, length}
use Rattle.claim_board.specs.declared.slot.Slot.{Slot}
use Rattle.claim_board.specs.declared.slot.Slot.TheVariants.{Empty, Holds, Room}
use Rattle.claim_board.specs.Rule.{IsRoom}

module _ {P : Type 0} where
  abbrev pub holding : List P → List (Slot P)
  holding pieces = map (λ (p : P). Holds p) pieces

  -- a slot for each piece, by place, and one with room for as many
  abbrev pub IsLaidOut : List P → List (Slot P) → Type 0
  IsLaidOut pieces slots = (room : Slot P) × (slots ≡ holding pieces ++ room ∷ [])
      × IsRoom (length pieces) room

  -- the pieces in the slots
  abbrev pub pieces_of : List (Slot P) → List P
  pieces_of [] = []
  pieces_of (Holds piece ∷ slots) = piece ∷ pieces_of slots
  pieces_of (Empty ∷ slots) = pieces_of slots
  pieces_of (Room list ∷ slots) = pieces_of slots
