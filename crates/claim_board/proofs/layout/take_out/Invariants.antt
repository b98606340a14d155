use Rattle.std.proofs.Common.{◌≡◌, ℕ, ◌<◌, ◌≤◌, true, false, take, vec_capacity, get_or}
use Rattle.std.specs.Mem.Slots.{slots_items, slots_filled, slots_len}
use Rattle.claim_board.specs.Layout.{pieces_of}
use Rattle.claim_board.proofs.layout.take_out.Given as goal

-- the slots of the places from this one on are full, and the others are empty
abbrev pub invariant-loop-place : goal.invariant-loop-place
invariant-loop-place g l =
    (slots_items l.closed.slots ≡ slots_items l.initial.closed.slots)
    × (slots_len l.closed.slots ≡ slots_len l.initial.closed.slots)
    × ((k : ℕ) → l.place ≤ k → k < l.places → get_or (slots_filled l.closed.slots) k false ≡ true)
    × ((k : ℕ) → k < l.place → get_or (slots_filled l.closed.slots) k false ≡ false)
    × (get_or (slots_filled l.closed.slots) l.places false ≡ false)
    × (l.pieces.items ≡ take l.place (pieces_of (slots_items l.initial.closed.slots)))
    × (l.places ≤ vec_capacity l.pieces)
