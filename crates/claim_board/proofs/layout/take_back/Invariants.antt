use Rattle.std.proofs.Common.{◌+◌, ◌≤◌, vec_len, vec_capacity, reverse}
use Rattle.claim_board.specs.Layout.{pieces_of}
use Rattle.claim_board.proofs.Slots.{IsPouring}
use Rattle.claim_board.proofs.layout.take_back.Given as goal

abbrev pub invariant-loop-slot : goal.invariant-loop-slot
invariant-loop-slot g l =
    IsPouring l.slots.items l.pieces.items (pieces_of (reverse l.initial.slots.items))
    × (vec_len l.pieces + vec_len l.slots ≤ vec_capacity l.pieces)

abbrev pub decreases-loop-slot : goal.decreases-loop-slot
decreases-loop-slot g l = vec_len l.slots
