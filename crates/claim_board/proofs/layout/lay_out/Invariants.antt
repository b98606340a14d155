use Rattle.std.proofs.Common.{◌≡◌, ◌+◌, ◌++◌, vec_len, vec_capacity, reverse}
use Rattle.claim_board.specs.Layout.{holding}
use Rattle.claim_board.proofs.layout.lay_out.Given as goal

abbrev pub invariant-loop-piece : goal.invariant-loop-piece
invariant-loop-piece g l =
    (holding l.pieces.items ++ reverse l.slots.items ≡ holding l.initial.pieces.items)
    × (vec_capacity l.pieces ≡ vec_capacity l.initial.pieces)
    × (vec_capacity l.slots ≡ vec_capacity l.initial.slots)
    × (vec_len l.slots + vec_len l.pieces ≡ vec_len l.initial.pieces)

abbrev pub decreases-loop-piece : goal.decreases-loop-piece
decreases-loop-piece g l = vec_len l.pieces
