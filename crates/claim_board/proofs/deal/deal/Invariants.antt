use Rattle.std.proofs.Common.{◌≡◌, ◌+◌, [], length, vec_capacity}
use Rattle.std.specs.List.{All}
use Rattle.claim_board.specs.Steps.{first_view}
use Rattle.claim_board.specs.Seen.{new_pass, board_at}
use Rattle.claim_board.proofs.deal.deal.Given as goal

abbrev pub invariant-loop : goal.invariant-loop
invariant-loop g l =
    (l.seat.table_id ≡ l.shared.table_id)
    × (l.seat.me.1 ≡ [])
    × (l.seat.me.0 ≡ first_view l.shared.key.put.value.items l.seat.me.0.passes)
    × (l.seat.me.0.passes + l.counter ≡ l.passes + 1)
    × (length l.list.items + 1 ≡ l.counter)
    × (vec_capacity l.list ≡ vec_capacity l.initial.list)
    × All (λ pass. pass ≡ new_pass (board_at l.shared.table_id l.shared.key.put.value.items l.passes)) l.list.items
