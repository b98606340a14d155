use Rattle.std.proofs.Common.{◌≡◌, ◌<◌, ◌++◌, List, vec_len, None}
use Rattle.std.specs.List.{All}
use Rattle.claim_board.specs.Seen.{PassSeen, Gathered}
use Rattle.claim_board.proofs.deal.gather.Given as goal

abbrev pub invariant-loop-pass : goal.invariant-loop-pass
invariant-loop-pass g l =
    (l.seat.table_id ≡ l.shared.table_id)
    × All (λ (pass : PassSeen g.row.P.Denot). (pass.id ≡ l.shared.table_id) × (pass.put ≡ l.shared.key.put.value.items)) l.passes.items
    × All (λ (pass : PassSeen g.row.P.Denot). pass.held ≡ None) l.passes.items
    × (0 < l.seat.me.0.passes)
    × ((done : List (PassSeen g.row.P.Denot)) × (l.initial.passes.items ≡ l.passes.items ++ done)
    × ((before : List (PassSeen g.row.P.Denot)) → Gathered l.shared.key.put.value.items before l.initial.seat.me → Gathered l.shared.key.put.value.items (done ++ before) l.seat.me))

abbrev pub decreases-loop-pass : goal.decreases-loop-pass
decreases-loop-pass g l = vec_len l.passes
