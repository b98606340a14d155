use Rattle.std.proofs.Common.{◌≡◌, ◌+◌, ◌≤◌, ◌++◌, length, vec_capacity, vec_len}
use Rattle.net_model.specs.Paced.{count_picked}
use Rattle.net_state.specs.Claiming.{back, merged}
use Rattle.net_state.proofs.claiming.put_back.Given as goal

abbrev pub invariant-loop-marked : goal.invariant-loop-marked
invariant-loop-marked g l =
    (l.cells.items ++ merged l.left (back l.tasks.items) (back l.rest.items) ≡ merged l.marks (back l.fn.tasks.items) (back l.fn.rest.items))
    × (length l.tasks.items ≡ count_picked l.left)
    × (length l.rest.items + count_picked l.left ≡ length l.left)
    × (length l.left + vec_len l.cells ≤ vec_capacity l.cells)

abbrev pub decreases-loop-marked : goal.decreases-loop-marked
decreases-loop-marked g l = length l.left
