use Rattle.std.proofs.Common.{◌≡◌, ◌+◌, ◌≤◌, map, vec_capacity, vec_items, vec_len}
use Rattle.net_state.specs.Sharing.{share_of}
use Rattle.net_state.proofs.Taking.{IsOut}
use Rattle.net_state.proofs.claiming.take_out.Given as goal

abbrev pub invariant-loop-cell : goal.invariant-loop-cell
invariant-loop-cell g l =
    IsOut (share_of l.shares) l.marks (map vec_items l.rooms) l.fn.cells.items l.cells.items l.tasks.items l.rest.items l.k
    × (vec_len l.tasks + l.k ≤ vec_capacity l.tasks)
    × (vec_len l.rest + vec_len l.cells ≤ vec_capacity l.rest)
    × (vec_capacity l.cells ≡ vec_capacity l.fn.cells)

abbrev pub decreases-loop-cell : goal.decreases-loop-cell
decreases-loop-cell g l = goal.left-loop-cell g l
