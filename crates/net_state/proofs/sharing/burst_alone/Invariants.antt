use Rattle.std.specs.Prelude.{map, vec_items}
use Rattle.net_state.specs.Sharing.{share_of}
use Rattle.net_state.proofs.Alone.{IsAlone}
use Rattle.net_state.proofs.sharing.burst_alone.Given as goal

abbrev pub invariant-loop-i : goal.invariant-loop-i
invariant-loop-i g l =
    IsAlone (share_of l.shares) l.part.cell l.part.before l.marks (map vec_items l.rooms) (map g.A.Firing.cell l.initial.cells) l.i l.k l.made (map g.A.Firing.cell l.cells)
