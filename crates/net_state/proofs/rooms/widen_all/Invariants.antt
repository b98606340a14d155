use Rattle.std.specs.Prelude.{map, vec_items}
use Rattle.net_state.proofs.Narrowing.{IsWidening}
use Rattle.net_state.proofs.rooms.widen_all.Given as goal

abbrev pub invariant-loop-i : goal.invariant-loop-i
invariant-loop-i l = IsWidening l.i (map vec_items l.initial.table) (map vec_items l.table)
