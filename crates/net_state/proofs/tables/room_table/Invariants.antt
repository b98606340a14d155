use Rattle.std.specs.Prelude.{map, vec_items}
use Rattle.net_state.proofs.Starting.{IsTabling}
use Rattle.net_state.proofs.tables.room_table.Given as goal

abbrev pub invariant-loop-i : goal.invariant-loop-i
invariant-loop-i g l = IsTabling l.i (map g.A.Firing.cell l.cells) (map vec_items l.table.items)
