use Rattle.std.specs.Prelude.{map, vec_items}
use Rattle.std.specs.Arc.{arc_value}
use Rattle.actor_cell.specs.Core.{seen}
use Rattle.net_cells.specs.Tables.{AreCellsBy}
use Rattle.net_cells.proofs.making.cells_by.Given as goal

abbrev pub invariant-loop-i : goal.invariant-loop-i
invariant-loop-i l = AreCellsBy l.i (map arc_value l.codes) (map vec_items l.ins) (map vec_items l.outs) l.burst (map seen l.cells.items)
