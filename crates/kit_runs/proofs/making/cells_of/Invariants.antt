use Rattle.std.specs.Prelude.{map}
use Rattle.std.specs.Arc.{arc_value}
use Rattle.kit_runs.specs.Cells.{AreCellsOf}
use Rattle.kit_runs.proofs.making.cells_of.Given as goal

abbrev pub invariant-loop-i : goal.invariant-loop-i
invariant-loop-i l = AreCellsOf l.i (map arc_value l.actors) l.links l.plan l.cells.items
