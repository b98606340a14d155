use Rattle.std.proofs.Common.{◌≡◌, ◌++◌, map, length}
use Rattle.std.specs.Prelude.{vec_items}
use Rattle.std.specs.Arc.{arc_value}
use Rattle.net_cells.specs.Tables.{first_row}
use Rattle.net_cells.proofs.table.first_rows.Given as goal

abbrev pub invariant-codes : goal.invariant-codes
invariant-codes l = map vec_items l.table.items ++ map (first_row l.inward l.least) (map arc_value l.rest) ≡ map (first_row l.inward l.least) (map arc_value l.codes)

abbrev pub decreases-codes : goal.decreases-codes
decreases-codes l = length l.rest
