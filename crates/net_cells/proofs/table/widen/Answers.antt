use Rattle.std.proofs.Common.{◌≡◌, map, subst, sym}
use Rattle.std.specs.Prelude.{slice_set, vec_items}
use Rattle.net_cells.specs.Tables.{widened}
use Rattle.net_cells.proofs.Filling.{widened_inside}
use Rattle.net_cells.proofs.table.widen.Goals as goal

pub returns-then-i-table : goal.returns-then-i-table
returns-then-i-table c =
    subst (λ end. map vec_items (slice_set c.args.table.now c.in-Leaf.inst.0 c.widen_row.new.row) ≡ widened end c.args.room (map vec_items c.args.table.now)) (sym c.in-Leaf.is)
    (widened_inside vec_items c.args.table.now c.in-Leaf.inst.0 c.in-Leaf.port c.args.room c.index-table-i.result c.widen_row.new.row c.if-i-table.true c.widen_row.ensures)
