use Rattle.std.proofs.Common.{◌≡◌, map, length, arith}
use Rattle.std.specs.Prelude.{vec_items}
use Rattle.std.specs.Arc.{arc_value}
use Rattle.net_cells.specs.Tables.{first_row}
use Rattle.net_cells.proofs.Filling.{lent_whole, rooms_are}
use Rattle.net_cells.proofs.table.rooms_of.Goals as goal

pub returns : goal.returns
returns c =
    let long : length c.fill.new.table ≡ c.in_ok-table.table.len = omega (arith, c.fill.auto.table, c.deref_mut.ensures.len) in
    rooms_are c.args.inward c.args.grow c.args.least (map arc_value c.args.codes.now) c.args.links.now _
    (lent_whole vec_items c.in_ok-table.table.items c.deref_mut.result.now c.fill.new.table c.in_ok-table.table.len c.args.inward c.args.grow c.args.links.now
    (map (first_row c.args.inward c.args.least) (map arc_value c.args.codes.now)) c.deref_mut.ensures.value long c.in_ok-table.ensures c.fill.ensures)
