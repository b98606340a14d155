use Rattle.std.proofs.Common.{map, arith}
use Rattle.std.specs.Prelude.{vec_items}
use Rattle.net_state.proofs.Narrowing.{widened_row}
use Rattle.net_state.proofs.rooms.widen_all.Goals as goal

pub loop-i-preserved : goal.loop-i-preserved
loop-i-preserved c = widened_row vec_items c.loop-i.i (map vec_items c.args.table.now) c.loop-i.table c.index-table-i.result c.widen.new.row
    c.loop-i.invariant (omega (arith, c.loop-i.auto.table, c.loop-i-test.true)) c.widen.ensures
