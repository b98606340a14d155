use Rattle.std.proofs.Common.{map, arith}
use Rattle.std.proofs.lemmas.List.{length-map}
use Rattle.net_state.proofs.Clearing.{clearing_starts, clearing_more, all_cleared}
use Rattle.net_state.proofs.places.clear_all.Goals as goal

pub loop-i-init : goal.loop-i-init
loop-i-init g c = clearing_starts (map g.A.Firing.cell c.args.cells.now)

pub loop-i-preserved : goal.loop-i-preserved
loop-i-preserved g c = clearing_more c.loop-i.i (map g.A.Firing.cell c.args.cells.now) (map g.A.Firing.cell c.loop-i.cells) (map g.A.Firing.cell c.clear_at.new.cells) c.loop-i.invariant c.clear_at.ensures

pub returns : goal.returns
returns g c = all_cleared c.loop-i.i (map g.A.Firing.cell c.args.cells.now) (map g.A.Firing.cell c.loop-i.cells) c.loop-i.invariant
    (omega (arith, length-map c.args.cells.now g.A.Firing.cell, c.loop-i-test.false))
