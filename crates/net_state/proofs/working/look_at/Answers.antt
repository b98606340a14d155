use Rattle.net_state.proofs.Viewed.{looked_at}
use Rattle.net_state.proofs.working.look_at.Goals as goal

pub returns : goal.returns
returns g c =
    looked_at g.A.Firing.cell c.args.cells.now c.args.i c.args.rooms.now c.index-cells-i.result c.index-cells-i-2.result c.look.new.self c.look.result
    c.requires.there c.outs.ensures.lawful c.outs.ensures.fits c.look.ensures.looks c.look.ensures.same
