use Rattle.net_state.proofs.Viewed.{bursts_at}
use Rattle.net_state.proofs.working.burst_at.Goals as goal

pub returns : goal.returns
returns g c =
    bursts_at g.A.Firing.cell c.args.cells.now c.args.i c.args.limit c.args.rooms.now c.index-cells-i.result c.index-cells-i-2.result c.burst.new.self c.burst.result
    c.requires.there c.outs.ensures.lawful c.outs.ensures.fits c.burst.ensures.bursts
