use Rattle.net_state.proofs.Viewed.{tried_at}
use Rattle.net_state.proofs.working.try_at.Goals as goal

pub returns : goal.returns
returns g c =
    tried_at g.A.Firing.cell c.args.cells.now c.args.i c.args.rooms.now c.args.action.0 c.index-cells-i.result c.index-cells-i-2.result c.try_fire.new.self c.try_fire.result
    c.requires.there c.outs.ensures.lawful c.outs.ensures.fits c.try_fire.ensures.tries
