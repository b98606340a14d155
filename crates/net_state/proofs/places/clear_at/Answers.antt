use Rattle.net_state.proofs.Viewed.{cleared_at}
use Rattle.net_state.proofs.places.clear_at.Goals as goal

pub returns : goal.returns
returns g c = cleared_at g.A.Firing.cell c.args.cells.now c.args.i c.index-cells-i.result c.clear.new.self c.requires c.clear.ensures.clears
