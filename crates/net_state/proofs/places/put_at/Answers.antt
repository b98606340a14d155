use Rattle.std.proofs.Common.{FitsSigned, rules}
use Rattle.std.proofs.lemmas.Int.{to_z-of_z}
use Rattle.rvc_base.specs.Width.{num_width}
use Rattle.net_state.proofs.Viewed.{accepted}
use Rattle.net_state.proofs.places.put_at.Goals as goal

pub returns : goal.returns
returns g c =
    let fits : FitsSigned num_width c.args.token = search rules in
    accepted g.A.Firing.cell c.args.cells.now c.args.inst.0 c.args.port c.args.token _ c.index-cells-inst.result c.accept.new.self c.requires.there
    (to_z-of_z num_width c.args.token fits) c.accept.ensures.accepts
