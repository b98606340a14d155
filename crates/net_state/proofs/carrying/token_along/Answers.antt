use Rattle.std.proofs.Common.{FitsSigned, rules, map, ap, ◌∙◌}
use Rattle.std.proofs.lemmas.Int.{to_z-of_z}
use Rattle.rvc_base.specs.Storing.{conv}
use Rattle.rvc_base.specs.Width.{num_width}
use Rattle.net_state.proofs.Reading.{token_of}
use Rattle.net_state.proofs.carrying.token_along.Goals as goal

pub returns : goal.returns
returns g c =
    let stored : FitsSigned num_width c.conv.result = search rules in
    let fits : FitsSigned num_width c.sent_token.result = search rules in
    token_of (map g.A.Firing.cell c.args.cells.now) c.args.link.now c.in-Leaf.inst.0 c.in-Leaf.port c.args.k c.sent_token.result _ c.in-Leaf.is c.sent_token.ensures
    (to_z-of_z num_width c.conv.result stored ∙ c.conv.ensures ∙ ap (conv c.args.link.now.kind) (to_z-of_z num_width c.sent_token.result fits))
