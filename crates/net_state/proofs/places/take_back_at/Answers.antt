use Rattle.std.proofs.Common.{FitsSigned, rules, ◌∷◌, [], map, sym, subst}
use Rattle.std.specs.Prelude.{slice_set}
use Rattle.std.proofs.lemmas.Int.{to_z-of_z}
use Rattle.rvc_base.specs.Width.{num_width}
use Rattle.net_state.specs.Moving.{EachGains, only_to}
use Rattle.net_state.proofs.Viewed.{taken_back}
use Rattle.net_state.proofs.places.take_back_at.Goals as goal

pub returns : goal.returns
returns g c =
    let fits : FitsSigned num_width c.take_back.result = search rules in
    subst (λ v. EachGains (only_to c.args.inst.0 c.args.port (v ∷ [])) (map g.A.Firing.cell (slice_set c.args.cells.now c.args.inst.0 c.take_back.new.self)) (map g.A.Firing.cell c.args.cells.now))
    (sym (to_z-of_z num_width c.take_back.result fits))
    (taken_back g.A.Firing.cell c.args.cells.now c.args.inst.0 c.args.port c.take_back.result c.index-cells-inst.result c.take_back.new.self c.requires.there c.take_back.ensures.takes_back)
