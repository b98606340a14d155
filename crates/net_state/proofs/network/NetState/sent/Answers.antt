use Rattle.std.proofs.Common.{◌≡◌, map, length, ap, sym, subst, refl, ◌∙◌}
use Rattle.std.specs.Prelude.{slice_get, Some}
use Rattle.std.proofs.lemmas.Option.{slice_get_read}
use Rattle.net_state.specs.Held.{seen}
use Rattle.net_state.specs.Moving.{IsFromCell, IsWriter, carried, carried_on}
use Rattle.net_state.proofs.Reading.{carried_at, place_of_link, true_of_unarrived_on}
use Rattle.net_state.proofs.network.NetState.sent.Goals as goal

pub sent_along-requires : goal.sent_along-requires
sent_along-requires g c =
    let links_are : c.self.inside.links.items ≡ c.args.self.now.links = ap (λ h. h.links) c.self.view_is in
    let from : IsFromCell (slice_get c.self.inside.links.items c.args.link.0) = subst (λ ls. IsFromCell (slice_get ls c.args.link.0)) (sym links_are) c.requires.from_cell in
    let at : slice_get c.self.inside.links.items c.args.link.0 ≡ Some c.index.result.now =
    slice_get_read c.self.inside.links.items (length c.self.inside.links.items) c.args.link.0 c.index.result.now refl (place_of_link c.self.inside.links.items c.args.link.0 from) c.index.ensures in
    record {
      writer = subst (λ cs. IsWriter (map g.A.Firing.cell cs) c.index.result.now.from) (sym c.deref.ensures.value) (c.self.invariant.0.fits c.args.link.0 c.index.result.now at).writer;
    }

pub returns : goal.returns
returns g c =
    let links_are : c.self.inside.links.items ≡ c.args.self.now.links = ap (λ h. h.links) c.self.view_is in
    let cells_are : c.self.inside.cells.items ≡ c.args.self.now.cells = ap (λ h. h.cells) c.self.view_is in
    let from : IsFromCell (slice_get c.self.inside.links.items c.args.link.0) = subst (λ ls. IsFromCell (slice_get ls c.args.link.0)) (sym links_are) c.requires.from_cell in
    let at : slice_get c.self.inside.links.items c.args.link.0 ≡ Some c.index.result.now =
    slice_get_read c.self.inside.links.items (length c.self.inside.links.items) c.args.link.0 c.index.result.now refl (place_of_link c.self.inside.links.items c.args.link.0 from) c.index.ensures in
    let is : carried (map g.A.Firing.cell c.deref.result.now) c.index.result.now ≡ carried_on (map g.A.Firing.cell c.args.self.now.cells) (slice_get c.args.self.now.links c.args.link.0) =
    ap (λ cs. carried (map g.A.Firing.cell cs) c.index.result.now) (c.deref.ensures.value ∙ cells_are)
    ∙ sym (carried_at (map g.A.Firing.cell c.args.self.now.cells) c.args.self.now.links c.args.link.0 c.index.result.now (sym (ap (λ ls. slice_get ls c.args.link.0) links_are) ∙ at)) in
    let count : c.sent_along.result ≡ length (carried_on (map g.A.Firing.cell c.args.self.now.cells) (slice_get c.args.self.now.links c.args.link.0)) =
    c.sent_along.ensures ∙ ap (λ ts. length ts) is in
    record {
      count = count;
      states = true_of_unarrived_on (seen g.A.Firing.cell c.args.self.now) c.args.link.0
          (λ tokens. c.sent_along.result ≡ length tokens) c.requires.from_cell count;
    }
