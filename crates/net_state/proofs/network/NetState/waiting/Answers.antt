use Rattle.std.proofs.Common.{◌≡◌, ◌<◌, ◌≤◌, map, length, arith, ap, sym, subst, refl, ◌∙◌}
use Rattle.std.specs.Prelude.{slice_get, slice_index_or, Some}
use Rattle.std.proofs.lemmas.Option.{slice_get_read}
use Rattle.net_model.specs.Ready.{waiting_at}
use Rattle.net_state.specs.Held.{IsReader, seen}
use Rattle.net_state.specs.TakingBack.{waits_at, waits_on}
use Rattle.net_state.proofs.network.NetState.waiting.Goals as goal

pub waiting_before-requires : goal.waiting_before-requires
waiting_before-requires g c =
    let links_are : c.self.inside.links.items ≡ c.args.self.now.links = ap (λ h. h.links) c.self.view_is in
    let low : c.args.link.0 < length c.self.inside.links.items = subst (λ ls. c.args.link.0 < length ls) (sym links_are) c.requires.there in
    let at : slice_get c.self.inside.links.items c.args.link.0 ≡ Some c.index.result.now =
    slice_get_read c.self.inside.links.items (length c.self.inside.links.items) c.args.link.0 c.index.result.now refl low c.index.ensures in
    subst (λ cs. IsReader (map g.A.Firing.cell cs) c.index.result.now.to) (sym c.deref.ensures.value) (c.self.invariant.0.fits c.args.link.0 c.index.result.now at).reader

pub returns : goal.returns
returns g c =
    let links_are : c.self.inside.links.items ≡ c.args.self.now.links = ap (λ h. h.links) c.self.view_is in
    let low : c.args.link.0 < length c.self.inside.links.items = subst (λ ls. c.args.link.0 < length ls) (sym links_are) c.requires.there in
    let at : slice_get c.self.inside.links.items c.args.link.0 ≡ Some c.index.result.now =
    slice_get_read c.self.inside.links.items (length c.self.inside.links.items) c.args.link.0 c.index.result.now refl low c.index.ensures in
    let here : c.waiting_before.result ≡ length (waiting_at (map g.A.Firing.cell c.self.inside.cells.items) c.index.result.now.to) =
    c.waiting_before.ensures ∙ ap (λ cs. length (waiting_at (map g.A.Firing.cell cs) c.index.result.now.to)) c.deref.ensures.value in
    let most : length (waiting_at (map g.A.Firing.cell c.self.inside.cells.items) c.index.result.now.to) ≤ slice_index_or c.self.inside.capacities.items c.args.link.0 0 =
    (c.self.invariant.0.fits c.args.link.0 c.index.result.now at).waiting in
    let count : c.waiting_before.result ≡ waits_at (map g.A.Firing.cell c.self.inside.cells.items) (slice_get c.self.inside.links.items c.args.link.0) =
    here ∙ sym (ap (waits_at (map g.A.Firing.cell c.self.inside.cells.items)) at) in
    let within : c.waiting_before.result ≤ slice_index_or c.self.inside.capacities.items c.args.link.0 0 = omega (arith, here, most) in
    record {
      count = subst (λ h. c.waiting_before.result ≡ waits_on (seen g.A.Firing.cell h) c.args.link.0) c.self.view_is count;
      within = subst (λ h. c.waiting_before.result ≤ slice_index_or h.capacities c.args.link.0 0) c.self.view_is within;
    }
