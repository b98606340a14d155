use Rattle.std.proofs.Common.{◌≡◌, ◌++◌, ◌<◌, ◌+◌, ◌≤◌, false, arith, ap, sym, subst, refl, ◌∙◌, length, map, take, drop}
use Rattle.std.specs.Prelude.{slice_get, vec_items, Some}
use Rattle.std.specs.Option.{option_map}
use Rattle.std.proofs.lemmas.List.{length-map}
use Rattle.std.proofs.lemmas.Option.{slice_get_read, slice_get-map}
use Rattle.net_model.specs.Cell.{AreRooms}
use Rattle.net_model.specs.Ready.{OnCell}
use Rattle.net_state.specs.Held.{held_of, seen}
use Rattle.net_state.specs.Moving.{SameActors}
use Rattle.net_state.specs.Working.{BurstsAt, HasRoomRow, MayBurst, WorksAt}
use Rattle.net_state.proofs.Coming.{on_cell, place_of}
use Rattle.net_state.proofs.Slices.{written_back}
use Rattle.net_state.proofs.Bursting.{burst_rooms, burst_same, burst_working, burst_works, rooms_of_cell}
use Rattle.net_state.proofs.network.NetState.burst.Goals as goal

pub burst_at-requires-clause-rooms : goal.burst_at-requires-clause-rooms
burst_at-requires-clause-rooms g c =
    let old = map g.A.Firing.cell c.self.inside.cells.items in
    let may : MayBurst old c.args.inst.0 c.args.limit = subst (λ h. MayBurst (map g.A.Firing.cell h.cells) c.args.inst.0 c.args.limit) (sym c.self.view_is) c.requires.may in
    let on = on_cell (slice_get old c.args.inst.0) (λ cell. (cell.trapped ≡ false) × (length cell.journal + c.args.limit ≤ cell.journal_room)) may in
    let low : c.args.inst.0 < length c.self.inside.rooms.items =
    omega (arith, place_of old c.args.inst.0 (λ cell. (cell.trapped ≡ false) × (length cell.journal + c.args.limit ≤ cell.journal_room)) may, c.self.invariant.1.rows, length-map c.self.inside.rooms.items vec_items) in
    let row_at : slice_get (map vec_items c.self.inside.rooms.items) c.args.inst.0 ≡ Some c.deref.result.now =
    slice_get-map vec_items c.self.inside.rooms.items c.args.inst.0
    ∙ (ap (option_map vec_items) (slice_get_read c.self.inside.rooms.items (length c.self.inside.rooms.items) c.args.inst.0 c.index.result.now refl low c.index.ensures)
    ∙ ap Some (sym c.deref.ensures.value)) in
    subst (λ cs. HasRoomRow (map g.A.Firing.cell cs) c.args.inst.0 c.deref.result.now) (sym c.deref_mut.ensures.value)
    (subst (λ o. OnCell o (λ cell. AreRooms cell c.deref.result.now)) (sym on.1)
    (rooms_of_cell old c.self.inside.links.items c.self.inside.capacities.items c.self.inside.waited.items c.self.invariant.0 (map vec_items c.self.inside.rooms.items) c.self.invariant.1
    c.args.inst.0 c.deref.result.now row_at on.0 on.1))

pub invariant_of-self : goal.invariant_of-self
invariant_of-self g c =
    let old = map g.A.Firing.cell c.self.inside.cells.items in
    let new = map g.A.Firing.cell c.burst_at.new.cells in
    let may : MayBurst old c.args.inst.0 c.args.limit = subst (λ h. MayBurst (map g.A.Firing.cell h.cells) c.args.inst.0 c.args.limit) (sym c.self.view_is) c.requires.may in
    let low : c.args.inst.0 < length c.self.inside.rooms.items =
    omega (arith, place_of old c.args.inst.0 (λ cell. (cell.trapped ≡ false) × (length cell.journal + c.args.limit ≤ cell.journal_room)) may, c.self.invariant.1.rows, length-map c.self.inside.rooms.items vec_items) in
    let row_at : slice_get (map vec_items c.self.inside.rooms.items) c.args.inst.0 ≡ Some c.deref.result.now =
    slice_get-map vec_items c.self.inside.rooms.items c.args.inst.0
    ∙ (ap (option_map vec_items) (slice_get_read c.self.inside.rooms.items (length c.self.inside.rooms.items) c.args.inst.0 c.index.result.now refl low c.index.ensures)
    ∙ ap Some (sym c.deref.ensures.value)) in
    let cells : take c.self.inside.cells.len (c.burst_at.new.cells ++ drop (length c.burst_at.new.cells) c.self.inside.cells.items) ≡ c.burst_at.new.cells =
    written_back c.self.inside.cells.items c.burst_at.new.cells c.self.inside.cells.len (omega (arith, c.burst_at.auto.cells, c.deref_mut.ensures.len)) in
    let b : BurstsAt c.args.inst.0 c.args.limit c.deref.result.now old c.burst_at.result new =
    subst (λ cs. BurstsAt c.args.inst.0 c.args.limit c.deref.result.now (map g.A.Firing.cell cs) c.burst_at.result new) c.deref_mut.ensures.value c.burst_at.ensures in
    let free : b.before.trapped ≡ false = (subst (λ o. OnCell o (λ cell. (cell.trapped ≡ false) × (length cell.journal + c.args.limit ≤ cell.journal_room))) b.at may).0 in
    rw cells (
      burst_working old c.self.inside.links.items c.self.inside.capacities.items c.self.inside.waited.items c.self.invariant.0 (map vec_items c.self.inside.rooms.items) c.self.invariant.1
          c.args.inst.0 c.deref.result.now row_at c.args.limit c.burst_at.result new b free,
      burst_rooms old c.self.inside.links.items c.self.inside.capacities.items c.self.inside.waited.items c.self.invariant.0 (map vec_items c.self.inside.rooms.items) c.self.invariant.1
          c.args.inst.0 c.deref.result.now row_at c.args.limit c.burst_at.result new b free,
    )

pub returns : goal.returns
returns g c =
    let old = map g.A.Firing.cell c.self.inside.cells.items in
    let new = map g.A.Firing.cell c.burst_at.new.cells in
    let may : MayBurst old c.args.inst.0 c.args.limit = subst (λ h. MayBurst (map g.A.Firing.cell h.cells) c.args.inst.0 c.args.limit) (sym c.self.view_is) c.requires.may in
    let low : c.args.inst.0 < length c.self.inside.rooms.items =
    omega (arith, place_of old c.args.inst.0 (λ cell. (cell.trapped ≡ false) × (length cell.journal + c.args.limit ≤ cell.journal_room)) may, c.self.invariant.1.rows, length-map c.self.inside.rooms.items vec_items) in
    let row_at : slice_get (map vec_items c.self.inside.rooms.items) c.args.inst.0 ≡ Some c.deref.result.now =
    slice_get-map vec_items c.self.inside.rooms.items c.args.inst.0
    ∙ (ap (option_map vec_items) (slice_get_read c.self.inside.rooms.items (length c.self.inside.rooms.items) c.args.inst.0 c.index.result.now refl low c.index.ensures)
    ∙ ap Some (sym c.deref.ensures.value)) in
    let cells : take c.self.inside.cells.len (c.burst_at.new.cells ++ drop (length c.burst_at.new.cells) c.self.inside.cells.items) ≡ c.burst_at.new.cells =
    written_back c.self.inside.cells.items c.burst_at.new.cells c.self.inside.cells.len (omega (arith, c.burst_at.auto.cells, c.deref_mut.ensures.len)) in
    let b : BurstsAt c.args.inst.0 c.args.limit c.deref.result.now old c.burst_at.result new =
    subst (λ cs. BurstsAt c.args.inst.0 c.args.limit c.deref.result.now (map g.A.Firing.cell cs) c.burst_at.result new) c.deref_mut.ensures.value c.burst_at.ensures in
    let free : b.before.trapped ≡ false = (subst (λ o. OnCell o (λ cell. (cell.trapped ≡ false) × (length cell.journal + c.args.limit ≤ cell.journal_room))) b.at may).0 in
    rw cells (record {
      works = subst (λ h. WorksAt c.args.inst.0 c.args.limit c.burst_at.result (seen g.A.Firing.cell h) (held_of new c.self.inside.links.items c.self.inside.capacities.items c.self.inside.waited.items)) c.self.view_is
          (burst_works old c.self.inside.links.items c.self.inside.capacities.items c.self.inside.waited.items c.self.invariant.0 (map vec_items c.self.inside.rooms.items) c.self.invariant.1
          c.args.inst.0 c.deref.result.now row_at c.args.limit c.burst_at.result new b free);
      same_actors = subst (λ h. SameActors (map g.A.Firing.cell h.cells) new) c.self.view_is
          (burst_same old c.self.inside.links.items c.self.inside.capacities.items c.self.inside.waited.items c.self.invariant.0 (map vec_items c.self.inside.rooms.items) c.self.invariant.1
          c.args.inst.0 c.deref.result.now row_at c.args.limit c.burst_at.result new b free);
      links = ap (λ h. h.links) c.self.view_is;
      capacities = ap (λ h. h.capacities) c.self.view_is;
      waited = ap (λ h. h.waited) c.self.view_is;
    })
