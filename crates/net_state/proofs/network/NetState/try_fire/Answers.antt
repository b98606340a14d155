use Rattle.std.proofs.Common.{◌≡◌, ◌++◌, ◌<◌, false, arith, ap, sym, subst, refl, ◌∙◌, length, map, take, drop}
use Rattle.std.specs.Prelude.{slice_get, vec_items, Some}
use Rattle.std.specs.Option.{option_map}
use Rattle.std.proofs.lemmas.List.{length-map}
use Rattle.std.proofs.lemmas.Option.{slice_get_read, slice_get-map}
use Rattle.net_model.specs.Cell.{AreRooms}
use Rattle.net_model.specs.Ready.{OnCell}
use Rattle.net_state.specs.Held.{held_of, seen}
use Rattle.net_state.specs.Moving.{SameActors}
use Rattle.net_state.specs.TakingBack.{NoMoreWait}
use Rattle.net_state.specs.Working.{TriedAt, HasRoomRow, MayWork, TriesAt}
use Rattle.net_state.proofs.Coming.{on_cell, place_of}
use Rattle.net_state.proofs.Slices.{written_back}
use Rattle.net_state.proofs.Bursting.{tried_fewer, tried_rooms, tried_same, tried_working, tries_at, rooms_of_cell}
use Rattle.net_state.proofs.network.NetState.try_fire.Goals as goal

pub try_at-requires-clause-rooms : goal.try_at-requires-clause-rooms
try_at-requires-clause-rooms g c =
    let old = map g.A.Firing.cell c.self.inside.cells.items in
    let may : MayWork old c.args.inst.0 = subst (λ h. MayWork (map g.A.Firing.cell h.cells) c.args.inst.0) (sym c.self.view_is) c.requires.may in
    let on = on_cell (slice_get old c.args.inst.0) (λ cell. cell.trapped ≡ false) may in
    let low : c.args.inst.0 < length c.self.inside.rooms.items =
    omega (arith, place_of old c.args.inst.0 (λ cell. cell.trapped ≡ false) may, c.self.invariant.1.rows, length-map c.self.inside.rooms.items vec_items) in
    let row_at : slice_get (map vec_items c.self.inside.rooms.items) c.args.inst.0 ≡ Some c.deref.result.now =
    slice_get-map vec_items c.self.inside.rooms.items c.args.inst.0
    ∙ (ap (option_map vec_items) (slice_get_read c.self.inside.rooms.items (length c.self.inside.rooms.items) c.args.inst.0 c.index.result.now refl low c.index.ensures)
    ∙ ap Some (sym c.deref.ensures.value)) in
    subst (λ cs. HasRoomRow (map g.A.Firing.cell cs) c.args.inst.0 c.deref.result.now) (sym c.deref_mut.ensures.value)
    (subst (λ o. OnCell o (λ cell. AreRooms cell c.deref.result.now)) (sym on.1)
    (rooms_of_cell old c.self.inside.links.items c.self.inside.capacities.items c.self.inside.waited.items c.self.invariant.0 (map vec_items c.self.inside.rooms.items) c.self.invariant.1
    c.args.inst.0 c.deref.result.now row_at on.0 on.1))

pub invariant_of-self : goal.invariant_of-self
invariant_of-self g c =
    let old = map g.A.Firing.cell c.self.inside.cells.items in
    let new = map g.A.Firing.cell c.try_at.new.cells in
    let may : MayWork old c.args.inst.0 = subst (λ h. MayWork (map g.A.Firing.cell h.cells) c.args.inst.0) (sym c.self.view_is) c.requires.may in
    let low : c.args.inst.0 < length c.self.inside.rooms.items =
    omega (arith, place_of old c.args.inst.0 (λ cell. cell.trapped ≡ false) may, c.self.invariant.1.rows, length-map c.self.inside.rooms.items vec_items) in
    let row_at : slice_get (map vec_items c.self.inside.rooms.items) c.args.inst.0 ≡ Some c.deref.result.now =
    slice_get-map vec_items c.self.inside.rooms.items c.args.inst.0
    ∙ (ap (option_map vec_items) (slice_get_read c.self.inside.rooms.items (length c.self.inside.rooms.items) c.args.inst.0 c.index.result.now refl low c.index.ensures)
    ∙ ap Some (sym c.deref.ensures.value)) in
    let cells : take c.self.inside.cells.len (c.try_at.new.cells ++ drop (length c.try_at.new.cells) c.self.inside.cells.items) ≡ c.try_at.new.cells =
    written_back c.self.inside.cells.items c.try_at.new.cells c.self.inside.cells.len (omega (arith, c.try_at.auto.cells, c.deref_mut.ensures.len)) in
    let b : TriedAt c.args.inst.0 c.deref.result.now c.args.action.0 old c.try_at.result new =
    subst (λ cs. TriedAt c.args.inst.0 c.deref.result.now c.args.action.0 (map g.A.Firing.cell cs) c.try_at.result new) c.deref_mut.ensures.value c.try_at.ensures in
    let free : b.before.trapped ≡ false = subst (λ o. OnCell o (λ cell. cell.trapped ≡ false)) b.at may in
    rw cells (
      tried_working old c.self.inside.links.items c.self.inside.capacities.items c.self.inside.waited.items c.self.invariant.0 (map vec_items c.self.inside.rooms.items) c.self.invariant.1
          c.args.inst.0 c.deref.result.now row_at c.args.action.0 c.try_at.result new b free,
      tried_rooms old c.self.inside.links.items c.self.inside.capacities.items c.self.inside.waited.items c.self.invariant.0 (map vec_items c.self.inside.rooms.items) c.self.invariant.1
          c.args.inst.0 c.deref.result.now row_at c.args.action.0 c.try_at.result new b free,
    )

pub returns : goal.returns
returns g c =
    let old = map g.A.Firing.cell c.self.inside.cells.items in
    let new = map g.A.Firing.cell c.try_at.new.cells in
    let may : MayWork old c.args.inst.0 = subst (λ h. MayWork (map g.A.Firing.cell h.cells) c.args.inst.0) (sym c.self.view_is) c.requires.may in
    let low : c.args.inst.0 < length c.self.inside.rooms.items =
    omega (arith, place_of old c.args.inst.0 (λ cell. cell.trapped ≡ false) may, c.self.invariant.1.rows, length-map c.self.inside.rooms.items vec_items) in
    let row_at : slice_get (map vec_items c.self.inside.rooms.items) c.args.inst.0 ≡ Some c.deref.result.now =
    slice_get-map vec_items c.self.inside.rooms.items c.args.inst.0
    ∙ (ap (option_map vec_items) (slice_get_read c.self.inside.rooms.items (length c.self.inside.rooms.items) c.args.inst.0 c.index.result.now refl low c.index.ensures)
    ∙ ap Some (sym c.deref.ensures.value)) in
    let cells : take c.self.inside.cells.len (c.try_at.new.cells ++ drop (length c.try_at.new.cells) c.self.inside.cells.items) ≡ c.try_at.new.cells =
    written_back c.self.inside.cells.items c.try_at.new.cells c.self.inside.cells.len (omega (arith, c.try_at.auto.cells, c.deref_mut.ensures.len)) in
    let b : TriedAt c.args.inst.0 c.deref.result.now c.args.action.0 old c.try_at.result new =
    subst (λ cs. TriedAt c.args.inst.0 c.deref.result.now c.args.action.0 (map g.A.Firing.cell cs) c.try_at.result new) c.deref_mut.ensures.value c.try_at.ensures in
    let free : b.before.trapped ≡ false = subst (λ o. OnCell o (λ cell. cell.trapped ≡ false)) b.at may in
    rw cells (record {
      tries = subst (λ h. TriesAt c.args.inst.0 c.args.action.0 c.try_at.result (seen g.A.Firing.cell h) (held_of new c.self.inside.links.items c.self.inside.capacities.items c.self.inside.waited.items)) c.self.view_is
          (tries_at old c.self.inside.links.items c.self.inside.capacities.items c.self.inside.waited.items c.self.invariant.0 (map vec_items c.self.inside.rooms.items) c.self.invariant.1
          c.args.inst.0 c.deref.result.now row_at c.args.action.0 c.try_at.result new b free);
      same_actors = subst (λ h. SameActors (map g.A.Firing.cell h.cells) new) c.self.view_is
          (tried_same old c.self.inside.links.items c.self.inside.capacities.items c.self.inside.waited.items c.self.invariant.0 (map vec_items c.self.inside.rooms.items) c.self.invariant.1
          c.args.inst.0 c.deref.result.now row_at c.args.action.0 c.try_at.result new b free);
      fewer = subst (λ h. NoMoreWait (seen g.A.Firing.cell h) (held_of new c.self.inside.links.items c.self.inside.capacities.items c.self.inside.waited.items)) c.self.view_is
          (tried_fewer old c.self.inside.links.items c.self.inside.capacities.items c.self.inside.waited.items c.self.invariant.0 (map vec_items c.self.inside.rooms.items) c.self.invariant.1
          c.args.inst.0 c.deref.result.now row_at c.args.action.0 c.try_at.result new b free);
      links = ap (λ h. h.links) c.self.view_is;
      capacities = ap (λ h. h.capacities) c.self.view_is;
      waited = ap (λ h. h.waited) c.self.view_is;
    })
