use Rattle.std.proofs.Common.{◌+◌, FitsSigned, rules, ◌≡◌, ◌++◌, ◌<◌, ◌≤◌, ◌∷◌, [], ℕ, true, arith, ap, sym, subst, refl, length, map, take, drop}
use Rattle.std.specs.Prelude.{slice_get, slice_index_or, vec_items, Some}
use Rattle.std.proofs.lemmas.Int.{to_z-of_z}
use Rattle.rvc_base.specs.Width.{num_width}
use Rattle.std.proofs.lemmas.Option.{slice_get_read, slice_get_within}
use Rattle.net_model.specs.declared.wiring.Link.{Link}
use Rattle.net_model.specs.Network.{is_input}
use Rattle.net_model.specs.Ready.{waiting_at}
use Rattle.net_state.specs.Filling.{AtPort, IsInputLink}
use Rattle.net_state.specs.Held.{held_of, seen}
use Rattle.net_state.specs.Moving.{EachGains, HasRoomUpTo, IsInput, SameActors, SameMarks, only_to}
use Rattle.net_state.specs.Working.{IsAtRest}
use Rattle.net_state.specs.TakingBack.{TakesBack, WaitElsewhere, waits_at, waits_on}
use Rattle.net_state.proofs.Slices.{written_back}
use Rattle.net_state.proofs.Feeding.{at_port_as, on_input, reader_at}
use Rattle.net_state.proofs.Returned.{back_at}
use Rattle.net_state.proofs.network.NetState.take_back.Goals as goal

pub take_back_along-requires : goal.take_back_along-requires
take_back_along-requires g c =
    let links_are : c.self.inside.links.items ≡ c.args.self.now.links = ap (λ h. h.links) c.self.view_is in
    let from : IsInputLink (slice_get c.self.inside.links.items c.args.link.0) = subst (λ ls. IsInputLink (slice_get ls c.args.link.0)) (sym links_are) c.requires.input in
    let on = on_input (slice_get c.self.inside.links.items c.args.link.0) from in
    let low : c.args.link.0 < length c.self.inside.links.items = slice_get_within c.self.inside.links.items c.args.link.0 on.0 on.1 in
    let at : slice_get c.self.inside.links.items c.args.link.0 ≡ Some c.index.result.now =
    slice_get_read c.self.inside.links.items (length c.self.inside.links.items) c.args.link.0 c.index.result.now refl low c.index.ensures in
    let input : is_input c.index.result.now ≡ true = subst IsInputLink at from in
    let some : 1 ≤ waits_on (seen g.A.Firing.cell (record { cells = c.self.inside.cells.items; links = c.self.inside.links.items; capacities = c.self.inside.capacities.items; waited = c.self.inside.waited.items })) c.args.link.0 =
    subst (λ h. 1 ≤ waits_on (seen g.A.Firing.cell h) c.args.link.0) (sym c.self.view_is) c.requires.some in
    record {
      reader =
          subst (λ cs. AtPort c.index.result.now (λ (that : Link) (j : ℕ) (q : ℕ). IsInput (map g.A.Firing.cell cs) j q) c.index.result.now.to) (sym c.deref_mut.ensures.value)
          (at_port_as c.index.result.now (λ (that : Link) (j : ℕ) (q : ℕ). IsInput (map g.A.Firing.cell c.self.inside.cells.items) j q × HasRoomUpTo (map g.A.Firing.cell c.self.inside.cells.items) j q (slice_index_or c.self.inside.capacities.items c.args.link.0 0)) (λ (that : Link) (j : ℕ) (q : ℕ). IsInput (map g.A.Firing.cell c.self.inside.cells.items) j q) c.index.result.now.to (λ j q both. both.0)
          (reader_at (map g.A.Firing.cell c.self.inside.cells.items) c.self.inside.links.items c.self.inside.capacities.items c.self.inside.waited.items c.self.invariant.0 c.args.link.0 c.index.result.now at input));
      some = subst (λ cs. 1 ≤ length (waiting_at (map g.A.Firing.cell cs) c.index.result.now.to)) (sym c.deref_mut.ensures.value)
          (subst (λ o. 1 ≤ waits_at (map g.A.Firing.cell c.self.inside.cells.items) o) at some);
    }

pub invariant_of-self : goal.invariant_of-self
invariant_of-self g c =
    let links_are : c.self.inside.links.items ≡ c.args.self.now.links = ap (λ h. h.links) c.self.view_is in
    let from : IsInputLink (slice_get c.self.inside.links.items c.args.link.0) = subst (λ ls. IsInputLink (slice_get ls c.args.link.0)) (sym links_are) c.requires.input in
    let on = on_input (slice_get c.self.inside.links.items c.args.link.0) from in
    let low : c.args.link.0 < length c.self.inside.links.items = slice_get_within c.self.inside.links.items c.args.link.0 on.0 on.1 in
    let at : slice_get c.self.inside.links.items c.args.link.0 ≡ Some c.index.result.now =
    slice_get_read c.self.inside.links.items (length c.self.inside.links.items) c.args.link.0 c.index.result.now refl low c.index.ensures in
    let input : is_input c.index.result.now ≡ true = subst IsInputLink at from in
    let here = map g.A.Firing.cell c.self.inside.cells.items in
    let new = map g.A.Firing.cell c.take_back_along.new.cells in
    let cells : take c.self.inside.cells.len (c.take_back_along.new.cells ++ drop (length c.take_back_along.new.cells) c.self.inside.cells.items) ≡ c.take_back_along.new.cells =
    written_back c.self.inside.cells.items c.take_back_along.new.cells c.self.inside.cells.len (omega (arith, c.take_back_along.auto.cells, c.deref_mut.ensures.len)) in
    let gained : AtPort c.index.result.now (λ (that : Link) (j : ℕ) (q : ℕ). EachGains (only_to j q (c.take_back_along.result ∷ [])) new here) c.index.result.now.to =
    subst (λ cs. AtPort c.index.result.now (λ (that : Link) (j : ℕ) (q : ℕ). EachGains (only_to j q (c.take_back_along.result ∷ [])) new cs) c.index.result.now.to) (ap (map g.A.Firing.cell) c.deref_mut.ensures.value) c.take_back_along.ensures in
    let back = back_at here new c.self.inside.links.items c.self.inside.capacities.items c.self.inside.waited.items c.self.invariant.0 c.args.link.0 c.index.result.now c.take_back_along.result at input gained in
    rw cells (back.working, back.rooms (map vec_items c.self.inside.rooms.items) c.self.invariant.1)

pub returns : goal.returns
returns g c =
    let links_are : c.self.inside.links.items ≡ c.args.self.now.links = ap (λ h. h.links) c.self.view_is in
    let from : IsInputLink (slice_get c.self.inside.links.items c.args.link.0) = subst (λ ls. IsInputLink (slice_get ls c.args.link.0)) (sym links_are) c.requires.input in
    let on = on_input (slice_get c.self.inside.links.items c.args.link.0) from in
    let low : c.args.link.0 < length c.self.inside.links.items = slice_get_within c.self.inside.links.items c.args.link.0 on.0 on.1 in
    let at : slice_get c.self.inside.links.items c.args.link.0 ≡ Some c.index.result.now =
    slice_get_read c.self.inside.links.items (length c.self.inside.links.items) c.args.link.0 c.index.result.now refl low c.index.ensures in
    let input : is_input c.index.result.now ≡ true = subst IsInputLink at from in
    let fits : FitsSigned num_width c.take_back_along.result = search rules in
    let here = map g.A.Firing.cell c.self.inside.cells.items in
    let new = map g.A.Firing.cell c.take_back_along.new.cells in
    let cells : take c.self.inside.cells.len (c.take_back_along.new.cells ++ drop (length c.take_back_along.new.cells) c.self.inside.cells.items) ≡ c.take_back_along.new.cells =
    written_back c.self.inside.cells.items c.take_back_along.new.cells c.self.inside.cells.len (omega (arith, c.take_back_along.auto.cells, c.deref_mut.ensures.len)) in
    let gained : AtPort c.index.result.now (λ (that : Link) (j : ℕ) (q : ℕ). EachGains (only_to j q (c.take_back_along.result ∷ [])) new here) c.index.result.now.to =
    subst (λ cs. AtPort c.index.result.now (λ (that : Link) (j : ℕ) (q : ℕ). EachGains (only_to j q (c.take_back_along.result ∷ [])) new cs) c.index.result.now.to) (ap (map g.A.Firing.cell) c.deref_mut.ensures.value) c.take_back_along.ensures in
    let back = back_at here new c.self.inside.links.items c.self.inside.capacities.items c.self.inside.waited.items c.self.invariant.0 c.args.link.0 c.index.result.now c.take_back_along.result at input gained in
    rw cells (record {
      takes_back = subst (λ v. TakesBack c.args.link.0 v (seen g.A.Firing.cell c.args.self.now) (held_of new c.self.inside.links.items c.self.inside.capacities.items c.self.inside.waited.items)) (sym (to_z-of_z num_width c.take_back_along.result fits))
          (subst (λ h. TakesBack c.args.link.0 c.take_back_along.result (seen g.A.Firing.cell h) (held_of new c.self.inside.links.items c.self.inside.capacities.items c.self.inside.waited.items)) c.self.view_is back.back);
      rests = subst (λ h. IsAtRest (seen g.A.Firing.cell h) → IsAtRest (held_of new c.self.inside.links.items c.self.inside.capacities.items c.self.inside.waited.items)) c.self.view_is back.rests;
      one_less = subst (λ h. waits_on (held_of new c.self.inside.links.items c.self.inside.capacities.items c.self.inside.waited.items) c.args.link.0 + 1 ≡ waits_on (seen g.A.Firing.cell h) c.args.link.0) c.self.view_is back.here;
      elsewhere = subst (λ h. WaitElsewhere c.args.link.0 (seen g.A.Firing.cell h) (held_of new c.self.inside.links.items c.self.inside.capacities.items c.self.inside.waited.items)) c.self.view_is back.elsewhere;
      same_actors = subst (λ h. SameActors (map g.A.Firing.cell h.cells) new) c.self.view_is back.same;
      same_marks = subst (λ h. SameMarks (map g.A.Firing.cell h.cells) new) c.self.view_is back.marks;
      links = links_are;
      capacities = ap (λ h. h.capacities) c.self.view_is;
      waited = ap (λ h. h.waited) c.self.view_is;
    })
