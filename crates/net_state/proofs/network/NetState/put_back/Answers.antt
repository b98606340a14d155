use Rattle.std.proofs.Common.{◌+◌, FitsSigned, to_z, of_z, rules, ◌≡◌, ◌++◌, ◌<◌, ◌∷◌, [], ℕ, true, arith, ap, sym, subst, refl, length, map, take, drop}
use Rattle.std.specs.Prelude.{slice_get, slice_index_or, vec_items, Some}
use Rattle.std.proofs.lemmas.Int.{to_z-of_z}
use Rattle.rvc_base.specs.Width.{num_width}
use Rattle.std.proofs.lemmas.Option.{slice_get_read, slice_get_within}
use Rattle.net_model.specs.declared.wiring.Link.{Link}
use Rattle.net_model.specs.Network.{is_input}
use Rattle.net_model.specs.Ready.{waiting_at}
use Rattle.net_state.specs.Filling.{AtPort, IsInputLink}
use Rattle.net_state.specs.Held.{held_of, seen}
use Rattle.net_state.specs.Moving.{EachGains, HasRoomBefore, IsInput, SameActors, SameMarks, only_to}
use Rattle.net_state.specs.TakingBack.{PutsBack, WaitElsewhere, waits_at, waits_on}
use Rattle.net_state.proofs.Slices.{written_back}
use Rattle.net_state.proofs.Feeding.{on_input}
use Rattle.net_state.proofs.PutBack.{put_at_reader, room_there}
use Rattle.net_state.proofs.network.NetState.put_back.Goals as goal

pub put_back_along-requires : goal.put_back_along-requires
put_back_along-requires g c =
    let links_are : c.self.inside.links.items ≡ c.args.self.now.links = ap (λ h. h.links) c.self.view_is in
    let from : IsInputLink (slice_get c.self.inside.links.items c.args.link.0) = subst (λ ls. IsInputLink (slice_get ls c.args.link.0)) (sym links_are) c.requires.input in
    let on = on_input (slice_get c.self.inside.links.items c.args.link.0) from in
    let low : c.args.link.0 < length c.self.inside.links.items = slice_get_within c.self.inside.links.items c.args.link.0 on.0 on.1 in
    let at : slice_get c.self.inside.links.items c.args.link.0 ≡ Some c.index.result.now =
    slice_get_read c.self.inside.links.items (length c.self.inside.links.items) c.args.link.0 c.index.result.now refl low c.index.ensures in
    let input : is_input c.index.result.now ≡ true = subst IsInputLink at from in
    let here = map g.A.Firing.cell c.self.inside.cells.items in
    let few : length (waiting_at here c.index.result.now.to) < slice_index_or c.self.inside.capacities.items c.args.link.0 0 =
    subst (λ o. waits_at here o < slice_index_or c.self.inside.capacities.items c.args.link.0 0) at
    (subst (λ h. waits_on (seen g.A.Firing.cell h) c.args.link.0 < slice_index_or h.capacities c.args.link.0 0) (sym c.self.view_is) c.requires.room) in
    record {
      reader =
          subst (λ cs. AtPort c.index.result.now (λ (that : Link) (j : ℕ) (q : ℕ). IsInput (map g.A.Firing.cell cs) j q × HasRoomBefore (map g.A.Firing.cell cs) j q 1) c.index.result.now.to) (sym c.deref_mut.ensures.value)
          (room_there here here c.self.inside.links.items c.self.inside.capacities.items c.self.inside.waited.items c.self.invariant.0 c.args.link.0 c.index.result.now c.args.token at input few);
    }

pub invariant_of-self : goal.invariant_of-self
invariant_of-self g c =
    let links_are : c.self.inside.links.items ≡ c.args.self.now.links = ap (λ h. h.links) c.self.view_is in
    let from : IsInputLink (slice_get c.self.inside.links.items c.args.link.0) = subst (λ ls. IsInputLink (slice_get ls c.args.link.0)) (sym links_are) c.requires.input in
    let on = on_input (slice_get c.self.inside.links.items c.args.link.0) from in
    let low : c.args.link.0 < length c.self.inside.links.items = slice_get_within c.self.inside.links.items c.args.link.0 on.0 on.1 in
    let at : slice_get c.self.inside.links.items c.args.link.0 ≡ Some c.index.result.now =
    slice_get_read c.self.inside.links.items (length c.self.inside.links.items) c.args.link.0 c.index.result.now refl low c.index.ensures in
    let input : is_input c.index.result.now ≡ true = subst IsInputLink at from in
    let here = map g.A.Firing.cell c.self.inside.cells.items in
    let few : length (waiting_at here c.index.result.now.to) < slice_index_or c.self.inside.capacities.items c.args.link.0 0 =
    subst (λ o. waits_at here o < slice_index_or c.self.inside.capacities.items c.args.link.0 0) at
    (subst (λ h. waits_on (seen g.A.Firing.cell h) c.args.link.0 < slice_index_or h.capacities c.args.link.0 0) (sym c.self.view_is) c.requires.room) in
    let new = map g.A.Firing.cell c.put_back_along.new.cells in
    let cells : take c.self.inside.cells.len (c.put_back_along.new.cells ++ drop (length c.put_back_along.new.cells) c.self.inside.cells.items) ≡ c.put_back_along.new.cells =
    written_back c.self.inside.cells.items c.put_back_along.new.cells c.self.inside.cells.len (omega (arith, c.put_back_along.auto.cells, c.deref_mut.ensures.len)) in
    let fits : FitsSigned num_width c.args.token = search rules in
    let gained : AtPort c.index.result.now (λ (that : Link) (j : ℕ) (q : ℕ). EachGains (only_to j q (c.args.token ∷ [])) here new) c.index.result.now.to =
    subst (λ v. AtPort c.index.result.now (λ (that : Link) (j : ℕ) (q : ℕ). EachGains (only_to j q (v ∷ [])) here new) c.index.result.now.to) (to_z-of_z num_width c.args.token fits)
    (subst (λ cs. AtPort c.index.result.now (λ (that : Link) (j : ℕ) (q : ℕ). EachGains (only_to j q (to_z num_width (of_z num_width c.args.token) ∷ [])) cs new) c.index.result.now.to) (ap (map g.A.Firing.cell) c.deref_mut.ensures.value) c.put_back_along.ensures) in
    let put = put_at_reader here new c.self.inside.links.items c.self.inside.capacities.items c.self.inside.waited.items c.self.invariant.0 c.args.link.0 c.index.result.now c.args.token at input few gained in
    rw cells (put.kept (map vec_items c.self.inside.rooms.items) c.self.invariant.1)

pub returns : goal.returns
returns g c =
    let links_are : c.self.inside.links.items ≡ c.args.self.now.links = ap (λ h. h.links) c.self.view_is in
    let from : IsInputLink (slice_get c.self.inside.links.items c.args.link.0) = subst (λ ls. IsInputLink (slice_get ls c.args.link.0)) (sym links_are) c.requires.input in
    let on = on_input (slice_get c.self.inside.links.items c.args.link.0) from in
    let low : c.args.link.0 < length c.self.inside.links.items = slice_get_within c.self.inside.links.items c.args.link.0 on.0 on.1 in
    let at : slice_get c.self.inside.links.items c.args.link.0 ≡ Some c.index.result.now =
    slice_get_read c.self.inside.links.items (length c.self.inside.links.items) c.args.link.0 c.index.result.now refl low c.index.ensures in
    let input : is_input c.index.result.now ≡ true = subst IsInputLink at from in
    let here = map g.A.Firing.cell c.self.inside.cells.items in
    let few : length (waiting_at here c.index.result.now.to) < slice_index_or c.self.inside.capacities.items c.args.link.0 0 =
    subst (λ o. waits_at here o < slice_index_or c.self.inside.capacities.items c.args.link.0 0) at
    (subst (λ h. waits_on (seen g.A.Firing.cell h) c.args.link.0 < slice_index_or h.capacities c.args.link.0 0) (sym c.self.view_is) c.requires.room) in
    let new = map g.A.Firing.cell c.put_back_along.new.cells in
    let cells : take c.self.inside.cells.len (c.put_back_along.new.cells ++ drop (length c.put_back_along.new.cells) c.self.inside.cells.items) ≡ c.put_back_along.new.cells =
    written_back c.self.inside.cells.items c.put_back_along.new.cells c.self.inside.cells.len (omega (arith, c.put_back_along.auto.cells, c.deref_mut.ensures.len)) in
    let fits : FitsSigned num_width c.args.token = search rules in
    let gained : AtPort c.index.result.now (λ (that : Link) (j : ℕ) (q : ℕ). EachGains (only_to j q (c.args.token ∷ [])) here new) c.index.result.now.to =
    subst (λ v. AtPort c.index.result.now (λ (that : Link) (j : ℕ) (q : ℕ). EachGains (only_to j q (v ∷ [])) here new) c.index.result.now.to) (to_z-of_z num_width c.args.token fits)
    (subst (λ cs. AtPort c.index.result.now (λ (that : Link) (j : ℕ) (q : ℕ). EachGains (only_to j q (to_z num_width (of_z num_width c.args.token) ∷ [])) cs new) c.index.result.now.to) (ap (map g.A.Firing.cell) c.deref_mut.ensures.value) c.put_back_along.ensures) in
    let put = put_at_reader here new c.self.inside.links.items c.self.inside.capacities.items c.self.inside.waited.items c.self.invariant.0 c.args.link.0 c.index.result.now c.args.token at input few gained in
    rw cells (record {
      puts_back = subst (λ h. PutsBack c.args.link.0 c.args.token (seen g.A.Firing.cell h) (held_of new c.self.inside.links.items c.self.inside.capacities.items c.self.inside.waited.items)) c.self.view_is put.put;
      one_more = subst (λ h. waits_on (held_of new c.self.inside.links.items c.self.inside.capacities.items c.self.inside.waited.items) c.args.link.0 ≡ waits_on (seen g.A.Firing.cell h) c.args.link.0 + 1) c.self.view_is put.here;
      elsewhere = subst (λ h. WaitElsewhere c.args.link.0 (seen g.A.Firing.cell h) (held_of new c.self.inside.links.items c.self.inside.capacities.items c.self.inside.waited.items)) c.self.view_is put.elsewhere;
      same_actors = subst (λ h. SameActors (map g.A.Firing.cell h.cells) new) c.self.view_is put.same;
      same_marks = subst (λ h. SameMarks (map g.A.Firing.cell h.cells) new) c.self.view_is put.marks;
      links = links_are;
      capacities = ap (λ h. h.capacities) c.self.view_is;
      waited = ap (λ h. h.waited) c.self.view_is;
    })
