use Rattle.std.proofs.Common.{◌≡◌, ◌++◌, ◌<◌, ℕ, ℤ, List, true, arith, ap, sym, subst, refl, length, map, take, drop}
use Rattle.std.specs.Prelude.{slice_get, slice_index_or, vec_items, Some, IfOk, OnErr}
use Rattle.std.proofs.lemmas.List.{get_or_read}
use Rattle.std.proofs.lemmas.Result.{IfOk-weaker}
use Rattle.std.proofs.lemmas.Option.{slice_get_read, slice_get_within}
use Rattle.rvc_base.specs.Storing.{conv}
use Rattle.net_model.specs.declared.wiring.Link.{Link}
use Rattle.net_model.specs.Network.{is_input}
use Rattle.port_files.specs.Coming.{coming_on}
use Rattle.net_state.specs.Held.{held_of, seen}
use Rattle.net_state.specs.Moving.{EachGains, HasRoomUpTo, IsInput, SameActors, SameMarks, only_to}
use Rattle.net_state.specs.Filling.{AreArrivals, AtPort, Fills, Inflow, IsDue, IsDueFor, IsFilled, IsFull, IsInputLink, Takes, inflow}
use Rattle.net_state.proofs.Fed.{fill_all, fill_full, fill_gains, fill_rests, fill_told}
use Rattle.net_state.specs.Working.{IsAtRest}
use Rattle.net_state.proofs.Slices.{written_back}
use Rattle.net_state.proofs.Feeding.{at_port_as, at_reader, due_so, kept_by_fill, on_input, reader_at}
use Rattle.net_state.proofs.network.NetState.fill.Goals as goal

pub fill_link-requires : goal.fill_link-requires
fill_link-requires g c =
    let links_are : c.self.inside.links.items ≡ c.args.self.now.links = ap (λ h. h.links) c.self.view_is in
    let from : IsInputLink (slice_get c.self.inside.links.items c.args.link.0) = subst (λ ls. IsInputLink (slice_get ls c.args.link.0)) (sym links_are) c.requires.input in
    let on = on_input (slice_get c.self.inside.links.items c.args.link.0) from in
    let low : c.args.link.0 < length c.self.inside.links.items = slice_get_within c.self.inside.links.items c.args.link.0 on.0 on.1 in
    let at : slice_get c.self.inside.links.items c.args.link.0 ≡ Some c.index.result.now =
    slice_get_read c.self.inside.links.items (length c.self.inside.links.items) c.args.link.0 c.index.result.now refl low c.index.ensures in
    let input : is_input c.index.result.now ≡ true = subst IsInputLink at from in
    let capacity : c.index-2.result.now ≡ slice_index_or c.self.inside.capacities.items c.args.link.0 0 =
    get_or_read c.self.inside.capacities.items c.args.link.0 c.index-2.result.now (omega (arith, low, c.self.invariant.0.each_holds)) c.index-2.ensures 0 in
    record {
      size = (c.self.invariant.0.fits c.args.link.0 c.index.result.now at).size;
      reader =
          subst (λ n. AtPort c.index.result.now (λ (that : Link) (j : ℕ) (q : ℕ). IsInput (map g.A.Firing.cell c.deref_mut.result.now) j q × HasRoomUpTo (map g.A.Firing.cell c.deref_mut.result.now) j q n) c.index.result.now.to) (sym capacity)
          (subst (λ cs. AtPort c.index.result.now (λ (that : Link) (j : ℕ) (q : ℕ). IsInput (map g.A.Firing.cell cs) j q × HasRoomUpTo (map g.A.Firing.cell cs) j q (slice_index_or c.self.inside.capacities.items c.args.link.0 0)) c.index.result.now.to) (sym c.deref_mut.ensures.value)
          (reader_at (map g.A.Firing.cell c.self.inside.cells.items) c.self.inside.links.items c.self.inside.capacities.items c.self.inside.waited.items c.self.invariant.0 c.args.link.0 c.index.result.now at input));
      «open» = c.requires.«open»;
      same_feed = c.requires.same_feed;
    }

pub invariant_of-self : goal.invariant_of-self
invariant_of-self g c =
    let links_are : c.self.inside.links.items ≡ c.args.self.now.links = ap (λ h. h.links) c.self.view_is in
    let from : IsInputLink (slice_get c.self.inside.links.items c.args.link.0) = subst (λ ls. IsInputLink (slice_get ls c.args.link.0)) (sym links_are) c.requires.input in
    let on = on_input (slice_get c.self.inside.links.items c.args.link.0) from in
    let low : c.args.link.0 < length c.self.inside.links.items = slice_get_within c.self.inside.links.items c.args.link.0 on.0 on.1 in
    let at : slice_get c.self.inside.links.items c.args.link.0 ≡ Some c.index.result.now =
    slice_get_read c.self.inside.links.items (length c.self.inside.links.items) c.args.link.0 c.index.result.now refl low c.index.ensures in
    let input : is_input c.index.result.now ≡ true = subst IsInputLink at from in
    let capacity : c.index-2.result.now ≡ slice_index_or c.self.inside.capacities.items c.args.link.0 0 =
    get_or_read c.self.inside.capacities.items c.args.link.0 c.index-2.result.now (omega (arith, low, c.self.invariant.0.each_holds)) c.index-2.ensures 0 in
    let cells : take c.self.inside.cells.len (c.fill_link.new.cells ++ drop (length c.fill_link.new.cells) c.self.inside.cells.items) ≡ c.fill_link.new.cells =
    written_back c.self.inside.cells.items c.fill_link.new.cells c.self.inside.cells.len (omega (arith, c.fill_link.auto.cells, c.deref_mut.ensures.len)) in
    let gained : AtPort c.index.result.now (λ (that : Link) (j : ℕ) (q : ℕ). (ts : List ℤ) × EachGains (only_to j q ts) (map g.A.Firing.cell c.deref_mut.result.now) (map g.A.Firing.cell c.fill_link.new.cells)) c.index.result.now.to =
    at_port_as c.index.result.now
    (λ (that : Link) (j : ℕ) (q : ℕ). (count : ℕ) × Takes c.args.tokens.now.kind that.kind j q count (map g.A.Firing.cell c.deref_mut.result.now) (map g.A.Firing.cell c.fill_link.new.cells)
    (coming_on c.args.tokens.now.pulled (g.F.Feeds.feeds c.args.feeds.now) c.args.feed) (coming_on c.fill_link.new.tokens.pulled (g.F.Feeds.feeds c.fill_link.new.feeds) c.args.feed)
    × IfOk c.fill_link.result (λ filled. filled.tokens ≡ count))
    (λ (that : Link) (j : ℕ) (q : ℕ). (ts : List ℤ) × EachGains (only_to j q ts) (map g.A.Firing.cell c.deref_mut.result.now) (map g.A.Firing.cell c.fill_link.new.cells))
    c.index.result.now.to (λ j q took. (map (conv c.index.result.now.kind) took.1.taken, took.1.gains)) c.fill_link.ensures.took in
    rw cells (kept_by_fill (map g.A.Firing.cell c.self.inside.cells.items) c.self.inside.links.items c.self.inside.capacities.items c.self.inside.waited.items c.self.invariant.0
    c.args.link.0 c.index.result.now at input (map g.A.Firing.cell c.fill_link.new.cells)
    (subst (λ cs. AtPort c.index.result.now (λ (that : Link) (j : ℕ) (q : ℕ). (ts : List ℤ) × EachGains (only_to j q ts) (map g.A.Firing.cell cs) (map g.A.Firing.cell c.fill_link.new.cells)) c.index.result.now.to)
    c.deref_mut.ensures.value gained)
    (subst (λ n. AtPort c.index.result.now (λ (that : Link) (j : ℕ) (q : ℕ). HasRoomUpTo (map g.A.Firing.cell c.fill_link.new.cells) j q n) c.index.result.now.to) capacity c.fill_link.ensures.within)
    (map vec_items c.self.inside.rooms.items) c.self.invariant.1)

pub returns : goal.returns
returns g c =
    let links_are : c.self.inside.links.items ≡ c.args.self.now.links = ap (λ h. h.links) c.self.view_is in
    let from : IsInputLink (slice_get c.self.inside.links.items c.args.link.0) = subst (λ ls. IsInputLink (slice_get ls c.args.link.0)) (sym links_are) c.requires.input in
    let on = on_input (slice_get c.self.inside.links.items c.args.link.0) from in
    let low : c.args.link.0 < length c.self.inside.links.items = slice_get_within c.self.inside.links.items c.args.link.0 on.0 on.1 in
    let at : slice_get c.self.inside.links.items c.args.link.0 ≡ Some c.index.result.now =
    slice_get_read c.self.inside.links.items (length c.self.inside.links.items) c.args.link.0 c.index.result.now refl low c.index.ensures in
    let input : is_input c.index.result.now ≡ true = subst IsInputLink at from in
    let capacity : c.index-2.result.now ≡ slice_index_or c.self.inside.capacities.items c.args.link.0 0 =
    get_or_read c.self.inside.capacities.items c.args.link.0 c.index-2.result.now (omega (arith, low, c.self.invariant.0.each_holds)) c.index-2.ensures 0 in
    let cells : take c.self.inside.cells.len (c.fill_link.new.cells ++ drop (length c.fill_link.new.cells) c.self.inside.cells.items) ≡ c.fill_link.new.cells =
    written_back c.self.inside.cells.items c.fill_link.new.cells c.self.inside.cells.len (omega (arith, c.fill_link.auto.cells, c.deref_mut.ensures.len)) in
    let old : map g.A.Firing.cell c.deref_mut.result.now ≡ map g.A.Firing.cell c.self.inside.cells.items = ap (map g.A.Firing.cell) c.deref_mut.ensures.value in
    let here = map g.A.Firing.cell c.self.inside.cells.items in
    let new = map g.A.Firing.cell c.fill_link.new.cells in
    let before : Inflow = inflow c.args.tokens.now (g.F.Feeds.feeds c.args.feeds.now) c.args.feed in
    let after : Inflow = inflow c.fill_link.new.tokens (g.F.Feeds.feeds c.fill_link.new.feeds) c.args.feed in
    let took = subst (λ cs. AtPort c.index.result.now (λ (that : Link) (j : ℕ) (q : ℕ). (count : ℕ) × Takes before.kind that.kind j q count cs new before.bytes after.bytes
    × IfOk c.fill_link.result (λ filled. filled.tokens ≡ count)) c.index.result.now.to) old c.fill_link.ensures.took in
    let full = subst (λ n. IfOk c.fill_link.result (λ filled. AtPort c.index.result.now (λ (that : Link) (j : ℕ) (q : ℕ). IsFilled before.kind j q n filled.rest new after.bytes) c.index.result.now.to)) capacity c.fill_link.ensures.filled in
    let facts = fill_gains here new c.self.inside.links.items c.self.inside.capacities.items c.self.inside.waited.items c.self.invariant.0 c.args.link.0 c.index.result.now at input
    before after c.fill_link.ensures.kind (λ count. IfOk c.fill_link.result (λ filled. filled.tokens ≡ count)) took in
    rw cells (record {
      fills = subst (λ h. Fills c.args.link.0 before after (λ count. IfOk c.fill_link.result (λ filled. filled.tokens ≡ count)) (seen g.A.Firing.cell h) (held_of new c.self.inside.links.items c.self.inside.capacities.items c.self.inside.waited.items))
          c.self.view_is
          (fill_told here new c.self.inside.links.items c.self.inside.capacities.items c.self.inside.waited.items c.self.invariant.0 c.args.link.0 c.index.result.now at input
          before after c.fill_link.ensures.kind (λ count. IfOk c.fill_link.result (λ filled. filled.tokens ≡ count)) took);
      filled = IfOk-weaker c.fill_link.result _ (λ filled. IsFull c.args.link.0 filled.rest (held_of new c.self.inside.links.items c.self.inside.capacities.items c.self.inside.waited.items) after)
          (λ filled. fill_full here new c.self.inside.links.items c.self.inside.capacities.items c.self.inside.waited.items c.self.invariant.0 c.args.link.0 c.index.result.now at input
          before after c.fill_link.ensures.kind filled.rest) full;
      arrivals = subst (λ h. IfOk c.fill_link.result (λ filled. AreArrivals c.args.link.0 filled.tokens (seen g.A.Firing.cell h) before)) c.self.view_is
          (fill_all here new c.self.inside.links.items c.self.inside.capacities.items c.self.inside.waited.items c.self.invariant.0 c.args.link.0 c.index.result.now at input
          before after c.fill_link.ensures.kind c.fill_link.result (λ filled. filled.tokens) (λ filled. filled.rest) took full);
      rests = subst (λ h. IsAtRest (seen g.A.Firing.cell h) → IsAtRest (held_of new c.self.inside.links.items c.self.inside.capacities.items c.self.inside.waited.items)) c.self.view_is
          (fill_rests here new c.self.inside.links.items c.self.inside.capacities.items c.self.inside.waited.items c.self.invariant.0 c.args.link.0 c.index.result.now at input
          before after c.fill_link.ensures.kind (λ count. IfOk c.fill_link.result (λ filled. filled.tokens ≡ count)) took
          (subst (λ n. AtPort c.index.result.now (λ (that : Link) (j : ℕ) (q : ℕ). HasRoomUpTo new j q n) c.index.result.now.to) capacity c.fill_link.ensures.within));
      same_actors = subst (λ h. SameActors (map g.A.Firing.cell h.cells) new) c.self.view_is facts.0;
      same_marks = subst (λ h. SameMarks (map g.A.Firing.cell h.cells) new) c.self.view_is facts.1;
      links = links_are;
      capacities = ap (λ h. h.capacities) c.self.view_is;
      waited = ap (λ h. h.waited) c.self.view_is;
      failed = c.fill_link.ensures.failed;
      due = due_so c.fill_link.result _ (IsDueFor c.args.link.0 (held_of new c.self.inside.links.items c.self.inside.capacities.items c.self.inside.waited.items) c.fill_link.new.tokens)
          (at_reader c.self.inside.links.items c.args.link.0 c.index.result.now (λ (that : Link) (j : ℕ) (q : ℕ). IsDue j q (slice_index_or c.self.inside.capacities.items c.args.link.0 0) new c.fill_link.new.tokens) at)
          (subst (λ n. OnErr c.fill_link.result (AtPort c.index.result.now (λ (that : Link) (j : ℕ) (q : ℕ). IsDue j q n new c.fill_link.new.tokens) c.index.result.now.to)) capacity c.fill_link.ensures.due);
      kind = c.fill_link.ensures.kind;
      same_rest = c.fill_link.ensures.same_rest;
      still_same_feed = c.fill_link.ensures.still_same_feed;
      elsewhere = c.fill_link.ensures.elsewhere;
    })
