-- A link that grows.
use Rattle.std.proofs.Common.{◌≡◌, ℕ, ◌<◌, ◌≤◌, List, length, refl, sym, ap, subst, ◌∙◌, ⊎_elim, arith}
use Rattle.std.specs.Prelude.{Option, None, Some, slice_get, slice_set, slice_index_or}
use Rattle.std.proofs.lemmas.Bool.{cases_eq}
use Rattle.std.proofs.lemmas.List.{length-set, get_or-set_same, get_or-set_other}
use Rattle.std.proofs.lemmas.Option.{slice_get_within}
use Rattle.net_model.specs.declared.wiring.End.{End}
use Rattle.net_model.specs.declared.wiring.End.TheVariants.{Leaf as AtLeaf, Net as AtNet}
use Rattle.net_model.specs.declared.wiring.Link.{Link}
use Rattle.net_model.specs.State.{Flow, waiting}
use Rattle.net_model.specs.Trace.{OnNext, grown}
use Rattle.net_model.specs.Cell.{Cell, number_on, unread_room}
use Rattle.net_model.specs.Ready.{InboxHolds, OnCell, OutboxHolds}
use Rattle.net_state.specs.Held.{FitsIn, HasRooms, HasShapeOf, IsRoomTable, IsWorking, held_of}
use Rattle.net_state.specs.Standing.{IsHeld, StandsSince}
use Rattle.net_state.specs.Working.{CanHold, GrewTo}
use Rattle.net_state.proofs.Gaining.{some_is, there_too, get_set_same, get_set_other}
use Rattle.net_state.proofs.Flows.{inbox_alike}

on_less : {X : Type 0} (o : Option (Cell X)) (f : Cell X → ℕ) (m n : ℕ) → n ≤ m → OnCell o (λ cell. m ≤ f cell) → OnCell o (λ cell. n ≤ f cell)
on_less None f m n less h = h
on_less (Some cell) f m n less h = omega (arith, less, h)

outbox_less : {X : Type 0} (cells : List (Cell X)) (m n : ℕ) (end : End) → n ≤ m → OutboxHolds cells m end → OutboxHolds cells n end
outbox_less cells m n (AtNet port) less holds = tt
outbox_less cells m n (AtLeaf inst port) less holds = on_less (slice_get cells inst.0) (λ cell. number_on cell.outbox_capacities port) m n less holds

inbox_less : {X : Type 0} (cells : List (Cell X)) (m n : ℕ) (end : End) → n ≤ m → InboxHolds cells m end → InboxHolds cells n end
inbox_less cells m n (AtNet port) less holds = tt
inbox_less cells m n (AtLeaf inst port) less holds = on_less (slice_get cells inst.0) (λ cell. number_on cell.inbox_capacities port) m n less holds

pub can_hold_at : {X : Type 0} (cells : List (Cell X)) (n : ℕ) (o : Option Link) → CanHold cells n o → (link : Link) × (o ≡ Some link) × OutboxHolds cells n link.from × InboxHolds cells n link.to
can_hold_at cells n None h = absurd h
can_hold_at cells n (Some link) h = (link, refl, h.0, h.1)

module _ {X : Type 0} (cells : List (Cell X)) (links : List Link) (capacities waited : List ℕ) (working : IsWorking cells links capacities waited) (l limit capacity : ℕ)
    (queues : CanHold cells limit (slice_get links l)) (more : slice_index_or capacities l 0 ≤ capacity) (most : capacity ≤ limit) (few : limit ≤ unread_room) where
  place_here : l < length capacities
  place_here = let on = can_hold_at cells limit (slice_get links l) queues in omega (arith, slice_get_within links l on.0 on.1, working.each_holds)

  pub grown_working : IsWorking cells links (slice_set capacities l capacity) waited
  grown_working = record {
    each_holds = length-set capacities l capacity ∙ working.each_holds;
    each_waited = working.each_waited;
    apart = working.apart;
    fits = λ m link at.
        let fits = working.fits m link at in
        ⊎_elim
        (λ same.
        let on = can_hold_at cells limit (slice_get links l) queues in
        let link_is : on.0 ≡ link = some_is on.0 link (sym on.1 ∙ (ap (slice_get links) (sym same) ∙ at)) in
        let now : slice_index_or (slice_set capacities l capacity) m 0 ≡ capacity =
        ap (λ k. slice_index_or (slice_set capacities l capacity) k 0) same ∙ get_or-set_same capacities l capacity 0 place_here in
        let before : slice_index_or capacities m 0 ≡ slice_index_or capacities l 0 = ap (λ k. slice_index_or capacities k 0) same in
        record {
          size = fits.size;
          writer = fits.writer;
          reader = fits.reader;
          inside = fits.inside;
          outbox = outbox_less cells limit (slice_index_or (slice_set capacities l capacity) m 0) link.from (omega (arith, now, most)) (subst (λ k. OutboxHolds cells limit k.from) link_is on.2);
          inbox = inbox_less cells limit (slice_index_or (slice_set capacities l capacity) m 0) link.to (omega (arith, now, most)) (subst (λ k. InboxHolds cells limit k.to) link_is on.3);
          waiting = omega (arith, fits.waiting, now, before, more);
          counted = omega (arith, fits.counted, now, before, more);
          grown = omega (arith, fits.grown, now, before, more);
          fewer = fits.fewer;
          since = λ inner. omega (arith, fits.since inner, now, before, more);
        })
        (λ differ. subst (λ n. FitsIn cells n (slice_index_or waited m 0) link) (sym (get_or-set_other capacities l m capacity 0 differ)) fits)
        (cases_eq m l);
    read = working.read;
    few_given = working.few_given;
    few_cells = working.few_cells;
    few_links = working.few_links;
    few_held = λ m. ⊎_elim
        (λ same.
        let now : slice_index_or (slice_set capacities l capacity) m 0 ≡ capacity =
        ap (λ k. slice_index_or (slice_set capacities l capacity) k 0) same ∙ get_or-set_same capacities l capacity 0 place_here in
        omega (arith, now, most, few))
        (λ differ. let now : slice_index_or (slice_set capacities l capacity) m 0 ≡ slice_index_or capacities m 0 = get_or-set_other capacities l m capacity 0 differ in
        omega (arith, now, working.few_held m))
        (cases_eq m l);
  }

  pub grown_fits : (m : ℕ) (link : Link) → slice_get links m ≡ Some link → slice_index_or waited m 0 ≤ slice_index_or (slice_set capacities l capacity) m 0
  grown_fits m link at = (grown_working.fits m link at).counted

  pub grown_rooms : (table fixed : List (List ℕ)) → HasRooms cells links capacities waited table → HasShapeOf table fixed
      → IsRoomTable links (slice_set capacities l capacity) waited fixed → HasRooms cells links (slice_set capacities l capacity) waited fixed
  grown_rooms table fixed had shape rooms = record {
    rows = shape.rows ∙ had.rows;
    widths = λ i cell row at is.
        let before = there_too fixed table i row shape.rows is in
        shape.widths i before.0 row before.1 is ∙ had.widths i cell before.0 at before.1;
    rooms = rooms;
  }

  pub grown_states : GrewTo l capacity (held_of cells links capacities waited) (held_of cells links (slice_set capacities l capacity) waited)
  grown_states net opened s that =
      let on = can_hold_at cells limit (slice_get links l) queues in
      let stands = that.now.stands in
      let there = there_too net.links s.flows l on.0 (sym stands.flows.count) (ap (λ ls. slice_get ls l) that.now.is_of.links_are ∙ on.1) in
      let flow = there.0 in
      let now : Flow = record { sent = flow.sent; arrived = flow.arrived; taken = flow.taken; capacity = capacity } in
      let flow_now : slice_get (slice_set s.flows l now) l ≡ Some now = get_set_same s.flows l flow now there.1 in
      subst (λ o. OnNext (grown s l capacity o) (λ next. StandsSince net (held_of cells links (slice_set capacities l capacity) waited) opened next)) (sym there.1)
      (record {
        now = record {
          is_of = that.now.is_of;
          stands = record {
            actors = stands.actors;
            inboxes = λ i cell at p low.
                stands.inboxes i cell at p low
                ∙ sym (inbox_alike (λ ts. ts) i p net.links s.flows (slice_set s.flows l now) (length-set s.flows l now)
                (λ m link before after here was is leads. same_waiting m before after flow now s.flows there.1 was is refl));
            flows = record {
              count = length-set s.flows l now ∙ stands.flows.count;
              each = λ m link f here is. ⊎_elim
                  (λ same.
                  let f_is : f ≡ now = some_is f now (sym is ∙ (ap (slice_get (slice_set s.flows l now)) same ∙ flow_now)) in
                  let held = stands.flows.each m link flow here (ap (slice_get s.flows) same ∙ there.1) in
                  let cap_now : slice_index_or (slice_set capacities l capacity) m 0 ≡ capacity =
                  ap (λ k. slice_index_or (slice_set capacities l capacity) k 0) same ∙ get_or-set_same capacities l capacity 0 place_here in
                  subst (λ g. IsHeld cells link g (slice_index_or (slice_set capacities l capacity) m 0)) (sym f_is) (record {
                    lies = held.lies;
                    capacity_is = sym cap_now;
                    arrived = held.arrived;
                    taken = held.taken;
                    gone = held.gone;
                  }))
                  (λ differ. subst (λ n. IsHeld cells link f n) (sym (get_or-set_other capacities l m capacity 0 differ))
                  (stands.flows.each m link f here (sym (get_set_other s.flows m l now differ) ∙ is)))
                  (cases_eq m l);
            };
            untrapped = stands.untrapped;
          };
        };
        since = record {
          whole = that.since.whole;
          each = λ m link before f here inner was is. ⊎_elim
              (λ same.
              let f_is : f ≡ now = some_is f now (sym is ∙ (ap (slice_get (slice_set s.flows l now)) same ∙ flow_now)) in
              let so = that.since.each m link before flow here inner was (ap (slice_get s.flows) same ∙ there.1) in
              record { all_arrived = so.all_arrived; none_since = ap (λ g. g.arrived) f_is ∙ so.none_since; waited_is = so.waited_is })
              (λ differ. that.since.each m link before f here inner was (sym (get_set_other s.flows m l now differ) ∙ is))
              (cases_eq m l);
        };
      })
    where
      same_waiting : (m : ℕ) (before after flow now : Flow) (flows : List Flow) → slice_get flows l ≡ Some flow → slice_get flows m ≡ Some before
          → slice_get (slice_set flows l now) m ≡ Some after → waiting now ≡ waiting flow → waiting after ≡ waiting before
      same_waiting m before after flow now flows at was is same = ⊎_elim
          (λ here.
          let after_is : after ≡ now = some_is after now (sym is ∙ (ap (slice_get (slice_set flows l now)) here ∙ get_set_same flows l flow now at)) in
          let before_is : before ≡ flow = some_is before flow (sym was ∙ (ap (slice_get flows) here ∙ at)) in
          ap waiting after_is ∙ (same ∙ sym (ap waiting before_is)))
          (λ differ. ap waiting (some_is after before (sym is ∙ (get_set_other flows m l now differ ∙ was))))
          (cases_eq m l)
