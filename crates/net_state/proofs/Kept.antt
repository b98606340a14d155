-- What holds of all that is held stays so.
use Rattle.std.proofs.Common.{◌≡◌, ℕ, zero, suc, ◌+◌, ◌<◌, ◌≤◌, true, false, List, [], ◌∷◌, ◌++◌, ℤ, length, refl, sym, ap, subst, ◌∙◌, arith, length-append, ⊎_elim, append-nil}
use Rattle.std.specs.Prelude.{Some, slice_get, slice_index_or, ◌↔◌}
use Rattle.std.proofs.lemmas.List.{length-map}
use Rattle.rvc_base.specs.declared.scalar.Scalar.TheVariants.{Bool as Truth}
use Rattle.rvc_base.specs.Storing.{conv}
use Rattle.rvc_base.specs.Lawful.{tokens_on}
use Rattle.net_model.specs.declared.wiring.End.{End}
use Rattle.net_model.specs.declared.wiring.End.TheVariants.{Leaf as AtLeaf, Net as AtNet}
use Rattle.net_model.specs.declared.wiring.Link.{Link}
use Rattle.net_model.specs.Network.{is_input, is_outside, is_leaf_port}
use Rattle.net_model.specs.Cell.{Cell, number_on}
use Rattle.net_model.specs.Limits.{max_rate}
use Rattle.net_model.specs.Ready.{OnCell, OutboxHolds, InboxHolds, waiting_at, tokens_of}
use Rattle.net_state.specs.Moving.{SameActors, SameMarks, EachGains, only_to, EachClears, IsInput, IsOutput, IsWriter, AreApart, HasRoomAt, HasRoomUpTo, CanCarry, sent_from, carried, arriving}
use Rattle.net_state.specs.Held.{AreCounted, FitsIn, GivesFew, HasPlace, HasRooms, OnRow, HasShapeOf, IsLeft, IsReader, IsRoomTable, IsWorking, held_of}
use Rattle.net_state.proofs.Gaining.{some_is, there_too, actor_then, other_cell, other_port}
use Rattle.net_state.proofs.Narrowing.{same_shape}
use Rattle.std.proofs.lemmas.Bool.{cases_eq, cases_lt}
use Rattle.net_state.proofs.Coming.{on_cell, on_some, sent_from_stays, by_bool, is_own_port, is_that_port, if_true, if_false}
use Rattle.net_model.specs.Event.{each_flow}
use Rattle.net_state.specs.Standing.{AreHeld, InboxesHold, IsOpened, LeadInside, Stands, after_inside, inside_delivered}
use Rattle.net_state.proofs.Moved.{none_sent, moved_inbox, moved_count, inside_arrived, inside_stands, net_stays, opened_inside}

-- any link, for reading a list within its length
abbrev pub any_link : Link
any_link = record { from = AtNet 0; to = AtNet 0; capacity = 0; kind = Truth }

pub same_of_gains : {X : Type 0} (arriving : ℕ → ℕ → List ℤ) (old new : List (Cell X)) → EachGains arriving old new → SameActors old new
same_of_gains arriving old new gains = record {
  count = gains.count;
  each = λ i before after at there. (gains.each i before after at there).actor;
}

pub same_of_clears : {X : Type 0} (old new : List (Cell X)) → EachClears old new → SameActors old new
same_of_clears old new clears = record {
  count = clears.count;
  each = λ i before after at there. (clears.each i before after at there).actor;
}

pub marks_of_gains : {X : Type 0} (arriving : ℕ → ℕ → List ℤ) (old new : List (Cell X)) → EachGains arriving old new → SameMarks old new
marks_of_gains arriving old new gains i before after at there = (gains.each i before after at there).trapped

pub marks_of_delivery : {X : Type 0} (arriving : ℕ → ℕ → List ℤ) (old mid new : List (Cell X)) → EachGains arriving old mid → EachClears mid new → SameMarks old new
marks_of_delivery arriving old mid new gains clears i before after at there =
    let between = there_too old mid i before (sym gains.count) at in
    (clears.each i between.0 after between.1 there).trapped ∙ (gains.each i before between.0 at between.1).trapped

pub same_then : {X : Type 0} (a b c : List (Cell X)) → SameActors a b → SameActors b c → SameActors a c
same_then a b c one two = record {
  count = two.count ∙ one.count;
  each = λ i before after at there.
      let mid = there_too a b i before (sym one.count) at in
      actor_then before mid.0 after (one.each i before mid.0 at mid.1) (two.each i mid.0 after mid.1 there);
}

module _ {X : Type 0} (old new : List (Cell X)) (same : SameActors old new) where
  pub same_output : (i p : ℕ) → IsOutput old i p → IsOutput new i p
  same_output i p output =
      let on = on_cell (slice_get old i) (λ cell. p < cell.actor.outs) output in
      let later = there_too old new i on.0 (sym same.count) on.1 in
      on_some (slice_get new i) (λ cell. p < cell.actor.outs) later.0 later.1
      (subst (λ actor. p < actor.outs) (sym (same.each i on.0 later.0 on.1 later.1).same_actor) on.2)

  pub same_input : (i p : ℕ) → IsInput old i p → IsInput new i p
  same_input i p input =
      let on = on_cell (slice_get old i) (λ cell. p < cell.actor.ins) input in
      let later = there_too old new i on.0 (sym same.count) on.1 in
      on_some (slice_get new i) (λ cell. p < cell.actor.ins) later.0 later.1
      (subst (λ actor. p < actor.ins) (sym (same.each i on.0 later.0 on.1 later.1).same_actor) on.2)

  pub same_writer : (end : End) → IsWriter old end → IsWriter new end
  same_writer (AtLeaf inst port) writer = same_output inst.0 port writer
  same_writer (AtNet port) writer = tt

  pub same_reader : (end : End) → IsReader old end → IsReader new end
  same_reader (AtLeaf inst port) reader = same_input inst.0 port reader
  same_reader (AtNet port) reader = tt

  pub same_outbox : (end : End) (n : ℕ) → IsWriter old end → OutboxHolds old n end → OutboxHolds new n end
  same_outbox (AtNet port) n writer holds = tt
  same_outbox (AtLeaf inst port) n writer holds =
      let on = on_cell (slice_get old inst.0) (λ cell. port < cell.actor.outs) writer in
      let later = there_too old new inst.0 on.0 (sym same.count) on.1 in
      let enough : n ≤ number_on on.0.outbox_capacities port = subst (λ o. OnCell o (λ cell. n ≤ number_on cell.outbox_capacities port)) on.1 holds in
      let is : number_on later.0.outbox_capacities port ≡ number_on on.0.outbox_capacities port =
      (same.each inst.0 on.0 later.0 on.1 later.1).same_outbox_capacities port on.2 in
      on_some (slice_get new inst.0) (λ cell. n ≤ number_on cell.outbox_capacities port) later.0 later.1 (omega (arith, enough, is))

  pub same_inbox : (end : End) (n : ℕ) → IsReader old end → InboxHolds old n end → InboxHolds new n end
  same_inbox (AtNet port) n reader holds = tt
  same_inbox (AtLeaf inst port) n reader holds =
      let on = on_cell (slice_get old inst.0) (λ cell. port < cell.actor.ins) reader in
      let later = there_too old new inst.0 on.0 (sym same.count) on.1 in
      let enough : n ≤ number_on on.0.inbox_capacities port = subst (λ o. OnCell o (λ cell. n ≤ number_on cell.inbox_capacities port)) on.1 holds in
      let is : number_on later.0.inbox_capacities port ≡ number_on on.0.inbox_capacities port =
      (same.each inst.0 on.0 later.0 on.1 later.1).same_inbox_capacities port on.2 in
      on_some (slice_get new inst.0) (λ cell. n ≤ number_on cell.inbox_capacities port) later.0 later.1 (omega (arith, enough, is))

  pub same_read : (links : List Link) → ((i : ℕ) (cell : Cell X) → slice_get old i ≡ Some cell → (p : ℕ) → p < cell.actor.outs → (0 < number_on cell.outbox_capacities p) ↔ IsLeft links i p)
      → (i : ℕ) (cell : Cell X) → slice_get new i ≡ Some cell → (p : ℕ) → p < cell.actor.outs → (0 < number_on cell.outbox_capacities p) ↔ IsLeft links i p
  same_read links read i after there p low =
      let before = there_too new old i after same.count there in
      let is = same.each i before.0 after before.1 there in
      let low_before : p < before.0.actor.outs = subst (λ actor. p < actor.outs) is.same_actor low in
      subst (λ n. (0 < n) ↔ IsLeft links i p) (sym (is.same_outbox_capacities p low_before)) (read i before.0 before.1 p low_before)

  pub same_few : GivesFew old → GivesFew new
  same_few few i after there =
      let before = there_too new old i after same.count there in
      subst (λ actor. (a p : ℕ) → actor.give a p ≤ max_rate) (sym (same.each i before.0 after before.1 there).same_actor) (few i before.0 before.1)

  -- the table of rooms fits them too
  pub same_widths : (table later : List (List ℕ)) → length table ≡ length old
      → ((i : ℕ) (cell : Cell X) (row : List ℕ) → slice_get old i ≡ Some cell → slice_get table i ≡ Some row → length row ≡ cell.actor.outs)
      → HasShapeOf table later → (i : ℕ) (cell : Cell X) (row : List ℕ) → slice_get new i ≡ Some cell → slice_get later i ≡ Some row → length row ≡ cell.actor.outs
  same_widths table later rows widths shape i after row there is =
      let before = there_too new old i after same.count there in
      let row_before = there_too later table i row shape.rows is in
      shape.widths i row_before.0 row row_before.1 is
      ∙ (widths i before.0 row_before.0 before.1 row_before.1
      ∙ sym (ap (λ actor. actor.outs) (same.each i before.0 after before.1 there).same_actor))

-- a writing end has its place in the table
pub place_of_writer : {X : Type 0} (cells : List (Cell X)) (table : List (List ℕ)) → length table ≡ length cells
    → ((i : ℕ) (cell : Cell X) (row : List ℕ) → slice_get cells i ≡ Some cell → slice_get table i ≡ Some row → length row ≡ cell.actor.outs)
    → (end : End) → IsWriter cells end → HasPlace table end
place_of_writer cells table rows widths (AtNet port) writer = tt
place_of_writer cells table rows widths (AtLeaf inst port) writer =
    let on = on_cell (slice_get cells inst.0) (λ cell. port < cell.actor.outs) writer in
    let row = there_too cells table inst.0 on.0 (sym rows) on.1 in
    let width : length row.0 ≡ on.0.actor.outs = widths inst.0 on.0 row.0 on.1 row.1 in
    subst (λ o. OnRow o (λ r. port < length r)) (sym row.1) (let low : port < on.0.actor.outs = on.2 in let fits : port < length row.0 = omega (arith, width, low) in fits)

-- Deliveries.

-- what comes to the end of a link is what it carries
pub arriving_at : {X : Type 0} (cells : List (Cell X)) (links : List Link) (l : ℕ) (link : Link) (i p : ℕ) → AreApart links
    → slice_get links l ≡ Some link → is_leaf_port i p link.to ≡ true → arriving cells links i p ≡ carried cells link
arriving_at cells [] l link i p apart at leads = cc
arriving_at cells (head ∷ links) zero link i p apart at leads =
    let same : head ≡ link = cc in
    if_true (is_leaf_port i p head.to) (carried cells head) (arriving cells links i p) (ap (λ k. is_leaf_port i p k.to) same ∙ leads) ∙ ap (carried cells) same
arriving_at cells (head ∷ links) (suc l) link i p apart at leads =
    if_false (is_leaf_port i p head.to) (carried cells head) (arriving cells links i p)
    (by_bool (is_leaf_port i p head.to)
    (λ too. absurd (apart zero (suc l) head link (omega arith) refl at (is_that_port i p head.to too ∙ sym (is_that_port i p link.to leads))))
    (λ none. none))
    ∙ arriving_at cells links l link i p (λ m n that other low. apart (suc m) (suc n) that other (omega (arith, low))) at leads

-- what a link carries has room at its end
pub can_carry_of : {X : Type 0} (cells : List (Cell X)) (capacity waited : ℕ) (link : Link) → FitsIn cells capacity waited link → CanCarry cells link
can_carry_of cells capacity waited link fits = record { size = fits.size; writer = fits.writer; room = at_end link.to refl }
  where
    few : length (waiting_at cells link.to) + length (sent_from cells link.from) ≤ capacity
    few = by_from link.from refl
      where
        by_from : (end : End) → link.from ≡ end → length (waiting_at cells link.to) + length (sent_from cells link.from) ≤ capacity
        by_from (AtNet port) from =
            let none : length (sent_from cells link.from) ≡ 0 = ap (λ end. length (sent_from cells end)) from in
            omega (arith, none, fits.waiting)
        by_from (AtLeaf inst port) from = omega (arith, fits.fewer (ap is_outside from), fits.since (ap is_outside from))

    at_end : (end : End) → link.to ≡ end → HasRoomAt cells link.to (length (sent_from cells link.from))
    at_end (AtNet port) to = subst (λ end. HasRoomAt cells end (length (sent_from cells link.from))) (sym to) tt
    at_end (AtLeaf inst port) to =
        let reader : IsInput cells inst.0 port = subst (IsReader cells) to fits.reader in
        let on = on_cell (slice_get cells inst.0) (λ cell. port < cell.actor.ins) reader in
        let holds : OnCell (slice_get cells inst.0) (λ cell. capacity ≤ number_on cell.inbox_capacities port) = subst (InboxHolds cells capacity) to fits.inbox in
        let enough : capacity ≤ number_on on.0.inbox_capacities port = subst (λ o. OnCell o (λ cell. capacity ≤ number_on cell.inbox_capacities port)) on.1 holds in
        let waits : length (waiting_at cells link.to) ≡ length (tokens_on on.0.inboxes port) =
        ap (λ end. length (waiting_at cells end)) to ∙ ap (λ o. length (tokens_of o port)) on.1 in
        subst (λ end. HasRoomAt cells end (length (sent_from cells link.from))) (sym to)
        (on_some (slice_get cells inst.0) (λ cell. (port < cell.actor.ins) × (length (tokens_on cell.inboxes port) + length (sent_from cells link.from) ≤ number_on cell.inbox_capacities port))
        on.0 on.1 (on.2, omega (arith, enough, waits, few)))

module _ {X : Type 0} (old mid new : List (Cell X)) (links : List Link) (capacities waited later : List ℕ) (working : IsWorking old links capacities waited)
    (gains : EachGains (arriving old links) old mid) (clears : EachClears mid new) (counted : AreCounted new links later) where
  pub moved_same : SameActors old new
  moved_same = same_then old mid new (same_of_gains (arriving old links) old mid gains) (same_of_clears mid new clears)

  pub moved_writer : (l : ℕ) (link : Link) → slice_get links l ≡ Some link → IsWriter new link.from
  moved_writer l link at = same_writer old new moved_same link.from (working.fits l link at).writer

  -- what waits at the end of a link
  waits_now : (l : ℕ) (link : Link) → slice_get links l ≡ Some link → (end : End) → link.to ≡ end
      → length (waiting_at new link.to) ≤ slice_index_or capacities l 0
  waits_now l link at (AtNet port) to = let none : length (waiting_at new link.to) ≡ 0 = ap (λ end. length (waiting_at new end)) to in omega (arith, none)
  waits_now l link at (AtLeaf inst port) to =
      let fits = working.fits l link at in
      let reader : IsInput old inst.0 port = subst (IsReader old) to fits.reader in
      let on = on_cell (slice_get old inst.0) (λ cell. port < cell.actor.ins) reader in
      let after = there_too old new inst.0 on.0 (sym (moved_count old mid new links gains clears)) on.1 in
      let leads : is_leaf_port inst.0 port link.to ≡ true = ap (is_leaf_port inst.0 port) to ∙ is_own_port inst.0 port in
      let is : tokens_on after.0.inboxes port ≡ tokens_on on.0.inboxes port ++ carried old link =
      moved_inbox old mid new links gains clears inst.0 port on.0 after.0 on.1 after.1 on.2
      ∙ ap (λ ts. tokens_on on.0.inboxes port ++ ts) (arriving_at old links l link inst.0 port working.apart at leads) in
      let len : length (tokens_on after.0.inboxes port) ≡ length (tokens_on on.0.inboxes port) + length (carried old link) =
      ap (λ ts. length ts) is ∙ length-append (tokens_on on.0.inboxes port) (carried old link) in
      let now : length (waiting_at new link.to) ≡ length (tokens_on after.0.inboxes port) =
      ap (λ end. length (waiting_at new end)) to ∙ ap (λ o. length (tokens_of o port)) after.1 in
      let then_ : length (waiting_at old link.to) ≡ length (tokens_on on.0.inboxes port) =
      ap (λ end. length (waiting_at old end)) to ∙ ap (λ o. length (tokens_of o port)) on.1 in
      let sent : length (carried old link) ≡ length (sent_from old link.from) = length-map (sent_from old link.from) (conv link.kind) in
      by_from link.from refl (omega (arith, len, now, then_, sent))
    where
      by_from : (end : End) → link.from ≡ end → length (waiting_at new link.to) ≡ length (waiting_at old link.to) + length (sent_from old link.from)
          → length (waiting_at new link.to) ≤ slice_index_or capacities l 0
      by_from (AtNet other) from is =
          let none : length (sent_from old link.from) ≡ 0 = ap (λ end. length (sent_from old end)) from in
          omega (arith, none, is, (working.fits l link at).waiting)
      by_from (AtLeaf other out) from is = omega (arith, is, (working.fits l link at).fewer (ap is_outside from), (working.fits l link at).since (ap is_outside from))

  none_from : (end : End) → IsWriter new end → sent_from new end ≡ []
  none_from (AtNet port) writer = refl
  none_from (AtLeaf inst port) writer = none_sent old mid new links gains clears inst.0 port writer

  pub moved_fits : (l : ℕ) (link : Link) → slice_get links l ≡ Some link → FitsIn new (slice_index_or capacities l 0) (slice_index_or later l 0) link
  moved_fits l link at =
      let fits = working.fits l link at in
      let few : length (waiting_at new link.to) ≤ slice_index_or capacities l 0 = waits_now l link at link.to refl in
      let count : slice_index_or later l 0 ≡ length (waiting_at new link.to) = counted.each l link at in
      record {
        size = fits.size;
        writer = moved_writer l link at;
        reader = same_reader old new moved_same link.to fits.reader;
        inside = fits.inside;
        outbox = same_outbox old new moved_same link.from (slice_index_or capacities l 0) fits.writer fits.outbox;
        inbox = same_inbox old new moved_same link.to (slice_index_or capacities l 0) fits.reader fits.inbox;
        waiting = few;
        counted = omega (arith, count, few);
        grown = fits.grown;
        fewer = λ inner. omega (arith, count);
        since = λ inner.
            let none : length (sent_from new link.from) ≡ 0 = ap (λ ts. length ts) (none_from link.from (moved_writer l link at)) in
            omega (arith, count, few, none);
      }

  pub moved_working : IsWorking new links capacities later
  moved_working = record {
    each_holds = working.each_holds;
    each_waited = counted.as_many;
    apart = working.apart;
    fits = moved_fits;
    read = same_read old new moved_same links working.read;
    few_given = same_few old new moved_same working.few_given;
    few_held = working.few_held;
    few_cells = omega (arith, moved_same.count, working.few_cells);
    few_links = working.few_links;
  }

  -- the state that a delivery leads to, and opens
  pub leads_inside : LeadInside (held_of old links capacities waited) (held_of new links capacities later)
  leads_inside net s that =
      let stands : Stands net new capacities (after_inside net s) =
      inside_stands old mid new links gains clears net capacities s that.is_of that.stands moved_writer in
      record {
        now = record { is_of = net_stays old mid new links gains clears net that.is_of; stands = stands };
        since = subst (λ ls. IsOpened ls later (after_inside net s).flows (after_inside net s).flows) (sym that.is_of.links_are)
            (opened_inside new links capacities later (after_inside net s).flows counted working.apart
            (subst (λ ls. AreHeld new ls (after_inside net s).flows capacities) that.is_of.links_are stands.flows)
            (subst (λ ls. InboxesHold new ls (after_inside net s).flows) that.is_of.links_are stands.inboxes)
            (λ l link at. (moved_fits l link at).reader)
            (λ l link flow at inner there. inside_arrived old links s.flows capacities
            (subst (λ ls. AreHeld old ls s.flows capacities) that.is_of.links_are that.stands.flows) l link flow at inner
            (subst (λ ls. slice_get (each_flow inside_delivered ls s.flows) l ≡ Some flow) that.is_of.links_are there)));
      }

-- rooms that are fixed anew after a delivery
pub moved_rooms : {X : Type 0} (old new : List (Cell X)) (links : List Link) (capacities waited later : List ℕ) (table fixed : List (List ℕ))
    → SameActors old new → HasRooms old links capacities waited table → HasShapeOf table fixed → IsRoomTable links capacities later fixed
    → HasRooms new links capacities later fixed
moved_rooms old new links capacities waited later table fixed same had shape rooms = record {
  rows = shape.rows ∙ (had.rows ∙ sym same.count);
  widths = same_widths old new same table fixed had.rows had.widths shape;
  rooms = rooms;
}

-- what a delivery's steps ask, once its cells are delivered
module _ {X : Type 0} (old mid new : List (Cell X)) (links : List Link) (capacities waited later : List ℕ) (working : IsWorking old links capacities waited)
    (gains : EachGains (arriving old links) old mid) (clears : EachClears mid new) where
  steps_same : SameActors old new
  steps_same = same_then old mid new (same_of_gains (arriving old links) old mid gains) (same_of_clears mid new clears)

  pub readers_there : (l : ℕ) (link : Link) → slice_get links l ≡ Some link → IsReader new link.to
  readers_there l link at = same_reader old new steps_same link.to (working.fits l link at).reader

  pub places_there : (table : List (List ℕ)) → HasRooms old links capacities waited table → (l : ℕ) (link : Link) → slice_get links l ≡ Some link → HasPlace table link.from
  places_there table had l link at = place_of_writer old table had.rows had.widths link.from (working.fits l link at).writer

  pub rooms_fit : AreCounted new links later → (l : ℕ) (link : Link) → slice_get links l ≡ Some link → slice_index_or later l 0 ≤ slice_index_or capacities l 0
  rooms_fit counted l link at =
      let fits = moved_fits old mid new links capacities waited later working gains clears counted l link at in
      omega (arith, counted.each l link at, fits.waiting)

-- Tokens from outside.

-- one end of a link gained tokens from outside; it holds at most its capacity
module _ {X : Type 0} (old new : List (Cell X)) (links : List Link) (capacities waited : List ℕ) (working : IsWorking old links capacities waited)
    (l j q : ℕ) (link : Link) (ts : List ℤ) (at : slice_get links l ≡ Some link) (to : link.to ≡ AtLeaf (record { 0 = j }) q) (input : is_input link ≡ true)
    (gains : EachGains (only_to j q ts) old new) (few : length (tokens_of (slice_get new j) q) ≤ slice_index_or capacities l 0) where
  filled_same : SameActors old new
  filled_same = same_of_gains (only_to j q ts) old new gains

  -- elsewhere nothing came
  pub waits_as_before : (end : End) → IsReader old end → (end ≡ link.to → ⊥) → waiting_at new end ≡ waiting_at old end
  waits_as_before (AtNet port) reader differ = refl
  waits_as_before (AtLeaf inst port) reader differ =
      let on = on_cell (slice_get old inst.0) (λ cell. port < cell.actor.ins) reader in
      let after = there_too old new inst.0 on.0 (sym gains.count) on.1 in
      let gained = gains.each inst.0 on.0 after.0 on.1 after.1 in
      ap (λ o. tokens_of o port) after.1
      ∙ (gained.inboxes port on.2
      ∙ (ap (λ us. tokens_on on.0.inboxes port ++ us) nothing
      ∙ (append-nil (tokens_on on.0.inboxes port) ∙ sym (ap (λ o. tokens_of o port) on.1))))
    where
      nothing : only_to j q ts inst.0 port ≡ []
      nothing = ⊎_elim
          (λ same. ⊎_elim
          (λ too. absurd (differ (ap (λ i. AtLeaf (record { 0 = i }) port) same ∙ (ap (λ p. AtLeaf (record { 0 = j }) p) too ∙ sym to))))
          (λ other. other_port j q ts inst.0 port other)
          (cases_eq port q))
          (λ other. other_cell j q ts inst.0 port other)
          (cases_eq inst.0 j)

  filled_sent : (end : End) → IsWriter old end → sent_from new end ≡ sent_from old end
  filled_sent end writer = sent_from_stays (only_to j q ts) old new gains end writer

  filled_fits : (m : ℕ) (other : Link) → slice_get links m ≡ Some other → FitsIn new (slice_index_or capacities m 0) (slice_index_or waited m 0) other
  filled_fits m other there =
      let fits = working.fits m other there in
      record {
        size = fits.size;
        writer = same_writer old new filled_same other.from fits.writer;
        reader = same_reader old new filled_same other.to fits.reader;
        inside = fits.inside;
        outbox = same_outbox old new filled_same other.from (slice_index_or capacities m 0) fits.writer fits.outbox;
        inbox = same_inbox old new filled_same other.to (slice_index_or capacities m 0) fits.reader fits.inbox;
        waiting = ⊎_elim
            (λ same.
            let other_is : other ≡ link = some_is other link (sym there ∙ (ap (slice_get links) same ∙ at)) in
            let waits : length (waiting_at new other.to) ≡ length (tokens_of (slice_get new j) q) = ap (λ k. length (waiting_at new k.to)) other_is ∙ ap (λ end. length (waiting_at new end)) to in
            let holds : slice_index_or capacities m 0 ≡ slice_index_or capacities l 0 = ap (λ k. slice_index_or capacities k 0) same in
            omega (arith, waits, holds, few))
            (λ differ.
            let waits : length (waiting_at new other.to) ≡ length (waiting_at old other.to) = ap (λ us. length us) (waits_as_before other.to fits.reader (apart_ends m other there differ)) in
            omega (arith, waits, fits.waiting))
            (cases_eq m l);
        counted = fits.counted;
        grown = fits.grown;
        fewer = λ inner.
            let waits : length (waiting_at new other.to) ≡ length (waiting_at old other.to) = ap (λ us. length us) (waits_as_before other.to fits.reader (apart_ends m other there (not_it m other there inner))) in
            omega (arith, waits, fits.fewer inner);
        since = λ inner.
            let sent : length (sent_from new other.from) ≡ length (sent_from old other.from) = ap (λ us. length us) (filled_sent other.from fits.writer) in
            omega (arith, sent, fits.since inner);
      }
    where
      not_it : (m : ℕ) (other : Link) → slice_get links m ≡ Some other → is_input other ≡ false → m ≡ l → ⊥
      not_it m other there inner same =
          let other_is : other ≡ link = some_is other link (sym there ∙ (ap (slice_get links) same ∙ at)) in
          let no : true ≡ false = sym input ∙ (sym (ap is_input other_is) ∙ inner) in cc

      apart_ends : (m : ℕ) (other : Link) → slice_get links m ≡ Some other → (m ≡ l → ⊥) → other.to ≡ link.to → ⊥
      apart_ends m other there differ same = ⊎_elim
          (λ low. working.apart m l other link low there at same)
          (λ high. working.apart l m link other (omega (arith, differ, high)) at there (sym same))
          (cases_lt m l)

  pub filled_working : IsWorking new links capacities waited
  filled_working = record {
    each_holds = working.each_holds;
    each_waited = working.each_waited;
    apart = working.apart;
    fits = filled_fits;
    read = same_read old new filled_same links working.read;
    few_given = same_few old new filled_same working.few_given;
    few_held = working.few_held;
    few_cells = omega (arith, filled_same.count, working.few_cells);
    few_links = working.few_links;
  }

  pub filled_rooms : (table : List (List ℕ)) → HasRooms old links capacities waited table → HasRooms new links capacities waited table
  filled_rooms table had = moved_rooms old new links capacities waited waited table table filled_same had (same_shape table) had.rooms

-- Filling: the facts by the link's place.

pub reader_of : {X : Type 0} (cells : List (Cell X)) (links : List Link) (capacities waited : List ℕ) → IsWorking cells links capacities waited
    → (l : ℕ) (link : Link) → slice_get links l ≡ Some link → (j q : ℕ) → link.to ≡ AtLeaf (record { 0 = j }) q → IsInput cells j q
reader_of cells links capacities waited working l link at j q to = subst (IsReader cells) to (working.fits l link at).reader

pub room_up_to : {X : Type 0} (cells : List (Cell X)) (links : List Link) (capacities waited : List ℕ) → IsWorking cells links capacities waited
    → (l : ℕ) (link : Link) → slice_get links l ≡ Some link → (j q : ℕ) → link.to ≡ AtLeaf (record { 0 = j }) q → HasRoomUpTo cells j q (slice_index_or capacities l 0)
room_up_to cells links capacities waited working l link at j q to =
    let fits = working.fits l link at in
    let on = on_cell (slice_get cells j) (λ cell. q < cell.actor.ins) (reader_of cells links capacities waited working l link at j q to) in
    let holds : OnCell (slice_get cells j) (λ cell. slice_index_or capacities l 0 ≤ number_on cell.inbox_capacities q) = subst (InboxHolds cells (slice_index_or capacities l 0)) to fits.inbox in
    let enough : slice_index_or capacities l 0 ≤ number_on on.0.inbox_capacities q =
    subst (λ o. OnCell o (λ cell. slice_index_or capacities l 0 ≤ number_on cell.inbox_capacities q)) on.1 holds in
    let waits : length (waiting_at cells link.to) ≡ length (tokens_on on.0.inboxes q) = ap (λ end. length (waiting_at cells end)) to ∙ ap (λ o. length (tokens_of o q)) on.1 in
    on_some (slice_get cells j) (λ cell. (q < cell.actor.ins) × (length (tokens_on cell.inboxes q) ≤ slice_index_or capacities l 0) × (slice_index_or capacities l 0 ≤ number_on cell.inbox_capacities q))
    on.0 on.1 (on.2, omega (arith, waits, fits.waiting), enough)
