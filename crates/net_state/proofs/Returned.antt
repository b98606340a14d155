-- A token that came over an input link is taken back: the state before it stands.
use Rattle.std.proofs.Common.{◌≡◌, ◌≢◌, ℕ, zero, suc, ◌+◌, ◌-◌, ◌<◌, ◌≤◌, true, false, List, [], ◌∷◌, ◌++◌, ℤ, length, take, drop, map, refl, sym, ap, subst, ◌∙◌, ⊎_elim, arith, append-nil, length-append}
use Rattle.std.specs.Prelude.{Option, None, Some, slice_get, slice_set, slice_index_or}
use Rattle.std.proofs.lemmas.Bool.{cases_eq, cases_lt}
use Rattle.std.proofs.lemmas.List.{length-set, length-take-le, drop-append-le}
use Rattle.std.proofs.Math.Seq.{take-add}
use Rattle.rvc_base.specs.Storing.{conv}
use Rattle.rvc_base.specs.Lawful.{tokens_on}
use Rattle.net_model.specs.declared.wiring.End.{End}
use Rattle.net_model.specs.declared.wiring.End.TheVariants.{Leaf as AtLeaf, Net as AtNet}
use Rattle.net_model.specs.declared.wiring.Link.{Link}
use Rattle.net_model.specs.Network.{Network, is_input, is_output, is_outside, is_leaf_port}
use Rattle.net_model.specs.State.{Flow, State, waiting}
use Rattle.net_model.specs.Event.{after_arrival}
use Rattle.net_model.specs.Cell.{Cell}
use Rattle.net_model.specs.Ready.{tokens_of, waiting_at}
use Rattle.net_state.specs.Moving.{AreApart, EachGains, IsWriter, SameActors, SameMarks, only_to, sent_from}
use Rattle.net_state.specs.Held.{HasRooms, IsReader, IsWorking, held_of}
use Rattle.net_state.specs.Filling.{AtPort}
use Rattle.net_state.specs.Standing.{IsHeld, LiesIn, StandsIn}
use Rattle.net_state.specs.Working.{IsAtRest}
use Rattle.net_state.specs.TakingBack.{TakesBack, waits_at, with_arrival}
use Rattle.net_state.proofs.Gaining.{some_is, there_too, get_set_same, get_set_other, only_there, other_cell, other_port}
use Rattle.net_state.proofs.Coming.{by_bool, if_true, if_false, is_own_port, on_cell, sent_from_stays, sent_stays}
use Rattle.net_state.proofs.Flows.{inbox_at, inbox_beside}
use Rattle.net_state.proofs.Kept.{moved_rooms, same_few, same_inbox, same_of_gains, same_outbox, same_read, same_reader, same_writer}
use Rattle.net_state.proofs.Moved.{same_part}
use Rattle.net_state.proofs.Narrowing.{same_shape}

-- the same actors, the other way round
same_back : {X : Type 0} (old new : List (Cell X)) → SameActors old new → SameActors new old
same_back old new same = record {
  count = sym same.count;
  each = λ i before after was is.
      let one = same.each i after before is was in
      record {
        same_actor = sym one.same_actor;
        same_inbox_capacities = λ p low. sym (one.same_inbox_capacities p (subst (λ actor. p < actor.ins) one.same_actor low));
        same_outbox_capacities = λ p low. sym (one.same_outbox_capacities p (subst (λ actor. p < actor.outs) one.same_actor low));
        same_journal_room = sym one.same_journal_room;
      };
}

-- what ends two lists that are the same
last_of : (xs ys : List ℤ) (a b : ℤ) → xs ++ a ∷ [] ≡ ys ++ b ∷ [] → (xs ≡ ys) × (a ≡ b)
last_of [] [] a b same = (refl, first a b [] [] same)
  where
    first : (a b : ℤ) (us vs : List ℤ) → a ∷ us ≡ b ∷ vs → a ≡ b
    first a b us vs e = cc
last_of [] (y ∷ ys) a b same =
    let long : length (ys ++ b ∷ []) ≡ length ys + 1 = length-append ys (b ∷ []) in
    let none : 1 ≡ suc (length (ys ++ b ∷ [])) = ap (λ us. length us) same in
    absurd (omega (arith, long, none))
last_of (x ∷ xs) [] a b same =
    let long : length (xs ++ a ∷ []) ≡ length xs + 1 = length-append xs (a ∷ []) in
    let none : suc (length (xs ++ a ∷ [])) ≡ 1 = ap (λ us. length us) same in
    absurd (omega (arith, long, none))
last_of (x ∷ xs) (y ∷ ys) a b same =
    let head : x ≡ y = first x y (xs ++ a ∷ []) (ys ++ b ∷ []) same in
    let rest = last_of xs ys a b (ap (drop 1) same) in
    (ap (λ z. z ∷ xs) head ∙ ap (λ us. y ∷ us) rest.0, rest.1)
  where
    first : (a b : ℤ) (us vs : List ℤ) → a ∷ us ≡ b ∷ vs → a ≡ b
    first a b us vs e = cc

-- the first of what is left is there
first_left : (n : ℕ) (xs : List ℤ) → n < length xs → (x : ℤ) × (take 1 (drop n xs) ≡ x ∷ []) × (slice_get xs n ≡ Some x)
first_left n [] low = absurd (omega (arith, low))
first_left zero (x ∷ xs) low = (x, refl, refl)
first_left (suc n) (x ∷ xs) low = first_left n xs (omega (arith, low))

-- what waits once one more has arrived
waits_one_more : (link : Link) (flow : Flow) → is_output link ≡ false → flow.taken ≤ flow.arrived → flow.arrived ≤ length flow.sent
    → waiting (after_arrival 1 link flow) ≡ waiting flow ++ take 1 (drop flow.arrived flow.sent)
waits_one_more link flow inner before within =
    let len : length (take flow.arrived flow.sent) ≡ flow.arrived = length-take-le flow.arrived flow.sent within in
    ap (λ n. drop n (take (flow.arrived + 1) flow.sent)) (if_false (is_output link) (flow.taken + 1) flow.taken inner)
    ∙ (ap (drop flow.taken) (take-add flow.arrived 1 flow.sent)
    ∙ drop-append-le flow.taken (take flow.arrived flow.sent) (take 1 (drop flow.arrived flow.sent)) (omega (arith, len, before)))

module _ {X : Type 0} (old new : List (Cell X)) (links : List Link) (capacities waited : List ℕ) (working : IsWorking old links capacities waited)
    (l j q : ℕ) (link : Link) (token : ℤ) (at : slice_get links l ≡ Some link) (to : link.to ≡ AtLeaf (record { 0 = j }) q) (input : is_input link ≡ true)
    (gains : EachGains (only_to j q (token ∷ [])) new old) where
  pub taken_same : SameActors old new
  taken_same = same_back new old (same_of_gains (only_to j q (token ∷ [])) new old gains)

  pub taken_marks : SameMarks old new
  taken_marks i before after was is = sym (gains.each i after before is was).trapped

  -- before each port no more wait
  fewer_wait : (end : End) → IsReader old end → length (waiting_at new end) ≤ length (waiting_at old end)
  fewer_wait (AtNet port) reader = omega arith
  fewer_wait (AtLeaf inst port) reader =
      let on = on_cell (slice_get old inst.0) (λ cell. port < cell.actor.ins) reader in
      let after = there_too old new inst.0 on.0 gains.count on.1 in
      let gained = gains.each inst.0 after.0 on.0 after.1 on.1 in
      let low : port < after.0.actor.ins = subst (λ actor. port < actor.ins) gained.actor.same_actor on.2 in
      let longer : length (tokens_on on.0.inboxes port) ≡ length (tokens_on after.0.inboxes port) + length (only_to j q (token ∷ []) inst.0 port) =
      ap (λ us. length us) (gained.inboxes port low) ∙ length-append (tokens_on after.0.inboxes port) (only_to j q (token ∷ []) inst.0 port) in
      let was : length (waiting_at old (AtLeaf inst port)) ≡ length (tokens_on on.0.inboxes port) = ap (λ o. length (tokens_of o port)) on.1 in
      let is : length (waiting_at new (AtLeaf inst port)) ≡ length (tokens_on after.0.inboxes port) = ap (λ o. length (tokens_of o port)) after.1 in
      omega (arith, longer, was, is)

  sent_as_before : (end : End) → IsWriter old end → sent_from new end ≡ sent_from old end
  sent_as_before end writer = sym (sent_from_stays (only_to j q (token ∷ [])) new old gains end (same_writer old new taken_same end writer))

  pub taken_working : IsWorking new links capacities waited
  taken_working = record {
    each_holds = working.each_holds;
    each_waited = working.each_waited;
    apart = working.apart;
    fits = λ m other there.
        let fits = working.fits m other there in
        let fewer = fewer_wait other.to fits.reader in
        record {
          size = fits.size;
          writer = same_writer old new taken_same other.from fits.writer;
          reader = same_reader old new taken_same other.to fits.reader;
          inside = fits.inside;
          outbox = same_outbox old new taken_same other.from (slice_index_or capacities m 0) fits.writer fits.outbox;
          inbox = same_inbox old new taken_same other.to (slice_index_or capacities m 0) fits.reader fits.inbox;
          waiting = omega (arith, fewer, fits.waiting);
          counted = fits.counted;
          grown = fits.grown;
          fewer = λ inner. omega (arith, fewer, fits.fewer inner);
          since = λ inner.
              let sent : length (sent_from new other.from) ≡ length (sent_from old other.from) = ap (λ us. length us) (sent_as_before other.from fits.writer) in
              omega (arith, sent, fits.since inner);
        };
    read = same_read old new taken_same links working.read;
    few_given = same_few old new taken_same working.few_given;
    few_held = working.few_held;
    few_cells = omega (arith, taken_same.count, working.few_cells);
    few_links = working.few_links;
  }

  pub taken_rooms : (table : List (List ℕ)) → HasRooms old links capacities waited table → HasRooms new links capacities waited table
  taken_rooms table had = moved_rooms old new links capacities waited waited table table taken_same had (same_shape table) had.rooms

  -- one waits less before the port to which the link leads
  pub one_waits_less : waits_at new (slice_get links l) + 1 ≡ waits_at old (slice_get links l)
  one_waits_less =
      let on = on_cell (slice_get old j) (λ cell. q < cell.actor.ins) (subst (IsReader old) to (working.fits l link at).reader) in
      let after = there_too old new j on.0 gains.count on.1 in
      let gained = gains.each j after.0 on.0 after.1 on.1 in
      let low : q < after.0.actor.ins = subst (λ actor. q < actor.ins) gained.actor.same_actor on.2 in
      let longer : length (tokens_on on.0.inboxes q) ≡ length (tokens_on after.0.inboxes q) + 1 =
      ap (λ us. length us) (gained.inboxes q low ∙ ap (λ us. tokens_on after.0.inboxes q ++ us) (only_there j q (token ∷ []))) ∙ length-append (tokens_on after.0.inboxes q) (token ∷ []) in
      let was : waits_at old (slice_get links l) ≡ length (tokens_on on.0.inboxes q) = ap (waits_at old) at ∙ (ap (λ end. length (waiting_at old end)) to ∙ ap (λ o. length (tokens_of o q)) on.1) in
      let is : waits_at new (slice_get links l) ≡ length (tokens_on after.0.inboxes q) = ap (waits_at new) at ∙ (ap (λ end. length (waiting_at new end)) to ∙ ap (λ o. length (tokens_of o q)) after.1) in
      omega (arith, longer, was, is)

  -- The state before it.

  module _ (net : Network X) (s : State X) (flow : Flow) (at_net : slice_get net.links l ≡ Some link) (there : slice_get s.flows l ≡ Some flow)
      (before : flow.taken ≤ flow.arrived) (within : flow.arrived < length flow.sent) (stood : StandsIn net (held_of old links capacities waited) (with_arrival s l link flow)) where
    abbrev now : Flow
    now = after_arrival 1 link flow

    not_out : is_output link ≡ false
    not_out = ap is_outside to

    apart_here : AreApart net.links
    apart_here = subst AreApart (sym stood.is_of.links_are) working.apart

    flow_now : slice_get (slice_set s.flows l now) l ≡ Some now
    flow_now = get_set_same s.flows l flow now there

    one : (x : ℤ) × (take 1 (drop flow.arrived flow.sent) ≡ x ∷ []) × (slice_get flow.sent flow.arrived ≡ Some x)
    one = first_left flow.arrived flow.sent within

    waits_now : waiting now ≡ waiting flow ++ one.0 ∷ []
    waits_now = waits_one_more link flow not_out before (omega (arith, within)) ∙ ap (λ us. waiting flow ++ us) one.1

    -- what is before a port to which the link leads
    ends_alike : (i p : ℕ) (cell : Cell X) → slice_get new i ≡ Some cell → p < cell.actor.ins → is_leaf_port i p link.to ≡ true
        → (tokens_on cell.inboxes p ≡ waiting flow) × (token ≡ one.0)
    ends_alike i p cell is low leads =
        let was = there_too new old i cell (sym gains.count) is in
        let gained = gains.each i cell was.0 is was.1 in
        let low_was : p < was.0.actor.ins = subst (λ actor. p < actor.ins) (sym gained.actor.same_actor) low in
        last_of (tokens_on cell.inboxes p) (waiting flow) token one.0
        (ap (λ us. tokens_on cell.inboxes p ++ us) (sym (if_true (is_leaf_port i p (AtLeaf (record { 0 = j }) q)) (token ∷ []) [] (sym (ap (is_leaf_port i p) to) ∙ leads)))
        ∙ (sym (gained.inboxes p low)
        ∙ (stood.stands.inboxes i was.0 was.1 p low_was
        ∙ (inbox_at i p net.links (slice_set s.flows l now) l link now apart_here at_net flow_now leads ∙ waits_now))))

    lies_back : (other : Link) (tokens : List ℤ) (end : End) → IsWriter old end → LiesIn old other tokens end → LiesIn new other tokens end
    lies_back other tokens (AtNet port) writer lies = tt
    lies_back other tokens (AtLeaf inst port) writer lies =
        lies ∙ ap (map (conv other.kind)) (sent_stays (only_to j q (token ∷ [])) new old gains inst.0 port (same_writer old new taken_same (AtLeaf inst port) writer))

    lies_outside : (end : End) → link.from ≡ end → LiesIn new link (drop flow.arrived flow.sent) end
    lies_outside (AtNet port) from = tt
    lies_outside (AtLeaf inst port) from = (let no : true ≡ false = sym input ∙ ap is_outside from in absurd (let none : ⊥ = cc in none))

    pub stands_back : StandsIn net (held_of new links capacities waited) s
    stands_back = record {
      is_of = record {
        actors = stood.is_of.actors ∙ same_part (λ cell. cell.actor) new old gains.count (λ i before after was is. (gains.each i before after was is).actor.same_actor);
        links_are = stood.is_of.links_are;
      };
      stands = record {
        actors = record {
          count = stood.stands.actors.count ∙ gains.count;
          each = λ i cell is free.
              let was = there_too new old i cell (sym gains.count) is in
              let gained = gains.each i cell was.0 is was.1 in
              stood.stands.actors.each i was.0 was.1 (gained.trapped ∙ free) ∙ ap Some gained.state;
        };
        inboxes = λ i cell is p low.
            let was = there_too new old i cell (sym gains.count) is in
            let gained = gains.each i cell was.0 is was.1 in
            let low_was : p < was.0.actor.ins = subst (λ actor. p < actor.ins) (sym gained.actor.same_actor) low in
            by_bool (is_leaf_port i p link.to)
            (λ leads. (ends_alike i p cell is low leads).0 ∙ sym (inbox_at i p net.links s.flows l link flow apart_here at_net there leads))
            (λ leads.
            sym (append-nil (tokens_on cell.inboxes p))
            ∙ (ap (λ us. tokens_on cell.inboxes p ++ us) (sym (if_false (is_leaf_port i p (AtLeaf (record { 0 = j }) q)) (token ∷ []) [] (sym (ap (is_leaf_port i p) to) ∙ leads)))
            ∙ (sym (gained.inboxes p low)
            ∙ (stood.stands.inboxes i was.0 was.1 p low_was ∙ inbox_beside i p net.links s.flows l link now at_net leads))));
        flows = record {
          count = sym (length-set s.flows l now) ∙ stood.stands.flows.count;
          each = λ m other that here is. ⊎_elim
              (λ same.
              let other_is : other ≡ link = some_is other link (sym here ∙ (ap (slice_get net.links) same ∙ at_net)) in
              let that_is : that ≡ flow = some_is that flow (sym is ∙ (ap (slice_get s.flows) same ∙ there)) in
              let held = stood.stands.flows.each l link now at_net flow_now in
              subst (λ k. IsHeld new k that (slice_index_or capacities m 0)) (sym other_is)
              (subst (λ f. IsHeld new link f (slice_index_or capacities m 0)) (sym that_is)
              (subst (λ k. IsHeld new link flow (slice_index_or capacities k 0)) (sym same) (record {
                lies = lies_outside link.from refl;
                capacity_is = held.capacity_is;
                arrived = omega (arith, within);
                taken = before;
                gone = λ out. (let no : true ≡ false = sym out ∙ not_out in absurd (let none : ⊥ = cc in none));
              }))))
              (λ differ.
              let held = stood.stands.flows.each m other that here (get_set_other s.flows m l now differ ∙ is) in
              let at_held : slice_get links m ≡ Some other = sym (ap (λ ls. slice_get ls m) stood.is_of.links_are) ∙ here in
              record {
                lies = lies_back other (drop that.arrived that.sent) other.from (working.fits m other at_held).writer held.lies;
                capacity_is = held.capacity_is;
                arrived = held.arrived;
                taken = held.taken;
                gone = held.gone;
              })
              (cases_eq m l);
        };
        untrapped = stood.stands.untrapped;
      };
    }

    pub token_back : slice_get flow.sent flow.arrived ≡ Some token
    token_back =
        let on = on_cell (slice_get old j) (λ cell. q < cell.actor.ins) (subst (IsReader old) to (working.fits l link at).reader) in
        let now_there = there_too old new j on.0 gains.count on.1 in
        let low : q < now_there.0.actor.ins = subst (λ actor. q < actor.ins) ((gains.each j now_there.0 on.0 now_there.1 on.1).actor.same_actor) on.2 in
        one.2 ∙ ap Some (sym (ends_alike j q now_there.0 now_there.1 low (ap (is_leaf_port j q) to ∙ is_own_port j q)).1)

  pub takes_back : TakesBack l token (held_of old links capacities waited) (held_of new links capacities waited)
  takes_back net s other flow at_net there before within stood =
      let same : other ≡ link = some_is other link (sym at_net ∙ (ap (λ ls. slice_get ls l) stood.is_of.links_are ∙ at)) in
      let at_link : slice_get net.links l ≡ Some link = at_net ∙ ap Some same in
      let stood_so : StandsIn net (held_of old links capacities waited) (with_arrival s l link flow) = subst (λ k. StandsIn net (held_of old links capacities waited) (with_arrival s l k flow)) same stood in
      (stands_back net s flow at_link there before within stood_so, token_back net s flow at_link there before within stood_so)

-- where tokens came over one link, as many wait on each other one as before
pub waits_elsewhere : {X : Type 0} (old new : List (Cell X)) (links : List Link) (capacities waited : List ℕ) (working : IsWorking old links capacities waited) (l j q : ℕ) (link : Link) (ts : List ℤ)
    → slice_get links l ≡ Some link → link.to ≡ AtLeaf (record { 0 = j }) q → EachGains (only_to j q ts) old new
    → (m : ℕ) → m ≢ l → waits_at new (slice_get links m) ≡ waits_at old (slice_get links m)
waits_elsewhere {X} old new links capacities waited working l j q link ts at to gains m differ = by_link (slice_get links m) refl
  where
    by_end : (other : Link) (end : End) → other.to ≡ end → slice_get links m ≡ Some other → IsReader old end → waiting_at new end ≡ waiting_at old end
    by_end other (AtNet port) that there reader = refl
    by_end other (AtLeaf inst port) that there reader =
        let apart : other.to ≢ link.to = λ same. ⊎_elim
        (λ low. working.apart m l other link low there at same)
        (λ high. working.apart l m link other (omega (arith, differ, high)) at there (sym same))
        (cases_lt m l) in
        let on = on_cell (slice_get old inst.0) (λ cell. port < cell.actor.ins) reader in
        let after = there_too old new inst.0 on.0 (sym gains.count) on.1 in
        let gained = gains.each inst.0 on.0 after.0 on.1 after.1 in
        let nothing : only_to j q ts inst.0 port ≡ [] = ⊎_elim
        (λ same. ⊎_elim
        (λ too. absurd (apart (that ∙ (ap (λ i. AtLeaf (record { 0 = i }) port) same ∙ (ap (λ p. AtLeaf (record { 0 = j }) p) too ∙ sym to)))))
        (λ beside. other_port j q ts inst.0 port beside)
        (cases_eq port q))
        (λ beside. other_cell j q ts inst.0 port beside)
        (cases_eq inst.0 j) in
        ap (λ o. tokens_of o port) after.1
        ∙ (gained.inboxes port on.2
        ∙ (ap (λ us. tokens_on on.0.inboxes port ++ us) nothing
        ∙ (append-nil (tokens_on on.0.inboxes port) ∙ sym (ap (λ o. tokens_of o port) on.1))))

    by_link : (o : Option Link) → slice_get links m ≡ o → waits_at new o ≡ waits_at old o
    by_link None there = refl
    by_link (Some other) there = ap (λ us. length us) (by_end other other.to refl there (working.fits m other there).reader)

-- a network at rest stays at rest
pub taken_rests : {X : Type 0} (old new : List (Cell X)) (links : List Link) (capacities waited : List ℕ) (working : IsWorking new links capacities waited) (l j q : ℕ) (link : Link) (token : ℤ)
    → slice_get links l ≡ Some link → link.to ≡ AtLeaf (record { 0 = j }) q → is_input link ≡ true → EachGains (only_to j q (token ∷ [])) new old
    → IsAtRest (held_of old links capacities waited) → IsAtRest (held_of new links capacities waited)
taken_rests old new links capacities waited working l j q link token at to input gains rest = record {
  all_out = λ i after is.
      let was = there_too new old i after (sym gains.count) is in
      let gained = gains.each i after was.0 is was.1 in
      let out = rest.all_out i was.0 was.1 in (
        (λ p low. sym (gained.outboxes p low) ∙ out.0 p (subst (λ actor. p < actor.outs) (sym gained.actor.same_actor) low)),
        sym gained.journal ∙ out.1,
      );
  counted = λ m other there inner.
      let differ : m ≢ l = λ same.
      (let other_is : other ≡ link = some_is other link (sym there ∙ (ap (slice_get links) same ∙ at)) in
      let no : true ≡ false = sym input ∙ (sym (ap is_input other_is) ∙ inner) in cc) in
      let was : waits_at old (slice_get links m) ≡ length (waiting_at old other.to) = ap (waits_at old) there in
      let is : waits_at new (slice_get links m) ≡ length (waiting_at new other.to) = ap (waits_at new) there in
      rest.counted m other there inner ∙ (sym was ∙ (waits_elsewhere new old links capacities waited working l j q link (token ∷ []) at to gains m differ ∙ is));
}

-- The same by the port to which the link leads.

pub record IsBack {X : Type 0} (old new : List (Cell X)) (links : List Link) (capacities waited : List ℕ) (l : ℕ) (token : ℤ) : Type 0 where
  pub working : IsWorking new links capacities waited
  pub rooms : (table : List (List ℕ)) → HasRooms old links capacities waited table → HasRooms new links capacities waited table
  pub back : TakesBack l token (held_of old links capacities waited) (held_of new links capacities waited)
  pub same : SameActors old new
  pub marks : SameMarks old new
  pub rests : IsAtRest (held_of old links capacities waited) → IsAtRest (held_of new links capacities waited)
  pub here : waits_at new (slice_get links l) + 1 ≡ waits_at old (slice_get links l)
  pub elsewhere : (m : ℕ) → m ≢ l → waits_at new (slice_get links m) ≡ waits_at old (slice_get links m)

pub back_at : {X : Type 0} (old new : List (Cell X)) (links : List Link) (capacities waited : List ℕ) (working : IsWorking old links capacities waited) (l : ℕ) (link : Link) (token : ℤ)
    → slice_get links l ≡ Some link → is_input link ≡ true → AtPort link (λ (that : Link) (j : ℕ) (q : ℕ). EachGains (only_to j q (token ∷ [])) new old) link.to
    → IsBack old new links capacities waited l token
back_at {X} old new links capacities waited working l link token at input gained = by_end link.to refl gained
  where
    by_end : (end : End) → link.to ≡ end → AtPort link (λ (that : Link) (j : ℕ) (q : ℕ). EachGains (only_to j q (token ∷ [])) new old) end → IsBack old new links capacities waited l token
    by_end (AtNet port) to gained = absurd gained
    by_end (AtLeaf inst port) to gained = record {
      working = taken_working old new links capacities waited working l inst.0 port link token at to input gained;
      rooms = taken_rooms old new links capacities waited working l inst.0 port link token at to input gained;
      back = takes_back old new links capacities waited working l inst.0 port link token at to input gained;
      same = taken_same old new links capacities waited working l inst.0 port link token at to input gained;
      marks = taken_marks old new links capacities waited working l inst.0 port link token at to input gained;
      rests = taken_rests old new links capacities waited (taken_working old new links capacities waited working l inst.0 port link token at to input gained) l inst.0 port link token at to input gained;
      here = one_waits_less old new links capacities waited working l inst.0 port link token at to input gained;
      elsewhere = λ m differ. sym (waits_elsewhere new old links capacities waited (taken_working old new links capacities waited working l inst.0 port link token at to input gained) l inst.0 port link (token ∷ []) at to gained m differ);
    }
