-- What is to come over input links where tokens were taken back, and a delivery behind what stacks have.
use Rattle.std.proofs.Common.{◌≡◌, ℕ, ◌+◌, ◌-◌, ◌^◌, ◌<◌, ◌≤◌, ◌⊎◌, min, true, false, List, [], ◌++◌, ℤ, length, drop, refl, sym, ap, subst, ◌∙◌, inl, inr, ⊎_elim, arith, append-nil}
use Rattle.std.specs.Prelude.{Option, None, Some, slice_get, slice_index_or}
use Rattle.std.proofs.lemmas.Bool.{cases_lt}
use Rattle.std.proofs.lemmas.List.{length-map}
use Rattle.rvc_io.specs.Feeds.{Inputs}
use Rattle.port_files.specs.Coming.{Reading}
use Rattle.token_ring.specs.Queue.{Queue}
use Rattle.net_model.specs.declared.wiring.Link.{Link}
use Rattle.net_model.specs.Network.{NetPort, Network, is_input}
use Rattle.net_model.specs.State.{Flow, State, untaken}
use Rattle.net_model.specs.Cell.{Cell}
use Rattle.net_model.specs.Counted.{is_short, rest_at}
use Rattle.net_model.specs.Event.{after_arrival}
use Rattle.net_model.specs.Trace.{after_delivery, arrivals, delivered}
use Rattle.net_model.specs.Wired.{IsWired}
use Rattle.net_state.specs.declared.filling.Filled.{Filled}
use Rattle.net_state.specs.Held.{Held, HoldFew}
use Rattle.net_state.specs.Standing.{StandsIn, StandsSince, unarrived}
use Rattle.net_state.specs.TakingBack.{NoMoreWait, down, waits_at, waits_on}
use Rattle.net_state.specs.Working.{AreFed}
use Rattle.net_state.proofs.Coming.{by_bool}
use Rattle.round_runner.specs.Running.{AreFedBy, feed_of}
use Rattle.network_runner.specs.Delivering.{Delivers, IsDelivered}
use Rattle.network_runner.specs.Filling.{CameOn, CameOver, TellsRest}
use Rattle.network_runner.proofs.Begun.{map_index}
use Rattle.network_runner.proofs.Delivered.{comes_as}
use Rattle.network_runner.proofs.Flowing.{AllGoneOn, GoneOn}
use Rattle.trace_replay.specs.Ending.{SameOnInputs}
use Rattle.trace_replay.specs.Holding.{AreEmpty, AreFedBehind, AreFresh, CountsOnePut, CountsPut, DeliversHeld, FitStacks, FitTaken, FitsStack, PutsEach, ahead, ahead_by, counts_of, rooms_of, stacked, tokens_of_stacks}
use Rattle.trace_replay.specs.declared.holding.TakenBack.{TakenBack}
use Rattle.trace_replay.proofs.Ahead.{after_ahead, ahead_at, ahead_in, ahead_none, ahead_out, arrivals_ahead, delivered_ahead, left_ahead, sent_ahead}
use Rattle.trace_replay.proofs.Chained.{There, there}
use Rattle.trace_replay.proofs.Stacks.{empty_at}
use Rattle.trace_replay.proofs.Waits.{capacity_held, inside_input, waits_untaken}

unarrived_at : {o : Option Flow} (flow : Flow) → o ≡ Some flow → unarrived o ≡ drop flow.arrived flow.sent
unarrived_at flow at = ap unarrived at

-- the same is to come where what hasn't arrived stays
pub behind_still : {X : Type 0} (net : Network X) (inputs : List (List ℕ)) (s t : State X) (stacks : List (List ℤ)) (readings : List (Option Reading)) (feeds : Inputs)
    → ((l : ℕ) (link : Link) → slice_get net.links l ≡ Some link → is_input link ≡ true → unarrived (slice_get t.flows l) ≡ unarrived (slice_get s.flows l))
    → AreFedBehind net inputs s stacks readings feeds → AreFedBehind net inputs t stacks readings feeds
behind_still net inputs s t stacks readings feeds same fed = record {
  later = fed.later;
  behind = record { each = λ l link at input. same l link at input ∙ fed.behind.each l link at input };
  fed = fed.fed;
}

-- .. as where nothing came over them
pub unarrived_still : {X : Type 0} (net : Network X) (s t : State X) (n : ℕ) → length s.flows ≡ length net.links → length t.flows ≡ length net.links → AllGoneOn n net s t
    → (l : ℕ) (link : Link) → slice_get net.links l ≡ Some link → is_input link ≡ true → unarrived (slice_get t.flows l) ≡ unarrived (slice_get s.flows l)
unarrived_still net s t n whole whole_now gone l link at input =
    let before : There s.flows l = there net.links s.flows l link whole at in
    let now : There t.flows l = there net.links t.flows l link whole_now at in
    let on : GoneOn n link before.item now.item = gone l link before.item now.item at before.at now.at in
    let same : now.item.sent ≡ before.item.sent = on.sent ∙ (ap (λ ts. before.item.sent ++ ts) (on.from_outside input) ∙ append-nil before.item.sent) in
    unarrived_at now.item now.at ∙ (ap (λ a. drop a now.item.sent) on.arrived ∙ (ap (drop before.item.arrived) same ∙ sym (unarrived_at before.item before.at)))

-- where no stack has anything, feeds have all that is to come
pub behind_none : {X : Type 0} (net : Network X) (inputs : List (List ℕ)) (s : State X) (stacks : List (List ℤ)) (readings : List (Option Reading)) (feeds : Inputs) → AreEmpty stacks
    → AreFedBy net inputs s readings feeds → AreFedBehind net inputs s stacks readings feeds
behind_none net inputs s stacks readings feeds none fed = record {
  later = s;
  behind = record { each = λ l link at input. ap (λ ts. down ts (unarrived (slice_get s.flows l))) (sym (none l)) };
  fed = fed;
}

pub fed_as : {X : Type 0} (net : Network X) (inputs : List (List ℕ)) (s t : State X) (readings : List (Option Reading)) (feeds : Inputs)
    → ((l : ℕ) (link : Link) → slice_get net.links l ≡ Some link → is_input link ≡ true → unarrived (slice_get t.flows l) ≡ unarrived (slice_get s.flows l))
    → AreFedBy net inputs s readings feeds → AreFedBy net inputs t readings feeds
fed_as net inputs s t readings feeds same fed l link at input =
    comes_as s t l (feed_of net.links l) (rest_at net.ins inputs link.from) link (slice_get readings l) feeds (same l link at input) (fed l link at input)

pub fed_none : {X : Type 0} (net : Network X) (inputs : List (List ℕ)) (s : State X) (stacks : List (List ℤ)) (readings : List (Option Reading)) (feeds : Inputs) → AreEmpty stacks
    → AreFedBehind net inputs s stacks readings feeds → AreFedBy net inputs s readings feeds
fed_none net inputs s stacks readings feeds none fed = fed_as net inputs fed.later s readings feeds
    (λ l link at input. fed.behind.each l link at input ∙ ap (λ ts. down ts (unarrived (slice_get fed.later.flows l))) (none l)) fed.fed

-- a delivery where nothing was taken back
pub delivers_none : {X : Type 0} (old new : Held (Cell X)) (stacks : List (List ℤ)) (before after : List (Option Reading)) (feeds_old feeds_new : Inputs) (came : List Filled) → AreEmpty stacks
    → Delivers old new before after feeds_old feeds_new came → DeliversHeld old new stacks before after feeds_old feeds_new came
delivers_none old new stacks before after feeds_old feeds_new came none delivers = record {
  states = λ net inputs s stands wired fed. delivers.states net inputs s stands wired (fed_none net inputs s stacks before feeds_old none fed);
  rests = delivers.rests;
}

-- What came over a link, where some had arrived ahead.

came_over : (rest : ℕ) (link : Link) (flow later : Flow) (n : ℕ) (before after : Filled) → delivered link later ≡ delivered link flow → n + arrivals link later ≡ arrivals link flow → later.capacity ≡ flow.capacity
    → arrivals link flow < 2 ^ 32 → (1 ≤ n → untaken (delivered link flow) ≤ flow.capacity) → CountsOnePut n before after → CameOver rest link later before → CameOver rest link flow after
came_over rest link flow later n before after same all as_much few fits counts told =
    let tokens : after.tokens ≡ before.tokens + n = counts.tokens (omega (arith, all, few, told.tokens)) in
    record {
      tokens = omega (arith, tokens, all, told.tokens);
      rest_told = subst (λ r. TellsRest rest (is_short (Some (delivered link flow))) r) (sym counts.rest) (subst (λ (f : Flow). TellsRest rest (is_short (Some f)) before.rest) same told.rest_told);
      few = ⊎_elim
          (λ (none : n < 1). ⊎_elim
          (λ (zero_came : before.tokens ≡ 0). let sum : after.tokens ≡ 0 = omega (arith, tokens, none, zero_came) in inl sum)
          (λ (low : untaken (delivered link later) ≤ later.capacity).
          let is : untaken (delivered link later) ≡ untaken (delivered link flow) = ap untaken same in
          let fit : untaken (delivered link flow) ≤ flow.capacity = omega (arith, low, is, as_much) in
          inr fit)
          told.few)
          (λ (some : 1 ≤ n). inr (fits some))
          (cases_lt n 1);
    }

none_came : (n : ℕ) (before after : Filled) → n ≡ 0 → CountsOnePut n before after → (before.tokens ≡ 0) × (before.rest ≡ None) → (after.tokens ≡ 0) × (after.rest ≡ None)
none_came n before after none counts told =
    let low : before.tokens + n < 2 ^ 32 = omega (arith, none, told.0) in
    let tokens : after.tokens ≡ before.tokens + n = counts.tokens low in
    (omega (arith, tokens, none, told.0), counts.rest ∙ told.1)

came_there : (ports : List NetPort) (inputs : List (List ℕ)) (link : Link) (p : Option Flow) (q : Option Filled) → CameOn ports inputs (Some link) p q → (filled : Filled) × (q ≡ Some filled)
came_there ports inputs link p None told = absurd told
came_there ports inputs link p (Some filled) told = (filled, refl)

least_first : (a b : ℕ) → min a b ≤ a
least_first a b = omega arith

-- A delivery behind what stacks have.

module _ {X : Type 0} (old mid new : Held (Cell X)) (stacks : List Queue) (before after : List (Option Reading)) (feeds_old feeds_new : Inputs) (came_mid came : List Filled)
    (fit : FitStacks old stacks) (few : HoldFew old.capacities) (puts : PutsEach stacks old mid) (delivers : Delivers mid new before after feeds_old feeds_new came_mid) (counts : CountsPut (counts_of stacks) came_mid came) where
  module _ (net : Network X) (inputs : List (List ℕ)) (s : State X) (stands : StandsIn net old s) (wired : IsWired net) (fed : AreFedBehind net inputs s (tokens_of_stacks stacks) before feeds_old) where
    whole : length s.flows ≡ length net.links
    whole = stands.stands.flows.count

    many : length (counts_of stacks) ≡ length net.links
    many = length-map stacks (λ (q : Queue). length q.tokens) ∙ (fit.count ∙ sym (ap (λ ls. length ls) stands.is_of.links_are))

    abbrev next : State X
    next = ahead net (counts_of stacks) s

    module _ (l : ℕ) (link : Link) (flow : Flow) (at : slice_get net.links l ≡ Some link) (there_flow : slice_get s.flows l ≡ Some flow) where
      here : slice_get old.links l ≡ Some link
      here = ap (λ ls. slice_get ls l) (sym stands.is_of.links_are) ∙ at

      stack : There stacks l
      stack = there old.links stacks l link fit.count here

      fits : FitsStack old l link stack.item
      fits = fit.each l link stack.item here stack.at

      n_is : slice_index_or (counts_of stacks) l 0 ≡ length stack.item.tokens
      n_is = map_index (λ (q : Queue). length q.tokens) stacks l stack.item 0 stack.at

      ordered : flow.taken ≤ flow.arrived
      ordered = (stands.stands.flows.each l link flow at there_flow).taken

      within : flow.arrived ≤ length flow.sent
      within = (stands.stands.flows.each l link flow at there_flow).arrived

      none_inside : is_input link ≡ false → slice_index_or (counts_of stacks) l 0 ≡ 0
      none_inside inner = n_is ∙ ap (λ ts. length ts) (fits.outside inner)

      module _ (input : is_input link ≡ true) where
        comes_next : drop flow.arrived flow.sent ≡ down stack.item.tokens (unarrived (slice_get fed.later.flows l))
        comes_next = sym (unarrived_at flow there_flow) ∙ (fed.behind.each l link at input
            ∙ ap (λ ts. down ts (unarrived (slice_get fed.later.flows l))) (map_index (λ (q : Queue). q.tokens) stacks l stack.item [] stack.at))

        all_sent : flow.arrived + length stack.item.tokens ≤ length flow.sent
        all_sent = sent_ahead flow stack.item.tokens (unarrived (slice_get fed.later.flows l)) within comes_next

        has_room : 1 ≤ length stack.item.tokens → untaken flow + length stack.item.tokens ≤ flow.capacity
        has_room some =
            let room = fits.room some in
            let waits = waits_untaken net old s wired stands l link flow at there_flow input in
            let capacity = capacity_held net old s wired stands l link flow at there_flow input in
            omega (arith, room, waits, capacity)

        few_arrive : arrivals link flow < 2 ^ 32
        few_arrive =
            let is : arrivals link flow ≡ min (flow.capacity - untaken flow) (length flow.sent - flow.arrived) = Rattle.network_runner.proofs.One.arrivals_in link flow input in
            let low : min (flow.capacity - untaken flow) (length flow.sent - flow.arrived) ≤ flow.capacity - untaken flow = least_first (flow.capacity - untaken flow) (length flow.sent - flow.arrived) in
            let capacity = capacity_held net old s wired stands l link flow at there_flow input in
            let most = few l in
            omega (arith, is, low, capacity, most)

        fits_then : 1 ≤ length stack.item.tokens → untaken (delivered link flow) ≤ flow.capacity
        fits_then some =
            let room = has_room some in
            let is : arrivals link flow ≡ min (flow.capacity - untaken flow) (length flow.sent - flow.arrived) = Rattle.network_runner.proofs.One.arrivals_in link flow input in
            let low : min (flow.capacity - untaken flow) (length flow.sent - flow.arrived) ≤ flow.capacity - untaken flow = least_first (flow.capacity - untaken flow) (length flow.sent - flow.arrived) in
            let taken : (delivered link flow).taken ≡ flow.taken = ap (λ b. Rattle.std.specs.Prelude.if◌then◌else◌ b (flow.taken + arrivals link flow) flow.taken) (inside_input net old s wired stands l link flow at there_flow input) in
            omega (arith, room, is, low, taken, ordered)

        later_is : ahead_by link (slice_index_or (counts_of stacks) l 0) flow ≡ after_arrival (length stack.item.tokens) link flow
        later_is = ap (λ n. ahead_by link n flow) n_is ∙ ahead_in link (length stack.item.tokens) flow input

        both_arrive : (delivered link (after_arrival (length stack.item.tokens) link flow) ≡ delivered link flow)
            × (length stack.item.tokens + arrivals link (after_arrival (length stack.item.tokens) link flow) ≡ arrivals link flow)
        both_arrive = ⊎_elim
            (λ (none : length stack.item.tokens < 1).
            let no : length stack.item.tokens ≡ 0 = omega (arith, none) in
            let is : after_arrival (length stack.item.tokens) link flow ≡ flow =
            sym (ahead_in link (length stack.item.tokens) flow input) ∙ (ap (λ n. ahead_by link n flow) no ∙ ahead_none link flow) in
            let same : arrivals link (after_arrival (length stack.item.tokens) link flow) ≡ arrivals link flow = ap (arrivals link) is in
            (ap (delivered link) is, omega (arith, no, same)))
            (λ (some : 1 ≤ length stack.item.tokens). (
              delivered_ahead link flow (length stack.item.tokens) input (inside_input net old s wired stands l link flow at there_flow input) ordered (has_room some) all_sent,
              arrivals_ahead link flow (length stack.item.tokens) input (inside_input net old s wired stands l link flow at there_flow input) ordered (has_room some) all_sent,
            ))
            (cases_lt (length stack.item.tokens) 1)

      same_delivered : delivered link (ahead_by link (slice_index_or (counts_of stacks) l 0) flow) ≡ delivered link flow
      same_delivered = by_bool (is_input link)
          (λ input. ap (delivered link) (later_is input) ∙ (both_arrive input).0)
          (λ inner. ap (delivered link) (ahead_out link (slice_index_or (counts_of stacks) l 0) flow inner))

      next_at : slice_get next.flows l ≡ Some (ahead_by link (slice_index_or (counts_of stacks) l 0) flow)
      next_at = ahead_at l (counts_of stacks) net.links s.flows link flow many at there_flow

      next_left : is_input link ≡ true → unarrived (slice_get next.flows l) ≡ unarrived (slice_get fed.later.flows l)
      next_left input = ap unarrived (next_at ∙ ap Some (later_is input)) ∙ left_ahead flow stack.item.tokens (unarrived (slice_get fed.later.flows l)) (comes_next input)

      told_over : (mid_came now_came : Filled) → CountsOnePut (slice_index_or (counts_of stacks) l 0) mid_came now_came
          → CameOn net.ins inputs (Some link) (Some (ahead_by link (slice_index_or (counts_of stacks) l 0) flow)) (Some mid_came) → CameOn net.ins inputs (Some link) (Some flow) (Some now_came)
      told_over mid_came now_came put told = (
        λ input. came_over (rest_at net.ins inputs link.from) link flow (after_arrival (length stack.item.tokens) link flow) (length stack.item.tokens) mid_came now_came
            (both_arrive input).0 (both_arrive input).1 refl (few_arrive input) (fits_then input) (subst (λ n. CountsOnePut n mid_came now_came) n_is put)
            (subst (λ (f : Flow). CameOver (rest_at net.ins inputs link.from) link f mid_came) (later_is input) (told.0 input)),
        λ inner. none_came (slice_index_or (counts_of stacks) l 0) mid_came now_came (none_inside inner) put (told.1 inner),
      )

    next_stands : StandsIn net mid next
    next_stands = puts.states net s fed.later stands fed.behind

    next_fed : AreFedBy net inputs next before feeds_old
    next_fed = fed_as net inputs fed.later next before feeds_old
        (λ l link at input. let flow : There s.flows l = there net.links s.flows l link whole at in next_left l link flow.item at flow.at input) fed.fed

    made : IsDelivered net inputs next new after feeds_new came_mid
    made = delivers.states net inputs next next_stands wired next_fed

    back : after_delivery net next ≡ after_delivery net s
    back = after_ahead net (counts_of stacks) s many whole same_delivered

    told_each : (l : ℕ) (o : Option Link) → slice_get net.links l ≡ o → CameOn net.ins inputs o (slice_get s.flows l) (slice_get came l)
    told_each l None at = tt
    told_each l (Some link) at =
        let flow : There s.flows l = there net.links s.flows l link whole at in
        let told : CameOn net.ins inputs (Some link) (slice_get next.flows l) (slice_get came_mid l) = subst (λ o. CameOn net.ins inputs o (slice_get next.flows l) (slice_get came_mid l)) at (made.told l) in
        let was = came_there net.ins inputs link (slice_get next.flows l) (slice_get came_mid l) told in
        let now : There came l = there came_mid came l was.0 counts.as_many was.1 in
        subst (λ p. CameOn net.ins inputs (Some link) p (slice_get came l)) (sym flow.at)
        (subst (λ q. CameOn net.ins inputs (Some link) (Some flow.item) q) (sym now.at)
        (told_over l link flow.item at flow.at was.0 now.item (counts.each l was.0 now.item was.1 now.at)
        (subst (λ p. CameOn net.ins inputs (Some link) p (Some was.0)) (next_at l link flow.item at flow.at)
        (subst (λ q. CameOn net.ins inputs (Some link) (slice_get next.flows l) q) was.1 told))))

    held_delivered : IsDelivered net inputs s new after feeds_new came
    held_delivered = record {
      stands = subst (λ u. StandsSince net new u u) back made.stands;
      fed = subst (λ u. AreFedBy net inputs u after feeds_new) back made.fed;
      all = subst (AreFed net) back made.all;
      told = λ l. told_each l (slice_get net.links l) refl;
    }

  pub delivers_held : DeliversHeld old new (tokens_of_stacks stacks) before after feeds_old feeds_new came
  delivers_held = record { states = held_delivered; rests = delivers.rests }

-- Stacks that are empty fit whatever is held.

rooms_at : (stacks : List Queue) (l : ℕ) (stack : Queue) → slice_get stacks l ≡ Some stack → slice_index_or (rooms_of stacks) l 0 ≡ stack.capacity
rooms_at stacks l stack at = map_index (λ (q : Queue). q.capacity) stacks l stack 0 at

long_as : (one two : List Queue) → rooms_of one ≡ rooms_of two → length one ≡ length two
long_as one two same = sym (length-map one (λ (q : Queue). q.capacity)) ∙ (ap (λ ns. length ns) same ∙ length-map two (λ (q : Queue). q.capacity))

pub empty_fit : {X : Type 0} (old new : Held (Cell X)) (stacks left : List Queue) → new.links ≡ old.links → new.capacities ≡ old.capacities → rooms_of left ≡ rooms_of stacks → AreEmpty (tokens_of_stacks left)
    → FitStacks old stacks → FitStacks new left
empty_fit old new stacks left links capacities rooms none fit = record {
  count = long_as left stacks rooms ∙ (fit.count ∙ sym (ap (λ ls. length ls) links));
  each = λ l link stack at at_stack.
      let was : There stacks l = there left stacks l stack (long_as stacks left (sym rooms)) at_stack in
      let fits : FitsStack old l link was.item = fit.each l link was.item (sym (ap (λ ls. slice_get ls l) links) ∙ at) was.at in
      let same : was.item.capacity ≡ stack.capacity = sym (rooms_at stacks l was.item was.at) ∙ (ap (λ ns. slice_index_or ns l 0) (sym rooms) ∙ rooms_at left l stack at_stack) in
      let tokens : stack.tokens ≡ [] = empty_at left l stack none at_stack in
      record {
        holds = λ input.
            let most = fits.holds input in
            subst (λ cs. slice_index_or cs l 0 ≤ stack.capacity) (sym capacities) (omega (arith, most, same));
        room = λ some. let zero_long : length stack.tokens ≡ 0 = ap (λ ts. length ts) tokens in absurd (omega (arith, some, zero_long));
        outside = λ inner. tokens;
      };
}

-- what is taken back fits again
pub taken_empty : {X : Type 0} (old new : Held (Cell X)) (taken : TakenBack) → new.links ≡ old.links → new.capacities ≡ old.capacities → AreEmpty (stacked taken) → FitTaken old taken → FitTaken new taken
taken_empty old new taken links capacities none fit = record {
  stacks = empty_fit old new taken.stacks.items taken.stacks.items links capacities refl none fit.stacks;
  put = fit.put ∙ sym (ap (λ ls. length ls) links);
  none = λ any. none;
}

-- .. where no more wait than before
pub taken_fewer : {X : Type 0} (old new : Held (Cell X)) (taken : TakenBack) → new.links ≡ old.links → new.capacities ≡ old.capacities → NoMoreWait old new → FitTaken old taken → FitTaken new taken
taken_fewer old new taken links capacities fewer fit = record {
  stacks = record {
    count = fit.stacks.count ∙ sym (ap (λ ls. length ls) links);
    each = λ l link stack at at_stack.
        let fits : FitsStack old l link stack = fit.stacks.each l link stack (sym (ap (λ ls. slice_get ls l) links) ∙ at) at_stack in
        record {
          holds = λ input. subst (λ cs. slice_index_or cs l 0 ≤ stack.capacity) (sym capacities) (fits.holds input);
          room = λ some.
              let room = fits.room some in
              let less = fewer l in
              subst (λ cs. waits_on new l + length stack.tokens ≤ slice_index_or cs l 0) (sym capacities) (omega (arith, room, less));
          outside = fits.outside;
        };
  };
  put = fit.put ∙ sym (ap (λ ls. length ls) links);
  none = fit.none;
}

-- .. where the same cells are held with the same links and capacities
pub taken_moved : {X : Type 0} (old new : Held (Cell X)) (taken : TakenBack) → new.cells ≡ old.cells → new.links ≡ old.links → new.capacities ≡ old.capacities → FitTaken old taken → FitTaken new taken
taken_moved old new taken cells links capacities fit = taken_fewer old new taken links capacities
    (λ l. let same : waits_on new l ≡ waits_on old l = ap (λ cs. waits_at cs (slice_get new.links l)) cells ∙ ap (λ ls. waits_at old.cells (slice_get ls l)) links in omega (arith, same)) fit

-- .. and where links that begin inside can hold more, if nothing is taken
pub taken_widened : {X : Type 0} (old new : Held (Cell X)) (links : List Link) (taken : TakenBack) → old.links ≡ links → new.links ≡ old.links → SameOnInputs links old.capacities new.capacities → AreEmpty (stacked taken)
    → FitTaken old taken → FitTaken new taken
taken_widened old new links taken links_are same inputs none fit = record {
  stacks = record {
    count = fit.stacks.count ∙ sym (ap (λ ls. length ls) same);
    each = λ l link stack at at_stack.
        let was : slice_get old.links l ≡ Some link = sym (ap (λ ls. slice_get ls l) same) ∙ at in
        let fits : FitsStack old l link stack = fit.stacks.each l link stack was at_stack in
        let tokens : stack.tokens ≡ [] = empty_at taken.stacks.items l stack none at_stack in
        record {
          holds = λ input.
              let most = fits.holds input in
              let stays : slice_index_or new.capacities l 0 ≡ slice_index_or old.capacities l 0 = inputs l link (sym (ap (λ ls. slice_get ls l) links_are) ∙ was) input in
              omega (arith, most, stays);
          room = λ some. let zero_long : length stack.tokens ≡ 0 = ap (λ ts. length ts) tokens in absurd (omega (arith, some, zero_long));
          outside = λ inner. tokens;
        };
  };
  put = fit.put ∙ sym (ap (λ ls. length ls) same);
  none = fit.none;
}

-- as it is made
pub fresh_fit : {X : Type 0} (held : Held (Cell X)) (links : List Link) (taken : TakenBack) → held.links ≡ links → ((l : ℕ) (link : Link) → slice_get links l ≡ Some link → slice_index_or held.capacities l 0 ≡ link.capacity)
    → AreFresh links taken → FitTaken held taken
fresh_fit held links taken links_are capacities fresh = record {
  stacks = record {
    count = fresh.count ∙ sym (ap (λ ls. length ls) links_are);
    each = λ l link stack at at_stack.
        let here : slice_get links l ≡ Some link = sym (ap (λ ls. slice_get ls l) links_are) ∙ at in
        let tokens : stack.tokens ≡ [] = empty_at taken.stacks.items l stack fresh.empty at_stack in
        record {
          holds = λ input.
              let room = fresh.rooms l link here input in
              let is : slice_index_or (rooms_of taken.stacks.items) l 0 ≡ stack.capacity = rooms_at taken.stacks.items l stack at_stack in
              let capacity = capacities l link here in
              omega (arith, room, is, capacity);
          room = λ some. let zero_long : length stack.tokens ≡ 0 = ap (λ ts. length ts) tokens in absurd (omega (arith, some, zero_long));
          outside = λ inner. tokens;
        };
  };
  put = fresh.put ∙ sym (ap (λ ls. length ls) links_are);
  none = λ any. fresh.empty;
}
