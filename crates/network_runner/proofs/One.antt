-- One input link that is filled.
use Rattle.std.proofs.Common.{◌≡◌, ℕ, ◌+◌, ◌-◌, ◌<◌, ◌≤◌, min, true, false, List, [], ℤ, length, map, drop, refl, sym, ap, subst, ◌∙◌, ⊎_elim, inl, inr, arith, length-drop}
use Rattle.std.specs.Prelude.{Option, None, Some, slice_get, slice_index_or, if◌then◌else◌}
use Rattle.std.proofs.lemmas.Bool.{lt-ltb, ltb-true}
use Rattle.std.proofs.lemmas.List.{length-map}
use Rattle.rvc_io.specs.Feeds.{Inputs}
use Rattle.rvc_base.specs.declared.scalar.Scalar.{Scalar}
use Rattle.rvc_base.specs.Storing.{conv}
use Rattle.port_files.specs.Coming.{EndsWith, Reading, coming_on}
use Rattle.net_model.specs.declared.wiring.End.{End}
use Rattle.net_model.specs.declared.wiring.End.TheVariants.{Leaf as AtLeaf, Net as AtNet}
use Rattle.net_model.specs.declared.wiring.Link.{Link}
use Rattle.net_model.specs.Network.{Leaf, Network, is_input, is_leaf_port, is_output}
use Rattle.net_model.specs.State.{Flow, State, untaken}
use Rattle.net_model.specs.Event.{after_arrival}
use Rattle.net_model.specs.Trace.{arrivals, delivered}
use Rattle.net_model.specs.Cell.{Cell}
use Rattle.net_model.specs.Counted.{is_short}
use Rattle.net_model.specs.Ready.{tokens_of}
use Rattle.net_model.specs.Wired.{HasInput, IsBefore, IsWired, LeadsToPort}
use Rattle.net_model.proofs.Arriving.{Arrived, arrived_unless}
use Rattle.net_state.specs.declared.filling.Filled.{Filled}
use Rattle.net_state.specs.Filling.{AreArrivals, AreToCome, Arrives, AtPort, AtReader, Fills, Inflow, IsFed, IsFilled, IsFull, IsInputLink, SameRest, inflow}
use Rattle.net_state.specs.Held.{Held}
use Rattle.net_state.specs.Moving.{AreApart}
use Rattle.net_state.specs.Standing.{IsHeld, IsNetOf, IsOpened, StandsIn, StandsSince, unarrived}
use Rattle.net_state.specs.Working.{IsAtRest}
use Rattle.net_state.proofs.Gaining.{get_set_same, some_is, there_too}
use Rattle.net_state.proofs.Coming.{by_bool, if_true, if_false, is_own_port}
use Rattle.net_state.proofs.Flows.{inbox_at, length_waiting}
use Rattle.net_state.proofs.Firings.{leaf_of}
use Rattle.net_state.proofs.Bursting.{set_same}
use Rattle.round_runner.specs.Running.{ComesNow, HasRest}
use Rattle.network_runner.specs.Filling.{FillsOne, IsFullOrAll, TellsRest, input_delivered, with_flow}

-- Places.

before_none : (end : End) → IsBefore end end → ⊥
before_none (AtLeaf inst port) before = ⊎_elim (λ low. omega (arith, low)) (λ same. omega (arith, same.1)) before
before_none (AtNet port) before = omega (arith, before)

-- no two links of a wired network lead to one place
pub wired_apart : {X : Type 0} (net : Network X) → IsWired net → AreApart net.links
wired_apart net wired = λ l m link other low at there same.
    before_none other.to (subst (λ end. IsBefore end other.to) same (wired.in_order l m link other low at there))

input_there : {X : Type 0} (p : ℕ) (o : Option (Leaf X)) → HasInput p o → (leaf : Leaf X) × (o ≡ Some leaf) × (p < leaf.behaviour.ins)
input_there p None h = absurd h
input_there p (Some leaf) h = (leaf, refl, h)

-- the cell before whose input port a link ends
reader_there : {X : Type 0} (net : Network X) (cells : List (Cell X)) (links : List Link) → IsNetOf net cells links → (i p : ℕ) → HasInput p (slice_get net.leaves i)
    → (cell : Cell X) × (slice_get cells i ≡ Some cell) × (p < cell.actor.ins)
reader_there net cells links is i p has =
    let on = input_there p (slice_get net.leaves i) has in
    let as_many : length net.leaves ≡ length cells =
    sym (length-map net.leaves (λ leaf. leaf.behaviour)) ∙ (ap (λ bs. length bs) is.actors ∙ length-map cells (λ cell. cell.actor)) in
    let that = there_too net.leaves cells i on.0 as_many on.1 in
    let back = leaf_of net cells links is i that.0 that.1 in
    let same = ap (λ k. k.behaviour) (some_is on.0 back.leaf (sym on.1 ∙ back.at)) ∙ back.is in
    (that.0, that.1, subst (λ actor. p < actor.ins) same on.2)

-- Flows.

with_numbers : (flow : Flow) (a t : ℕ) → a ≡ flow.arrived → t ≡ flow.taken → record { sent = flow.sent; arrived = a; taken = t; capacity = flow.capacity } ≡ flow
with_numbers flow a t a_is t_is =
    subst (λ x. record { sent = flow.sent; arrived = x; taken = t; capacity = flow.capacity } ≡ flow) (sym a_is)
    (subst (λ y. record { sent = flow.sent; arrived = flow.arrived; taken = y; capacity = flow.capacity } ≡ flow) (sym t_is) refl)

-- where nothing arrives the flow stays
none_arrives : (link : Link) (flow : Flow) → after_arrival 0 link flow ≡ flow
none_arrives link flow = with_numbers flow (flow.arrived + 0) (if is_output link then flow.taken + 0 else flow.taken) (omega arith)
    (by_bool (is_output link)
    (λ yes. if_true (is_output link) (flow.taken + 0) flow.taken yes ∙ (let e : flow.taken + 0 ≡ flow.taken = omega arith in e))
    (λ no. if_false (is_output link) (flow.taken + 0) flow.taken no))

pub arrivals_in : (link : Link) (flow : Flow) → is_input link ≡ true → arrivals link flow ≡ min (flow.capacity - untaken flow) (length flow.sent - flow.arrived)
arrivals_in link flow input = if_true (is_input link) (min (flow.capacity - untaken flow) (length flow.sent - flow.arrived)) (length flow.sent - flow.arrived) input

-- nothing is left to arrive
none_left : (flow : Flow) → drop flow.arrived flow.sent ≡ [] → length flow.sent - flow.arrived ≡ 0
none_left flow none = sym (length-drop flow.arrived flow.sent) ∙ ap (λ ts. length ts) none

no_arrivals : (link : Link) (flow : Flow) → is_input link ≡ true → drop flow.arrived flow.sent ≡ [] → arrivals link flow ≡ 0
no_arrivals link flow input none =
    let left : length flow.sent - flow.arrived ≡ 0 = none_left flow none in
    let is : arrivals link flow ≡ min (flow.capacity - untaken flow) (length flow.sent - flow.arrived) = arrivals_in link flow input in
    omega (arith, is, left)

pub input_so : (link : Link) (flow : Flow) → is_input link ≡ true → input_delivered link flow ≡ delivered link flow
input_so link flow input = if_true (is_input link) (delivered link flow) flow input

pub other_so : (link : Link) (flow : Flow) → is_input link ≡ false → input_delivered link flow ≡ flow
other_so link flow other = if_false (is_input link) (delivered link flow) flow other

stays_unfed : (link : Link) (flow : Flow) → (is_input link ≡ true → drop flow.arrived flow.sent ≡ []) → input_delivered link flow ≡ flow
stays_unfed link flow none = by_bool (is_input link)
    (λ input. input_so link flow input ∙ (ap (λ k. after_arrival k link flow) (no_arrivals link flow input (none input)) ∙ none_arrives link flow))
    (λ other. other_so link flow other)

-- A link without a feed.

pub unarrived_at : {o : Option Flow} (flow : Flow) → o ≡ Some flow → unarrived o ≡ drop flow.arrived flow.sent
unarrived_at flow there = ap unarrived there

pub one_unfed : {X : Type 0} (l feed : ℕ) (held : Held (Cell X)) (feeds : Inputs) → FillsOne l feed held held None None feeds feeds (record { tokens = 0; rest = None })
one_unfed {X} l feed held feeds = record {
  states = λ net s rest link flow stands wired at there comes.
      let none : is_input link ≡ true → drop flow.arrived flow.sent ≡ [] = λ input. sym (unarrived_at flow there) ∙ (comes input).0 in
      let still : input_delivered link flow ≡ flow = stays_unfed link flow none in
      let same : with_flow s l (input_delivered link flow) ≡ s =
      ap (with_flow s l) still ∙ ap (λ flows. record s { flows = flows }) (set_same s.flows l flow there) in
      let here : IsHeld held.cells link flow (slice_index_or held.capacities l 0) = stands.now.stands.flows.each l link flow at there in
      record {
        stands = subst (λ t. StandsSince net held t t) (sym same) stands;
        fed = λ input. subst (λ t. ComesNow t l link feed rest None feeds) (sym same) (comes input);
        all = λ input.
            let left : length flow.sent - flow.arrived ≡ 0 = none_left flow (none input) in
            let within : flow.arrived ≤ length flow.sent = here.arrived in
            let all_in : IsFullOrAll flow = inr (omega (arith, left, within)) in
            subst IsFullOrAll (sym still) all_in;
        told = λ input. record { tokens = sym (no_arrivals link flow input (none input)); rest_told = λ short. (comes input).1; few = inl refl };
        none_told = λ other. (refl, refl);
      };
  rests = λ rest. rest;
}

-- A link that is fed.

is_input_of : (o : Option Link) (link : Link) → IsInputLink o → o ≡ Some link → is_input link ≡ true
is_input_of None link is at = absurd is
is_input_of (Some other) link is at = ap is_input (sym (some_is other link at)) ∙ is

pub fed_at : {X : Type 0} (s : State X) (l : ℕ) (o : Option Link) (link : Link) (feed : Inflow) → o ≡ Some link → IsFed s l (Some link) feed → IsFed s l o feed
fed_at s l o link feed at fed = subst (λ p. IsFed s l p feed) (sym at) fed

pub is_fed_at : {X : Type 0} (s : State X) (l : ℕ) (o : Option Link) (link : Link) (feed : Inflow) → o ≡ Some link → IsFed s l o feed → IsFed s l (Some link) feed
is_fed_at s l o link feed at fed = subst (λ p. IsFed s l p feed) at fed

-- no token is left on the feed
none_to_come : (kind : Scalar) (rest : ℕ) (bytes : Option (List ℕ)) (ts : List ℤ) → EndsWith kind rest bytes → AreToCome kind bytes ts → ts ≡ []
none_to_come kind rest None ts ends come = absurd come
none_to_come kind rest (Some bytes) ts ends come = sym come ∙ ends.0

module _ {X : Type 0} (net : Network X) (held : Held (Cell X)) (s : State X) (stands : StandsIn net held s) (wired : IsWired net)
    (l : ℕ) (link : Link) (flow : Flow) (at : slice_get net.links l ≡ Some link) (there : slice_get s.flows l ≡ Some flow) where
  pub is_held : IsHeld held.cells link flow (slice_index_or held.capacities l 0)
  is_held = stands.stands.flows.each l link flow at there

  -- how many wait before the port
  pub waits_at : (i p : ℕ) → link.to ≡ AtLeaf (record { 0 = i }) p → length (tokens_of (slice_get held.cells i) p) ≡ untaken flow
  waits_at i p to =
      let on = reader_there net held.cells held.links stands.is_of i p (subst (LeadsToPort net) to (wired.joined l link at).to_port) in
      ap (λ o. length (tokens_of o p)) on.1
      ∙ (ap (λ ts. length ts) (stands.stands.inboxes i on.0 on.1 p on.2 ∙ inbox_at i p net.links s.flows l link flow (wired_apart net wired) at there (ap (λ e. is_leaf_port i p e) to ∙ is_own_port i p))
      ∙ length_waiting flow is_held.arrived)

  full_at : (rest : Option ℕ) (feed : Inflow) (to : End) → link.to ≡ to → IsFed s l (Some link) feed
      → AtPort link (λ that j q. IsFilled feed.kind j q (slice_index_or held.capacities l 0) rest held.cells feed.bytes) to → IsFullOrAll flow
  full_at rest feed (AtNet port) to fed full = absurd full
  full_at None feed (AtLeaf inst port) to fed full =
      inl (sym (waits_at inst.0 port to) ∙ (full ∙ sym is_held.capacity_is))
  full_at (Some rest) feed (AtLeaf inst port) to fed full =
      let none : fed.0 ≡ [] = none_to_come feed.kind rest feed.bytes fed.0 full.1 fed.1 in
      let left : length flow.sent - flow.arrived ≡ 0 = none_left flow (sym (unarrived_at flow there) ∙ (fed.2 ∙ ap (map (conv link.kind)) none)) in
      let within : flow.arrived ≤ length flow.sent = is_held.arrived in
      inr (omega (arith, left, within))

  pub full_or_all : (rest : Option ℕ) (feed : Inflow) (o : Option Link) → o ≡ Some link → IsFed s l (Some link) feed
      → AtReader o (λ that j q. IsFilled feed.kind j q (slice_index_or held.capacities l 0) rest held.cells feed.bytes) → IsFullOrAll flow
  full_or_all rest feed None o_is fed full = absurd full
  full_or_all rest feed (Some other) o_is fed full =
      let same : other ≡ link = some_is other link o_is in
      full_at rest feed other.to (ap (λ k. k.to) (sym same)) fed
      (subst (λ k. AtPort k (λ that j q. IsFilled feed.kind j q (slice_index_or held.capacities l 0) rest held.cells feed.bytes) other.to) same full)

-- the remainder of what is to come
pub rest_after : (kind : Scalar) (rest : ℕ) (before after : Option (List ℕ)) → HasRest kind rest before → SameRest kind before after → HasRest kind rest after
rest_after kind rest None after has same = absurd has
rest_after kind rest (Some bytes) None has same = absurd same
rest_after kind rest (Some bytes) (Some left) has same = same ∙ has

rest_is : (kind : Scalar) (told rest : ℕ) (bytes : Option (List ℕ)) → EndsWith kind told bytes → HasRest kind rest bytes → told ≡ rest
rest_is kind told rest None ends has = absurd has
rest_is kind told rest (Some bytes) ends has = ends.2 ∙ has

-- the remainder is told exactly where the link is short
module _ {X : Type 0} (net : Network X) (held : Held (Cell X)) (s : State X) (stands : StandsIn net held s) (wired : IsWired net)
    (l : ℕ) (link : Link) (flow : Flow) (at : slice_get net.links l ≡ Some link) (there : slice_get s.flows l ≡ Some flow) where
  holds_at : slice_index_or held.capacities l 0 ≡ flow.capacity
  holds_at = sym (is_held net held s stands wired l link flow at there).capacity_is

  told_at : (told : Option ℕ) (rest : ℕ) (feed : Inflow) (to : End) → link.to ≡ to → HasRest feed.kind rest feed.bytes
      → AtPort link (λ that j q. IsFilled feed.kind j q (slice_index_or held.capacities l 0) told held.cells feed.bytes) to → TellsRest rest (is_short (Some flow)) told
  told_at told rest feed (AtNet port) to has full = absurd full
  told_at None rest feed (AtLeaf inst port) to has full = λ short.
      let waits : length (tokens_of (slice_get held.cells inst.0) port) ≡ untaken flow = waits_at net held s stands wired l link flow at there inst.0 port to in
      let less : untaken flow < flow.capacity = ltb-true (untaken flow) flow.capacity short in
      let most : slice_index_or held.capacities l 0 ≡ flow.capacity = holds_at in
      absurd (omega (arith, waits, less, most, full))
  told_at (Some told) rest feed (AtLeaf inst port) to has full =
      let waits : length (tokens_of (slice_get held.cells inst.0) port) ≡ untaken flow = waits_at net held s stands wired l link flow at there inst.0 port to in
      let few : length (tokens_of (slice_get held.cells inst.0) port) < slice_index_or held.capacities l 0 = full.0 in
      let most : slice_index_or held.capacities l 0 ≡ flow.capacity = holds_at in
      let less : untaken flow < flow.capacity = omega (arith, waits, few, most) in
      (lt-ltb (untaken flow) flow.capacity less, rest_is feed.kind told rest feed.bytes full.1 has)

  pub told_rest : (told : Option ℕ) (rest : ℕ) (feed : Inflow) (o : Option Link) → o ≡ Some link → HasRest feed.kind rest feed.bytes
      → AtReader o (λ that j q. IsFilled feed.kind j q (slice_index_or held.capacities l 0) told held.cells feed.bytes) → TellsRest rest (is_short (Some flow)) told
  told_rest told rest feed None o_is has full = absurd full
  told_rest told rest feed (Some other) o_is has full =
      let same : other ≡ link = some_is other link o_is in
      told_at told rest feed other.to (ap (λ k. k.to) (sym same)) has
      (subst (λ k. AtPort k (λ that j q. IsFilled feed.kind j q (slice_index_or held.capacities l 0) told held.cells feed.bytes) other.to) same full)

  few_at : (told : Option ℕ) (feed : Inflow) (to : End) → link.to ≡ to
      → AtPort link (λ that j q. IsFilled feed.kind j q (slice_index_or held.capacities l 0) told held.cells feed.bytes) to → untaken flow ≤ flow.capacity
  few_at told feed (AtNet port) to full = absurd full
  few_at None feed (AtLeaf inst port) to full =
      let waits : length (tokens_of (slice_get held.cells inst.0) port) ≡ untaken flow = waits_at net held s stands wired l link flow at there inst.0 port to in
      let most : slice_index_or held.capacities l 0 ≡ flow.capacity = holds_at in
      omega (arith, waits, most, full)
  few_at (Some told) feed (AtLeaf inst port) to full =
      let waits : length (tokens_of (slice_get held.cells inst.0) port) ≡ untaken flow = waits_at net held s stands wired l link flow at there inst.0 port to in
      let few : length (tokens_of (slice_get held.cells inst.0) port) < slice_index_or held.capacities l 0 = full.0 in
      let most : slice_index_or held.capacities l 0 ≡ flow.capacity = holds_at in
      omega (arith, waits, few, most)

  pub few_held : (told : Option ℕ) (feed : Inflow) (o : Option Link) → o ≡ Some link
      → AtReader o (λ that j q. IsFilled feed.kind j q (slice_index_or held.capacities l 0) told held.cells feed.bytes) → untaken flow ≤ flow.capacity
  few_held told feed None o_is full = absurd full
  few_held told feed (Some other) o_is full =
      let same : other ≡ link = some_is other link o_is in
      few_at told feed other.to (ap (λ k. k.to) (sym same))
      (subst (λ k. AtPort k (λ that j q. IsFilled feed.kind j q (slice_index_or held.capacities l 0) told held.cells feed.bytes) other.to) same full)

pub one_fed : {X : Type 0} (l feed : ℕ) (old new : Held (Cell X)) (before after : Reading) (fo fn : Inputs) (filled : Filled)
    → IsInputLink (slice_get old.links l)
    → Fills l (inflow before fo feed) (inflow after fn feed) (λ count. filled.tokens ≡ count) old new
    → IsFull l filled.rest new (inflow after fn feed)
    → AreArrivals l filled.tokens old (inflow before fo feed)
    → (IsAtRest old → IsAtRest new) → new.links ≡ old.links → new.waited ≡ old.waited
    → after.kind ≡ before.kind → SameRest before.kind (coming_on before.pulled fo feed) (coming_on after.pulled fn feed)
    → FillsOne l feed old new (Some before) (Some after) fo fn filled
one_fed {X} l feed old new before after fo fn filled is_in fills full arrive rests links waited kind_is same_rest = record {
  states = λ net s rest link flow stands wired at there comes.
      let at_old : slice_get old.links l ≡ Some link = ap (λ ls. slice_get ls l) (sym stands.now.is_of.links_are) ∙ at in
      let at_new : slice_get new.links l ≡ Some link = ap (λ ls. slice_get ls l) links ∙ at_old in
      let input : is_input link ≡ true = is_input_of (slice_get old.links l) link is_in at_old in
      let fed : IsFed s l (slice_get old.links l) (inflow before fo feed) = fed_at s l (slice_get old.links l) link (inflow before fo feed) at_old (comes input).0 in
      let goes : Arrives net s l fills.count (inflow after fn feed) new = fills.states net s stands.now fed in
      let came : Arrived net s goes.next l fills.count = arrived_unless net s goes.next l fills.count s.trapped refl goes.happens_so in
      let told : filled.tokens ≡ arrivals link flow = arrive net s link flow stands.now fed at there in
      let count_is : fills.count ≡ arrivals link flow = sym fills.told_is ∙ told in
      let link_is : came.link ≡ link = some_is came.link link (sym came.at_link ∙ at) in
      let flow_is : came.flow ≡ flow = some_is came.flow flow (sym came.at_flow ∙ there) in
      let flow_now : after_arrival fills.count came.link came.flow ≡ input_delivered link flow =
      ap (λ k. after_arrival k came.link came.flow) count_is
      ∙ (ap (λ k. after_arrival (arrivals link flow) k came.flow) link_is ∙ (ap (after_arrival (arrivals link flow) link) flow_is ∙ sym (input_so link flow input))) in
      let next_is : goes.next ≡ with_flow s l (input_delivered link flow) = sym came.is ∙ ap (with_flow s l) flow_now in
      let since : IsOpened net.links new.waited s.flows s.flows = subst (λ w. IsOpened net.links w s.flows s.flows) (sym waited) stands.since in
      let now : StandsSince net new goes.next goes.next = record { now = goes.stands; since = goes.opened since } in
      let fed_now : IsFed goes.next l (Some link) (inflow after fn feed) = is_fed_at goes.next l (slice_get new.links l) link (inflow after fn feed) at_new goes.fed in
      let there_now : slice_get goes.next.flows l ≡ Some (input_delivered link flow) =
      ap (λ t. slice_get t.flows l) next_is ∙ get_set_same s.flows l flow (input_delivered link flow) there in
      let at_now : slice_get net.links l ≡ Some link = at in
      let rest_now : is_input link ≡ true → HasRest after.kind rest (coming_on after.pulled fn feed) =
      (λ _. subst (λ k. HasRest k rest (coming_on after.pulled fn feed)) (sym kind_is)
      (rest_after before.kind rest (coming_on before.pulled fo feed) (coming_on after.pulled fn feed) (comes input).1 same_rest)) in
      record {
        stands = subst (λ t. StandsSince net new t t) next_is now;
        fed = λ _. (subst (λ t. IsFed t l (Some link) (inflow after fn feed)) next_is fed_now, rest_now input);
        all = λ _. full_or_all net new goes.next goes.stands wired l link (input_delivered link flow) at there_now filled.rest (inflow after fn feed) (slice_get new.links l) at_new fed_now full;
        told = λ _. record {
          tokens = told;
          rest_told = subst (λ w. TellsRest rest (is_short (Some w)) filled.rest) (input_so link flow input)
              (told_rest net new goes.next goes.stands wired l link (input_delivered link flow) at_now there_now filled.rest rest (inflow after fn feed) (slice_get new.links l) at_new (rest_now input) full);
          few = inr (subst (λ w. untaken w ≤ flow.capacity) (input_so link flow input)
              (subst (λ n. untaken (input_delivered link flow) ≤ n) (ap (λ w. w.capacity) (input_so link flow input))
              (few_held net new goes.next goes.stands wired l link (input_delivered link flow) at_now there_now filled.rest (inflow after fn feed) (slice_get new.links l) at_new full)));
        };
        none_told = λ other. (let no : true ≡ false = sym input ∙ other in cc);
      };
  rests = rests;
}
