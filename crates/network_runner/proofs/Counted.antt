-- The numbers of a run count the lines of one round more.
use Rattle.std.proofs.Common.{◌≡◌, ⊎_elim, ℕ, suc, ◌+◌, ◌-◌, ◌*◌, ◌^◌, ◌<◌, ◌≤◌, Bool, true, false, List, [], ◌∷◌, ◌++◌, length, drop, refl, sym, ap, subst, ◌∙◌, arith, length-append, length-drop}
use Rattle.std.specs.Prelude.{Option, None, Some, slice_get, slice_index_or, ◌||◌, if◌then◌else◌}
use Rattle.std.proofs.lemmas.Option.{slice_get_within}
use Rattle.trace_text.specs.declared.line.Line.{Line}
use Rattle.trace_text.specs.declared.line.Line.TheVariants.{Deliver as DeliverLine}
use Rattle.net_model.specs.declared.wiring.Counts.{Counts}
use Rattle.net_model.specs.declared.wiring.End.{End}
use Rattle.net_model.specs.declared.wiring.End.TheVariants.{Leaf as AtLeaf, Net as AtNet}
use Rattle.net_model.specs.declared.wiring.Link.{Link}
use Rattle.net_model.specs.Cell.{Cell}
use Rattle.net_model.specs.Counted.{IsCounted, arrived_at, arrived_of, deliveries_in, is_short, rest_at, sent_count, was_short}
use Rattle.net_model.specs.Limits.{max_rate}
use Rattle.net_model.specs.Network.{Network, is_input, is_net_port, is_outside, is_output}
use Rattle.net_model.specs.State.{Flow, State, sent_to}
use Rattle.net_model.specs.Laws.{AreLawful, AreOrdered, firings_shown}
use Rattle.net_model.specs.PacingLaws.{CanBegin}
use Rattle.net_model.specs.Trace.{after_delivery, arrivals, delivered, played}
use Rattle.net_model.specs.Wired.{IsWired}
use Rattle.net_state.specs.declared.filling.Filled.{Filled}
use Rattle.net_state.proofs.Coming.{by_bool, if_true, if_false}
use Rattle.net_state.proofs.Flows.{changed_so}
use Rattle.net_state.proofs.Gaining.{there_too}
use Rattle.network_runner.specs.Counting.{arrived_with, capped_sum, rests_with, sent_with, told_or}
use Rattle.network_runner.specs.Filling.{CameOn, CameOver, NoneCame, TellsRest}
use Rattle.network_runner.specs.Sending.{outgoing_to}
use Rattle.network_runner.specs.Stepping.{left_to}
use Rattle.network_runner.proofs.Flowing.{AllGoneOn, GoneOn}
use Rattle.network_runner.proofs.Leaving.{delivered_inside, from_inside, left_since}
use Rattle.network_runner.proofs.Numbers.{AllLater, Later, Whole, arrived_here, arrived_long, capped_few, deliveries_then, lines_later, rest_here, rests_long, sent_long, sent_place, short_round, short_then, shown_then}

-- where no link holds more than so many tokens more, so many more at most were sent to an output
pub sent_most : (p k : ℕ) (links : List Link) (flows others : List Flow) → length flows ≡ length links → length others ≡ length links
    → ((l : ℕ) (link : Link) (flow other : Flow) → slice_get links l ≡ Some link → slice_get flows l ≡ Some flow → slice_get others l ≡ Some other → length flow.sent ≤ length other.sent + k)
    → length (sent_to p links flows) ≤ length (sent_to p links others) + k
sent_most p k [] flows others whole also each = omega arith
sent_most p k (link ∷ links) [] others whole also each = absurd (omega (arith, whole))
sent_most p k (link ∷ links) (flow ∷ flows) [] whole also each = absurd (omega (arith, also))
sent_most p k (link ∷ links) (flow ∷ flows) (other ∷ others) whole also each = by_bool (is_net_port p link.to)
    (λ here.
    let one : length (sent_to p (link ∷ links) (flow ∷ flows)) ≡ length flow.sent = ap (λ ts. length ts) (if_true (is_net_port p link.to) flow.sent (sent_to p links flows) here) in
    let two : length (sent_to p (link ∷ links) (other ∷ others)) ≡ length other.sent = ap (λ ts. length ts) (if_true (is_net_port p link.to) other.sent (sent_to p links others) here) in
    let few : length flow.sent ≤ length other.sent + k = each 0 link flow other refl refl refl in
    omega (arith, one, two, few))
    (λ else_.
    let one : length (sent_to p (link ∷ links) (flow ∷ flows)) ≡ length (sent_to p links flows) = ap (λ ts. length ts) (if_false (is_net_port p link.to) flow.sent (sent_to p links flows) else_) in
    let two : length (sent_to p (link ∷ links) (other ∷ others)) ≡ length (sent_to p links others) = ap (λ ts. length ts) (if_false (is_net_port p link.to) other.sent (sent_to p links others) else_) in
    let few : length (sent_to p links flows) ≤ length (sent_to p links others) + k = sent_most p k links flows others (omega (arith, whole)) (omega (arith, also)) (λ l. each (suc l)) in
    omega (arith, one, two, few))

-- a remainder is told once its end was read
rest_told_so : (rest before : ℕ) (was short : Bool) (told : Option ℕ) → before ≡ (if was then rest else 0) → TellsRest rest short told → told_or told before ≡ (if was || short then rest else 0)
rest_told_so rest before true short None is tells = is
rest_told_so rest before false true None is tells = is ∙ sym (tells refl)
rest_told_so rest before false false None is tells = is
rest_told_so rest before true short (Some told) is tells = tells.1
rest_told_so rest before false short (Some told) is tells = tells.1 ∙ sym (if_true short rest 0 tells.0)

rest_none : (rest before : ℕ) (was short : Bool) → before ≡ (if was then rest else 0) → rest ≡ 0 → before ≡ (if was || short then rest else 0)
rest_none rest before true short is none = is
rest_none rest before false true is none = is ∙ sym none
rest_none rest before false false is none = is

inner_rest : {X : Type 0} (net : Network X) (inputs : List (List ℕ)) (end : End) → is_outside end ≡ false → rest_at net.ins inputs end ≡ 0
inner_rest net inputs (AtLeaf inst port) inner = refl
inner_rest net inputs (AtNet port) inner = cc

module _ {X : Type 0} (net : Network X) (wired : IsWired net) (lawful : AreLawful net) (inputs : List (List ℕ)) (first s last : State X) (before tail : List Line) (c0 c2 : Counts)
    (begin : CanBegin net first) (leads : played net first before ≡ Some s) (was : IsCounted net inputs first before s c0)
    (no_more : deliveries_in tail ≡ 0) (n : ℕ) (shown : length (firings_shown tail) ≡ n) (untrapped : s.trapped ≡ false) (whole : Whole net s) (whole_last : Whole net last)
    (gone : AllGoneOn n net (after_delivery net s) last)
    (few_capacity : (l : ℕ) (flow : Flow) → slice_get s.flows l ≡ Some flow → flow.capacity ≤ 4294967295) (ordered : AreOrdered s)
    (came : List Filled) (told : (l : ℕ) → CameOn net.ins inputs (slice_get net.links l) (slice_get s.flows l) (slice_get came l))
    (arrived_is : c2.arrived.items ≡ arrived_with came c0.arrived.items) (rests_are : c2.rests.items ≡ rests_with came c0.rests.items)
    (cells : List (Cell X)) (sent_is : c2.sent.items ≡ sent_with cells net.links c0.sent.items) (outgoing : (p : ℕ) → outgoing_to p cells net.links ≡ left_to p net.links last.flows)
    (firings_are : c2.firings ≡ c0.firings + n) (rounds_are : c2.rounds ≡ suc c0.rounds) (few_firings : c2.firings ≤ 70368744177664) where
  abbrev lines : List Line
  lines = DeliverLine ∷ tail

  abbrev opened : State X
  opened = after_delivery net s

  later : AllLater (length (firings_shown before)) net first s
  later = (lines_later net wired lawful before first s begin.has_flows leads).1

  firings : c2.firings ≡ length (firings_shown (before ++ lines))
  firings =
      let all : length (firings_shown (before ++ lines)) ≡ length (firings_shown before) + length (firings_shown tail) = shown_then before lines in
      let had : c0.firings ≡ length (firings_shown before) = was.firings in
      omega (arith, all, had, shown, firings_are)

  rounds : c2.rounds ≡ deliveries_in (before ++ lines)
  rounds =
      let all : deliveries_in (before ++ lines) ≡ deliveries_in before + suc (deliveries_in tail) = deliveries_then before lines in
      let had : c0.rounds ≡ deliveries_in before = was.rounds in
      omega (arith, all, had, no_more, rounds_are)

  -- One link.
  module _ (l : ℕ) (link : Link) (at : slice_get net.links l ≡ Some link) where
    low : l < length net.links
    low = slice_get_within net.links l link at

    here : (flow : Flow) × (slice_get s.flows l ≡ Some flow)
    here = there_too net.links s.flows l link (sym whole) at

    then_ : (flow : Flow) × (slice_get first.flows l ≡ Some flow)
    then_ = there_too net.links first.flows l link (sym begin.has_flows) at

    now : (flow : Flow) × (slice_get last.flows l ≡ Some flow)
    now = there_too net.links last.flows l link (sym whole_last) at

    opened_here : slice_get opened.flows l ≡ Some (delivered link here.0)
    opened_here = changed_so delivered net.links s.flows l link here.0 at here.1

    on : GoneOn n link (delivered link here.0) now.0
    on = gone l link (delivered link here.0) now.0 at opened_here now.1

    since : Later (length (firings_shown before)) link then_.0 here.0
    since = later l link then_.0 here.0 at then_.1 here.1

    found : (filled : Filled) × (slice_get came l ≡ Some filled) × (is_input link ≡ true → CameOver (rest_at net.ins inputs link.from) link here.0 filled) × (is_input link ≡ false → NoneCame filled)
    found = by_option (slice_get came l) refl (subst (λ o. CameOn net.ins inputs (Some link) o (slice_get came l)) here.1 (subst (λ o. CameOn net.ins inputs o (slice_get s.flows l) (slice_get came l)) at (told l)))
      where
        by_option : (o : Option Filled) → slice_get came l ≡ o → CameOn net.ins inputs (Some link) (Some here.0) o
            → (filled : Filled) × (slice_get came l ≡ Some filled) × (is_input link ≡ true → CameOver (rest_at net.ins inputs link.from) link here.0 filled) × (is_input link ≡ false → NoneCame filled)
        by_option None is h = absurd h
        by_option (Some filled) is h = (filled, is, h.0, h.1)

    arrived_now : arrived_at last l ≡ here.0.arrived + arrivals link here.0
    arrived_now = ap arrived_of now.1 ∙ on.arrived

    arrived_then : arrived_at first l ≡ then_.0.arrived
    arrived_then = ap arrived_of then_.1

    arrived_here_now : arrived_at s l ≡ here.0.arrived
    arrived_here_now = ap arrived_of here.1

    low_counts : l < length c0.arrived.items
    low_counts = (let is : length c0.arrived.items ≡ length net.links = was.links in let less = low in omega (arith, is, less))

    low_rests : l < length c0.rests.items
    low_rests = (let is : length c0.rests.items ≡ length net.links = was.ends in let less = low in omega (arith, is, less))

    value : slice_index_or c2.arrived.items l 0 ≡ capped_sum (slice_index_or c0.arrived.items l 0) found.0.tokens
    value = ap (λ xs. slice_index_or xs l 0) arrived_is ∙ arrived_here came c0.arrived.items l found.0 found.1 low_counts

    arrived_input : is_input link ≡ true → slice_index_or c2.arrived.items l 0 ≡ arrived_at last l - arrived_at first l
    arrived_input input =
        let over = found.2 input in
        let had : slice_index_or c0.arrived.items l 0 ≡ arrived_at s l - arrived_at first l = was.arrived l link at ∙ if_true (is_input link) _ _ input in
        let grows : then_.0.arrived ≤ here.0.arrived = since.arrived_grows in
        let tokens : found.0.tokens ≡ arrivals link here.0 = over.tokens in
        let a_last = arrived_now in
        let a_first = arrived_then in
        let a_s = arrived_here_now in
        ⊎_elim
        (λ none.
        let same : capped_sum (slice_index_or c0.arrived.items l 0) found.0.tokens ≡ slice_index_or c0.arrived.items l 0 = ap (capped_sum (slice_index_or c0.arrived.items l 0)) none in
        value ∙ (same ∙ (let e : slice_index_or c0.arrived.items l 0 ≡ arrived_at last l - arrived_at first l = omega (arith, had, none, tokens, a_last, a_first, a_s) in e)))
        (λ few.
        let inner : is_output link ≡ false = (wired.joined l link at).inside input in
        let taken : (delivered link here.0).taken ≡ here.0.taken = if_false (is_output link) _ _ inner in
        let cap : here.0.capacity ≤ 4294967295 = few_capacity l here.0 here.1 in
        let took : here.0.taken ≤ then_.0.taken + max_rate * length (firings_shown before) = since.few_taken inner in
        let before_few : then_.0.taken ≤ then_.0.arrived = (begin.ordered l then_.0 then_.1).0 in
        let had_firings : c0.firings ≡ length (firings_shown before) = was.firings in
        let bound : slice_index_or c0.arrived.items l 0 + found.0.tokens ≤ 2 ^ 64 - 1 = omega (arith, had, tokens, a_first, a_s, few, taken, cap, took, before_few, had_firings, firings_are, few_firings, grows) in
        value ∙ (capped_few (slice_index_or c0.arrived.items l 0) found.0.tokens bound
        ∙ (let e : slice_index_or c0.arrived.items l 0 + found.0.tokens ≡ arrived_at last l - arrived_at first l = omega (arith, had, tokens, a_last, a_first, a_s, grows) in e)))
        over.few

    pub arrived_so : slice_index_or c2.arrived.items l 0 ≡ (if is_input link then arrived_at last l - arrived_at first l else 0)
    arrived_so = by_bool (is_input link)
        (λ input. arrived_input input ∙ sym (if_true (is_input link) _ _ input))
        (λ other.
        let none = (found.3 other).0 in
        let had : slice_index_or c0.arrived.items l 0 ≡ 0 = was.arrived l link at ∙ if_false (is_input link) _ _ other in
        value ∙ (ap (capped_sum (slice_index_or c0.arrived.items l 0)) none ∙ (had ∙ sym (if_false (is_input link) _ _ other))))

    short_now : was_short net first (before ++ lines) l ≡ (was_short net first before l || is_short (Some (delivered link here.0)))
    short_now =
        short_then net l before lines first s leads
        ∙ ap (λ b. was_short net first before l || b) (short_round net l tail s untrapped no_more ∙ ap is_short opened_here)

    rest_value : slice_index_or c2.rests.items l 0 ≡ told_or found.0.rest (slice_index_or c0.rests.items l 0)
    rest_value = ap (λ xs. slice_index_or xs l 0) rests_are ∙ rest_here came c0.rests.items l found.0 found.1 low_rests

    pub rest_so : slice_index_or c2.rests.items l 0 ≡ (if was_short net first (before ++ lines) l then rest_at net.ins inputs link.from else 0)
    rest_so = rest_value ∙ (by_bool (is_input link)
        (λ input. rest_told_so (rest_at net.ins inputs link.from) (slice_index_or c0.rests.items l 0) (was_short net first before l) (is_short (Some (delivered link here.0))) found.0.rest (was.rests l link at) (found.2 input).rest_told)
        (λ other.
        ap (λ o. told_or o (slice_index_or c0.rests.items l 0)) (found.3 other).1
        ∙ rest_none (rest_at net.ins inputs link.from) (slice_index_or c0.rests.items l 0) (was_short net first before l) (is_short (Some (delivered link here.0))) (was.rests l link at) (inner_rest net inputs link.from other))
        ∙ ap (λ b. if b then rest_at net.ins inputs link.from else 0) (sym short_now))

  -- One output.
  sent_so : (p : ℕ) → p < length net.outs → slice_index_or c2.sent.items p 0 ≡ sent_count net last p - sent_count net first p
  sent_so p low =
      let had : slice_index_or c0.sent.items p 0 ≡ sent_count net s p - sent_count net first p = was.sent p low in
      let low_count : p < length c0.sent.items = (let is : length c0.sent.items ≡ length net.outs = was.outs in omega (arith, is, low)) in
      let out : length (outgoing_to p cells net.links) ≡ length (left_to p net.links last.flows) = ap (λ ts. length ts) (outgoing p) in
      let left : drop (length (sent_to p net.links s.flows)) (sent_to p net.links last.flows) ≡ left_to p net.links last.flows =
      left_since p net.links s.flows last.flows whole whole_last (λ l link flow flow_last at there now_ leads_to. out_arrived l link flow flow_last at there now_ leads_to) in
      let left_long : length (left_to p net.links last.flows) ≡ length (sent_to p net.links last.flows) - length (sent_to p net.links s.flows) =
      ap (λ ts. length ts) (sym left) ∙ length-drop (length (sent_to p net.links s.flows)) (sent_to p net.links last.flows) in
      let grows : length (sent_to p net.links s.flows) ≤ length (sent_to p net.links last.flows) + 0 =
      sent_most p 0 net.links s.flows last.flows whole whole_last (λ l link flow flow_last at there now_. let less = grown l link flow flow_last at there now_ in omega (arith, less)) in
      let grew : length (sent_to p net.links first.flows) ≤ length (sent_to p net.links s.flows) + 0 =
      sent_most p 0 net.links first.flows s.flows begin.has_flows whole (λ l link flow flow_s at there now_. let less = (later l link flow flow_s at there now_).sent_grows in omega (arith, less)) in
      let most : length (sent_to p net.links last.flows) ≤ length (sent_to p net.links first.flows) + (max_rate * length (firings_shown before) + max_rate * n) =
      sent_most p (max_rate * length (firings_shown before) + max_rate * n) net.links last.flows first.flows whole_last begin.has_flows
      (λ l link flow_last flow_first at there now_. few_sent l link flow_last flow_first at there now_) in
      let had_firings : c0.firings ≡ length (firings_shown before) = was.firings in
      let bound : slice_index_or c0.sent.items p 0 + length (outgoing_to p cells net.links) ≤ 2 ^ 64 - 1 = omega (arith, had, out, left_long, grows, grew, most, had_firings, firings_are, few_firings) in
      ap (λ xs. slice_index_or xs p 0) sent_is
      ∙ (sent_place cells p net.links c0.sent.items low_count bound
      ∙ (let e : slice_index_or c0.sent.items p 0 + length (outgoing_to p cells net.links) ≡ sent_count net last p - sent_count net first p = omega (arith, had, out, left_long, grows, grew) in e))
    where
      grown : (l : ℕ) (link : Link) (flow flow_last : Flow) → slice_get net.links l ≡ Some link → slice_get s.flows l ≡ Some flow → slice_get last.flows l ≡ Some flow_last → length flow.sent ≤ length flow_last.sent
      grown l link flow flow_last at there now_ =
          let opened_at : slice_get opened.flows l ≡ Some (delivered link flow) = changed_so delivered net.links s.flows l link flow at there in
          let goes = gone l link (delivered link flow) flow_last at opened_at now_ in
          let len : length flow_last.sent ≡ length flow.sent + length goes.more = ap (λ ts. length ts) goes.sent ∙ length-append flow.sent goes.more in
          omega (arith, len)

      few_sent : (l : ℕ) (link : Link) (flow_last flow_first : Flow) → slice_get net.links l ≡ Some link → slice_get last.flows l ≡ Some flow_last → slice_get first.flows l ≡ Some flow_first
          → length flow_last.sent ≤ length flow_first.sent + (max_rate * length (firings_shown before) + max_rate * n)
      few_sent l link flow_last flow_first at now_ there =
          let mid = there_too net.links s.flows l link (sym whole) at in
          let opened_at : slice_get opened.flows l ≡ Some (delivered link mid.0) = changed_so delivered net.links s.flows l link mid.0 at mid.1 in
          let goes = gone l link (delivered link mid.0) flow_last at opened_at now_ in
          let len : length flow_last.sent ≡ length mid.0.sent + length goes.more = ap (λ ts. length ts) goes.sent ∙ length-append mid.0.sent goes.more in
          let few : length goes.more ≤ max_rate * n = goes.few_more in
          let less : length mid.0.sent ≤ length flow_first.sent + max_rate * length (firings_shown before) = (later l link flow_first mid.0 at there mid.1).few_sent in
          omega (arith, len, few, less)

      out_arrived : (l : ℕ) (link : Link) (flow flow_last : Flow) → slice_get net.links l ≡ Some link → slice_get s.flows l ≡ Some flow → slice_get last.flows l ≡ Some flow_last → is_net_port p link.to ≡ true
          → flow_last.arrived ≡ length flow.sent
      out_arrived l link flow flow_last at there now_ leads_to =
          let opened_at : slice_get opened.flows l ≡ Some (delivered link flow) = changed_so delivered net.links s.flows l link flow at there in
          let goes = gone l link (delivered link flow) flow_last at opened_at now_ in
          goes.arrived ∙ delivered_inside link flow (from_inside net p l link wired at leads_to) (ordered l flow there).1

  pub counted_more : IsCounted net inputs first (before ++ lines) last c2
  counted_more = record {
    firings = firings;
    rounds = rounds;
    links = ap (λ xs. length xs) arrived_is ∙ (arrived_long came c0.arrived.items ∙ was.links);
    arrived = arrived_so;
    ends = ap (λ xs. length xs) rests_are ∙ (rests_long came c0.rests.items ∙ was.ends);
    rests = rest_so;
    outs = ap (λ xs. length xs) sent_is ∙ (sent_long cells net.links c0.sent.items ∙ was.outs);
    sent = sent_so;
  }
