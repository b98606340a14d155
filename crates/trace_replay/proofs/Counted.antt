-- The numbers count one line more.
use Rattle.std.proofs.Common.{◌≡◌, ℕ, zero, suc, ◌+◌, ◌-◌, ◌*◌, ◌^◌, ◌<◌, ◌≤◌, Bool, true, false, List, [], ◌∷◌, ◌++◌, length, map, drop, refl, sym, ap, subst, ◌∙◌, arith, append-nil, length-append, length-drop}
use Rattle.std.specs.Prelude.{Option, None, Some, slice_get, slice_set, slice_index_or, ◌||◌, if◌then◌else◌}
use Rattle.trace_text.specs.declared.line.Line.{Line}
use Rattle.trace_text.specs.declared.line.Line.TheVariants.{Header, Inst, Fire as FireLine, Deliver as DeliverLine, Grow as GrowLine, Quiet, Trap as TrapLine, Stall, Budget}
use Rattle.net_model.specs.declared.wiring.Counts.{Counts}
use Rattle.net_model.specs.declared.wiring.End.{End}
use Rattle.net_model.specs.declared.wiring.End.TheVariants.{Leaf as AtLeaf, Net as AtNet}
use Rattle.net_model.specs.declared.wiring.Link.{Link}
use Rattle.rvc_base.specs.Storing.{conv}
use Rattle.net_model.specs.Cell.{Cell}
use Rattle.net_model.specs.Counted.{IsCounted, arrived_at, arrived_of, deliveries_in, rest_at, sent_count, was_short}
use Rattle.net_model.specs.Event.{and_then}
use Rattle.net_model.specs.Laws.{AreLawful, AreOrdered, firings_shown}
use Rattle.net_model.specs.Limits.{max_rate}
use Rattle.net_model.specs.Network.{Network, is_input, is_net_port, is_outside}
use Rattle.net_model.specs.PacingLaws.{CanBegin}
use Rattle.net_model.specs.State.{Flow, State, sent_to}
use Rattle.net_model.specs.Trace.{after_delivery, delivered, goes, played}
use Rattle.net_model.specs.Wired.{IsWired}
use Rattle.net_state.specs.declared.filling.Filled.{Filled}
use Rattle.net_state.specs.Held.{Held, HoldFew}
use Rattle.net_state.specs.Moving.{carried, sent_from}
use Rattle.net_state.specs.Standing.{LiesIn, StandsIn}
use Rattle.net_state.proofs.Coming.{by_bool, if_true, if_false}
use Rattle.net_state.proofs.Flows.{changed_so}
use Rattle.net_state.proofs.Gaining.{some_is, there_too}
use Rattle.network_runner.specs.Counting.{capped_sum, sent_at, sent_with}
use Rattle.network_runner.specs.Filling.{CameOn}
use Rattle.network_runner.specs.Sending.{outgoing_to}
use Rattle.network_runner.specs.Stepping.{left_to}
use Rattle.network_runner.proofs.Counted.{counted_more, sent_most}
use Rattle.network_runner.proofs.Flowing.{AllGoneOn, GoneOn, SameTokens, fire_count, fire_gone, grown_tokens, same_tokens, some_state, trap_goes}
use Rattle.network_runner.proofs.Leaving.{delivered_inside, from_inside, outgoing_is, whole_after}
use Rattle.network_runner.proofs.Numbers.{Whole, deliveries_then, lines_later, no_delivery, or_false, sent_long, sent_place, short_then, shown_then}
use Rattle.trace_replay.specs.Counting.{AreFewCounted, CatchesUp, CountsAll, CountsDelivery, CountsFiring, CountsOn, IsCountedTo}
use Rattle.trace_replay.specs.Judging.{is_end, max_trace_bytes}
use Rattle.trace_replay.proofs.Limits.{max_is}

-- What is left to go out grows as what was sent.

-- as much as was sent more is left more
left_grows : (p n : ℕ) (links : List Link) (flows lasts : List Flow) → length flows ≡ length links → length lasts ≡ length links
    → ((l : ℕ) (link : Link) (before flow : Flow) → slice_get links l ≡ Some link → slice_get flows l ≡ Some before → slice_get lasts l ≡ Some flow → (before.arrived ≤ length before.sent) × GoneOn n link before flow)
    → (length (left_to p links lasts) + length (sent_to p links flows) ≡ length (left_to p links flows) + length (sent_to p links lasts)) × (length (sent_to p links flows) ≤ length (sent_to p links lasts))
left_grows p n [] flows lasts whole also each = (refl, omega arith)
left_grows p n (link ∷ links) [] lasts whole also each = absurd (omega (arith, whole))
left_grows p n (link ∷ links) (before ∷ flows) [] whole also each = absurd (omega (arith, also))
left_grows p n (link ∷ links) (before ∷ flows) (flow ∷ lasts) whole also each = by_bool (is_net_port p link.to)
    (λ here.
    let on = each 0 link before flow refl refl refl in
    let gone : GoneOn n link before flow = on.1 in
    let within : before.arrived ≤ length before.sent = on.0 in
    let first : length (sent_to p (link ∷ links) (before ∷ flows)) ≡ length before.sent = ap (λ ts. length ts) (if_true (is_net_port p link.to) before.sent (sent_to p links flows) here) in
    let last : length (sent_to p (link ∷ links) (flow ∷ lasts)) ≡ length flow.sent = ap (λ ts. length ts) (if_true (is_net_port p link.to) flow.sent (sent_to p links lasts) here) in
    let left : length (left_to p (link ∷ links) (before ∷ flows)) ≡ length before.sent - before.arrived =
    ap (λ ts. length ts) (if_true (is_net_port p link.to) (drop before.arrived before.sent) (left_to p links flows) here) ∙ length-drop before.arrived before.sent in
    let left_now : length (left_to p (link ∷ links) (flow ∷ lasts)) ≡ length flow.sent - flow.arrived =
    ap (λ ts. length ts) (if_true (is_net_port p link.to) (drop flow.arrived flow.sent) (left_to p links lasts) here) ∙ length-drop flow.arrived flow.sent in
    let more : length flow.sent ≡ length before.sent + length gone.more = ap (λ ts. length ts) gone.sent ∙ length-append before.sent gone.more in
    let same : flow.arrived ≡ before.arrived = gone.arrived in
    (omega (arith, within, first, last, left, left_now, more, same), omega (arith, first, last, more)))
    (λ else_.
    let rest = left_grows p n links flows lasts (omega (arith, whole)) (omega (arith, also)) (λ l. each (suc l)) in
    let first : length (sent_to p (link ∷ links) (before ∷ flows)) ≡ length (sent_to p links flows) = ap (λ ts. length ts) (if_false (is_net_port p link.to) before.sent (sent_to p links flows) else_) in
    let last : length (sent_to p (link ∷ links) (flow ∷ lasts)) ≡ length (sent_to p links lasts) = ap (λ ts. length ts) (if_false (is_net_port p link.to) flow.sent (sent_to p links lasts) else_) in
    let left : length (left_to p (link ∷ links) (before ∷ flows)) ≡ length (left_to p links flows) = ap (λ ts. length ts) (if_false (is_net_port p link.to) (drop before.arrived before.sent) (left_to p links flows) else_) in
    let left_now : length (left_to p (link ∷ links) (flow ∷ lasts)) ≡ length (left_to p links lasts) = ap (λ ts. length ts) (if_false (is_net_port p link.to) (drop flow.arrived flow.sent) (left_to p links lasts) else_) in
    let same = rest.0 in
    let less = rest.1 in
    (omega (arith, first, last, left, left_now, same), omega (arith, first, last, less)))

-- where all that was sent to outputs has arrived nothing is left
none_left : (p : ℕ) (links : List Link) (flows : List Flow) → length flows ≡ length links
    → ((l : ℕ) (link : Link) (flow : Flow) → slice_get links l ≡ Some link → slice_get flows l ≡ Some flow → is_net_port p link.to ≡ true → flow.arrived ≡ length flow.sent)
    → length (left_to p links flows) ≡ 0
none_left p [] flows whole each = refl
none_left p (link ∷ links) [] whole each = refl
none_left p (link ∷ links) (flow ∷ flows) whole each = by_bool (is_net_port p link.to)
    (λ here.
    let left : length (left_to p (link ∷ links) (flow ∷ flows)) ≡ length flow.sent - flow.arrived =
    ap (λ ts. length ts) (if_true (is_net_port p link.to) (drop flow.arrived flow.sent) (left_to p links flows) here) ∙ length-drop flow.arrived flow.sent in
    let all : flow.arrived ≡ length flow.sent = each 0 link flow refl refl here in
    omega (arith, left, all))
    (λ else_.
    ap (λ ts. length ts) (if_false (is_net_port p link.to) (drop flow.arrived flow.sent) (left_to p links flows) else_)
    ∙ none_left p links flows (omega (arith, whole)) (λ l. each (suc l)))

pub ordered : {X : Type 0} (net : Network X) (held : Held (Cell X)) (s : State X) → StandsIn net held s → AreOrdered s
ordered net held s stands l flow there =
    let link = there_too s.flows net.links l flow stands.stands.flows.count there in
    let is = stands.stands.flows.each l link.0 flow link.1 there in
    (is.taken, is.arrived)

few_capacity : {X : Type 0} (net : Network X) (held : Held (Cell X)) (s : State X) → StandsIn net held s → HoldFew held.capacities → (l : ℕ) (flow : Flow) → slice_get s.flows l ≡ Some flow → flow.capacity ≤ 4294967295
few_capacity net held s stands few l flow there =
    let link = there_too s.flows net.links l flow stands.stands.flows.count there in
    let is : flow.capacity ≡ slice_index_or held.capacities l 0 = (stands.stands.flows.each l link.0 flow link.1 there).capacity_is in
    let low : slice_index_or held.capacities l 0 ≤ 4294967295 = few l in
    omega (arith, is, low)

-- lines that lead on
step_on : {X : Type 0} (o : Option (State X)) (f g : State X → Option (State X)) (t u : State X) → and_then o f ≡ Some t → ((w : State X) → f w ≡ Some t → g w ≡ Some u) → and_then o g ≡ Some u
step_on None f g t u leads on = cc
step_on (Some w) f g t u leads on = on w leads

pub played_on : {X : Type 0} (net : Network X) (s t u : State X) (lines more : List Line) → played net s lines ≡ Some t → played net t more ≡ Some u → played net s (lines ++ more) ≡ Some u
played_on {X} net s t u [] more leads on = subst (λ (w : State X). played net w more ≡ Some u) (some_state t s (sym leads)) on
played_on net s t u (line ∷ lines) more leads on =
    step_on (goes net s line) (λ w. played net w lines) (λ w. played net w (lines ++ more)) t u leads (λ w there. played_on net w t u lines more there on)

one_line : {X : Type 0} (net : Network X) (s t : State X) (line : Line) → goes net s line ≡ Some t → played net s (line ∷ []) ≡ Some t
one_line net s t line h = ap (λ o. and_then o (λ next. played net next [])) h

-- What two states before a line have in common.

module _ {X : Type 0} (net : Network X) (wired : IsWired net) (lawful : AreLawful net) where
  -- more was sent to an output in the course of lines
  sent_later : (first s : State X) (before : List Line) (p : ℕ) → CanBegin net first → played net first before ≡ Some s
      → (sent_count net first p ≤ sent_count net s p) × (sent_count net s p ≤ sent_count net first p + max_rate * length (firings_shown before))
  sent_later first s before p begin leads =
      let later = lines_later net wired lawful before first s begin.has_flows leads in
      let whole : Whole net s = later.0 in
      let grew : length (sent_to p net.links first.flows) ≤ length (sent_to p net.links s.flows) + 0 =
      sent_most p 0 net.links first.flows s.flows begin.has_flows whole (λ l link flow other at there now. let less = (later.1 l link flow other at there now).sent_grows in omega (arith, less)) in
      let most : length (sent_to p net.links s.flows) ≤ length (sent_to p net.links first.flows) + max_rate * length (firings_shown before) =
      sent_most p (max_rate * length (firings_shown before)) net.links s.flows first.flows whole begin.has_flows (λ l link flow other at there now. (later.1 l link other flow at now there).few_sent) in
      (omega (arith, grew), most)

  -- A line that is no delivery.
  module _ (inputs : List (List ℕ)) (s next : State X) (line : Line) (n : ℕ) (old new : Counts) (leads_on : goes net s line ≡ Some next)
      (whole : Whole net s) (whole_next : Whole net next) (in_order : AreOrdered s) (gone : AllGoneOn n net s next)
      (no_more : deliveries_in (line ∷ []) ≡ 0) (shown : length (firings_shown (line ∷ [])) ≡ n)
      (firings_are : new.firings ≡ old.firings + n) (rounds_are : new.rounds ≡ old.rounds) (arrived_is : new.arrived ≡ old.arrived) (rests_are : new.rests ≡ old.rests) (sent_is : new.sent ≡ old.sent) where
    same_arrived : (l : ℕ) (link : Link) → slice_get net.links l ≡ Some link → arrived_at next l ≡ arrived_at s l
    same_arrived l link at =
        let before = there_too net.links s.flows l link (sym whole) at in
        let now = there_too net.links next.flows l link (sym whole_next) at in
        let on : GoneOn n link before.0 now.0 = gone l link before.0 now.0 at before.1 now.1 in
        ap arrived_of now.1 ∙ (on.arrived ∙ sym (ap arrived_of before.1))

    pub counts_still : CountsOn net inputs s line next old new
    counts_still first before begin leads was = record {
      firings =
          (let all : length (firings_shown (before ++ line ∷ [])) ≡ length (firings_shown before) + length (firings_shown (line ∷ [])) = shown_then before (line ∷ []) in
          let had : old.firings ≡ length (firings_shown before) = was.firings in
          omega (arith, all, had, shown, firings_are));
      rounds =
          (let all : deliveries_in (before ++ line ∷ []) ≡ deliveries_in before + deliveries_in (line ∷ []) = deliveries_then before (line ∷ []) in
          let had : old.rounds ≡ deliveries_in before = was.rounds in
          omega (arith, all, had, no_more, rounds_are));
      links = ap (λ v. length v.items) arrived_is ∙ was.links;
      arrived = λ l link at. ap (λ v. slice_index_or v.items l 0) arrived_is
          ∙ (was.arrived l link at ∙ ap (λ a. if is_input link then a - arrived_at first l else 0) (sym (same_arrived l link at)));
      ends = ap (λ v. length v.items) rests_are ∙ was.ends;
      rests = λ l link at. ap (λ v. slice_index_or v.items l 0) rests_are
          ∙ (was.rests l link at ∙ ap (λ b. if b then rest_at net.ins inputs link.from else 0)
          (sym (short_then net l before (line ∷ []) first s leads
          ∙ (ap (λ b. was_short net first before l || b) (no_delivery net l (line ∷ []) s no_more) ∙ or_false (was_short net first before l)))));
      outs = ap (λ v. length v.items) sent_is ∙ was.outs;
      sent = λ p low.
          let had : slice_index_or old.sent.items p 0 + length (left_to p net.links s.flows) ≡ sent_count net s p - sent_count net first p = was.sent p low in
          let same : slice_index_or new.sent.items p 0 ≡ slice_index_or old.sent.items p 0 = ap (λ v. slice_index_or v.items p 0) sent_is in
          let grows = left_grows p n net.links s.flows next.flows whole whole_next (λ l link flow last at there now. ((in_order l flow there).1, gone l link flow last at there now)) in
          let as_much : length (left_to p net.links next.flows) + sent_count net s p ≡ length (left_to p net.links s.flows) + sent_count net next p = grows.0 in
          let less : sent_count net s p ≤ sent_count net next p = grows.1 in
          let since : sent_count net first p ≤ sent_count net s p = (sent_later first s before p begin leads).0 in
          omega (arith, had, same, as_much, less, since);
    }

  -- All that was sent is counted.
  pub caught_up : (inputs : List (List ℕ)) (first s : State X) (lines : List Line) (old new : Counts) (cells : List (Cell X)) → CanBegin net first → played net first lines ≡ Some s
      → IsCountedTo net inputs first lines s old → CatchesUp cells net.links old new → ((p : ℕ) → outgoing_to p cells net.links ≡ left_to p net.links s.flows) → old.firings ≤ max_trace_bytes
      → IsCounted net inputs first lines s new
  caught_up inputs first s lines old new cells begin leads was catches outgoing few = record {
    firings = catches.firings ∙ was.firings;
    rounds = catches.rounds ∙ was.rounds;
    links = ap (λ v. length v.items) catches.arrived ∙ was.links;
    arrived = λ l link at. ap (λ v. slice_index_or v.items l 0) catches.arrived ∙ was.arrived l link at;
    ends = ap (λ v. length v.items) catches.rests ∙ was.ends;
    rests = λ l link at. ap (λ v. slice_index_or v.items l 0) catches.rests ∙ was.rests l link at;
    outs = ap (λ xs. length xs) catches.sent ∙ (sent_long cells net.links old.sent.items ∙ was.outs);
    sent = λ p low.
        let had : slice_index_or old.sent.items p 0 + length (left_to p net.links s.flows) ≡ sent_count net s p - sent_count net first p = was.sent p low in
        let out : length (outgoing_to p cells net.links) ≡ length (left_to p net.links s.flows) = ap (λ ts. length ts) (outgoing p) in
        let most : sent_count net s p ≤ sent_count net first p + max_rate * length (firings_shown lines) = (sent_later first s lines p begin leads).1 in
        let firings : old.firings ≡ length (firings_shown lines) = was.firings in
        let low_count : p < length old.sent.items = (let is : length old.sent.items ≡ length net.outs = was.outs in omega (arith, is, low)) in
        let bound : slice_index_or old.sent.items p 0 + length (outgoing_to p cells net.links) ≤ 2 ^ 64 - 1 = omega (arith, had, out, most, firings, few, max_is) in
        ap (λ xs. slice_index_or xs p 0) catches.sent
        ∙ (sent_place cells p net.links old.sent.items low_count bound
        ∙ (let e : slice_index_or old.sent.items p 0 + length (outgoing_to p cells net.links) ≡ sent_count net s p - sent_count net first p = omega (arith, had, out) in e));
  }

-- Lines one by one.

pub tokens_gone : {X : Type 0} (net : Network X) (s t : State X) → SameTokens net s t → AllGoneOn 0 net s t
tokens_gone net s t same l link before flow at there now =
    let is = same.each l before flow there now in
    record {
      more = [];
      sent = is.0 ∙ sym (append-nil before.sent);
      arrived = is.1;
      from_outside = λ input. refl;
      few_more = omega arith;
      few_taken = (let taken = is.2 in omega (arith, taken));
    }

pub firing_counts : {X : Type 0} (net : Network X) (inputs : List (List ℕ)) (held : Held (Cell X)) (s next : State X) (i a : ℕ) (old new : Counts) → IsWired net → AreLawful net → StandsIn net held s
    → CountsFiring old new → goes net s (FireLine i a) ≡ Some next → CountsOn net inputs s (FireLine i a) next old new
firing_counts net inputs held s next i a old new wired lawful stands counts leads_on =
    counts_still net wired lawful inputs s next (FireLine i a) 1 old new leads_on stands.stands.flows.count (fire_count net wired lawful s next i a leads_on stands.stands.flows.count)
    (ordered net held s stands) (fire_gone net wired lawful s next i a leads_on) refl refl counts.firings counts.rounds counts.arrived counts.rests counts.sent

still_counts : {X : Type 0} (net : Network X) (inputs : List (List ℕ)) (held : Held (Cell X)) (s next : State X) (line : Line) (counts : Counts) → IsWired net → AreLawful net → StandsIn net held s
    → SameTokens net s next → deliveries_in (line ∷ []) ≡ 0 → length (firings_shown (line ∷ [])) ≡ 0 → goes net s line ≡ Some next → CountsOn net inputs s line next counts counts
still_counts net inputs held s next line counts wired lawful stands same no_more none leads_on =
    counts_still net wired lawful inputs s next line 0 counts counts leads_on stands.stands.flows.count (same.count ∙ stands.stands.flows.count)
    (ordered net held s stands) (tokens_gone net s next same) no_more none (omega arith) refl refl refl refl

pub growth_counts : {X : Type 0} (net : Network X) (inputs : List (List ℕ)) (held : Held (Cell X)) (s next : State X) (l capacity : ℕ) (counts : Counts) → IsWired net → AreLawful net → StandsIn net held s
    → goes net s (GrowLine l capacity) ≡ Some next → CountsOn net inputs s (GrowLine l capacity) next counts counts
growth_counts net inputs held s next l capacity counts wired lawful stands leads_on =
    still_counts net inputs held s next (GrowLine l capacity) counts wired lawful stands (grown_tokens net s next l capacity (slice_get s.flows l) refl leads_on) refl refl leads_on

-- an end line changes no flow
end_flows : {X : Type 0} (net : Network X) (s next : State X) (line : Line) → is_end line ≡ true → goes net s line ≡ Some next
    → SameTokens net s next × (deliveries_in (line ∷ []) ≡ 0) × (length (firings_shown (line ∷ [])) ≡ 0)
end_flows net s next Quiet over h = (same_tokens net s next (ap (λ w. w.flows) (sym (some_state s next h))), refl, refl)
end_flows net s next (Stall i a l) over h = (same_tokens net s next (ap (λ w. w.flows) (sym (some_state s next h))), refl, refl)
end_flows net s next Budget over h = (same_tokens net s next (ap (λ w. w.flows) (sym (some_state s next h))), refl, refl)
end_flows net s next (TrapLine i a c) over h = (trap_goes net s next i a c h, refl, refl)
end_flows net s next (FireLine i a) over h = cc
end_flows net s next DeliverLine over h = cc
end_flows net s next (GrowLine l c) over h = cc
end_flows net s next (Header n l g) over h = cc
end_flows net s next (Inst k) over h = cc

left_still : (p : ℕ) (links : List Link) (flows lasts : List Flow) → length flows ≡ length links → length lasts ≡ length links
    → ((l : ℕ) (before flow : Flow) → slice_get flows l ≡ Some before → slice_get lasts l ≡ Some flow → (flow.sent ≡ before.sent) × (flow.arrived ≡ before.arrived) × (flow.taken ≡ before.taken))
    → left_to p links flows ≡ left_to p links lasts
left_still p [] flows lasts whole also each = refl
left_still p (link ∷ links) [] lasts whole also each = absurd (omega (arith, whole))
left_still p (link ∷ links) (before ∷ flows) [] whole also each = absurd (omega (arith, also))
left_still p (link ∷ links) (before ∷ flows) (flow ∷ lasts) whole also each =
    let is = each 0 before flow refl refl in
    ap (λ ts. if is_net_port p link.to then ts else left_to p links flows) (ap (λ a. drop a before.sent) (sym is.1) ∙ ap (drop flow.arrived) (sym is.0))
    ∙ ap (λ ts. if is_net_port p link.to then drop flow.arrived flow.sent else ts) (left_still p links flows lasts (omega (arith, whole)) (omega (arith, also)) (λ l. each (suc l)))

-- an end line: all that was sent is counted
pub end_counts : {X : Type 0} (net : Network X) (inputs : List (List ℕ)) (held : Held (Cell X)) (s next : State X) (line : Line) (old new : Counts) → IsWired net → AreLawful net → StandsIn net held s
    → is_end line ≡ true → old.firings ≤ max_trace_bytes → CatchesUp held.cells net.links old new → goes net s line ≡ Some next → CountsAll net inputs s line next old new
end_counts net inputs held s next line old new wired lawful stands over few catches leads_on first before begin leads was =
    let same = end_flows net s next line over leads_on in
    let whole : Whole net s = stands.stands.flows.count in
    let still : IsCountedTo net inputs first (before ++ line ∷ []) next old =
    still_counts net inputs held s next line old wired lawful stands same.0 same.1 same.2 leads_on first before begin leads was in
    caught_up net wired lawful inputs first next (before ++ line ∷ []) old new held.cells begin (played_on net first s next before (line ∷ []) leads (one_line net s next line leads_on)) still catches
    (λ p. outgoing_is net held s stands wired p ∙ left_still p net.links s.flows next.flows whole (same.0.count ∙ whole) same.0.each) few

-- A delivery.

set_as_it_was : (xs : List ℕ) (k : ℕ) → slice_set xs k (slice_index_or xs k 0) ≡ xs
set_as_it_was [] k = refl
set_as_it_was (x ∷ xs) zero = refl
set_as_it_was (x ∷ xs) (suc k) = ap (λ ys. x ∷ ys) (set_as_it_was xs k)

none_at : (xs : List ℕ) (n : ℕ) (end : End) → n ≡ 0 → sent_at xs n end ≡ xs
none_at xs n (AtLeaf inst port) none = refl
none_at xs n (AtNet port) none = ap (λ k. slice_set xs port (capped_sum (slice_index_or xs port 0) k)) none ∙ set_as_it_was xs port

-- where nothing is to leave the numbers stay
none_sent : {X : Type 0} (cells : List (Cell X)) (links : List Link) (xs : List ℕ) → ((l : ℕ) (link : Link) → slice_get links l ≡ Some link → length (carried cells link) ≡ 0) → sent_with cells links xs ≡ xs
none_sent cells [] xs each = refl
none_sent cells (link ∷ links) xs each =
    ap (sent_with cells links) (none_at xs (length (carried cells link)) link.to (each 0 link refl)) ∙ none_sent cells links xs (λ l. each (suc l))

delivery_is : {X : Type 0} (net : Network X) (s next : State X) → s.trapped ≡ false → goes net s DeliverLine ≡ Some next → after_delivery net s ≡ next
delivery_is {X} net s next untrapped h = by_mark s.trapped untrapped h
  where
    by_mark : (b : Bool) → b ≡ false → (if b then None else Some (after_delivery net s)) ≡ Some next → after_delivery net s ≡ next
    by_mark true e f = cc
    by_mark false e f = some_state (after_delivery net s) next f

all_same : {X : Type 0} (net : Network X) (s : State X) → AllGoneOn 0 net s s
all_same net s = tokens_gone net s s (same_tokens net s s refl)

module _ {X : Type 0} (net : Network X) (inputs : List (List ℕ)) (held held_new : Held (Cell X)) (s : State X) (wired : IsWired net) (lawful : AreLawful net) (stands : StandsIn net held s)
    (old caught new : Counts) (came : List Filled) (few : AreFewCounted old) (few_held : HoldFew held.capacities) (catches : CatchesUp held.cells net.links old caught) (counts : CountsDelivery came caught new)
    (stands_new : StandsIn net held_new (after_delivery net s)) (told : (l : ℕ) → CameOn net.ins inputs (slice_get net.links l) (slice_get s.flows l) (slice_get came l)) where
  whole : Whole net s
  whole = stands.stands.flows.count

  -- all that was sent inside has arrived
  arrived_inside : (l : ℕ) (link : Link) (flow : Flow) → slice_get net.links l ≡ Some link → slice_get (after_delivery net s).flows l ≡ Some flow → is_input link ≡ false → flow.arrived ≡ length flow.sent
  arrived_inside l link flow at there inner =
      let was = there_too net.links s.flows l link (sym whole) at in
      let is : delivered link was.0 ≡ flow = some_is (delivered link was.0) flow (sym (changed_so delivered net.links s.flows l link was.0 at was.1) ∙ there) in
      subst (λ f. f.arrived ≡ length f.sent) is (delivered_inside link was.0 inner (ordered net held s stands l was.0 was.1).1)

  -- so nothing is to leave
  none_out : (l : ℕ) (link : Link) → slice_get net.links l ≡ Some link → length (carried held_new.cells link) ≡ 0
  none_out l link at =
      let now = there_too net.links (after_delivery net s).flows l link (sym (whole_after net held s stands wired)) at in
      by_end now.0 link.from refl (stands_new.stands.flows.each l link now.0 at now.1).lies (λ inner. arrived_inside l link now.0 at now.1 inner)
    where
      by_end : (flow : Flow) (end : End) → link.from ≡ end → LiesIn held_new.cells link (drop flow.arrived flow.sent) end → (is_input link ≡ false → flow.arrived ≡ length flow.sent)
          → length (carried held_new.cells link) ≡ 0
      by_end flow (AtNet port) from lies all = ap (λ e. length (map (conv link.kind) (sent_from held_new.cells e))) from
      by_end flow (AtLeaf inst port) from lies all =
          let left : length (drop flow.arrived flow.sent) ≡ length flow.sent - flow.arrived = length-drop flow.arrived flow.sent in
          let whole_now : flow.arrived ≡ length flow.sent = all (ap is_outside from) in
          ap (λ e. length (map (conv link.kind) (sent_from held_new.cells e))) from ∙ (ap length (sym lies) ∙ (let e : length (drop flow.arrived flow.sent) ≡ 0 = omega (arith, left, whole_now) in e))

  counts_after : CountsOn net inputs s DeliverLine (after_delivery net s) old new
  counts_after first before begin leads was =
      let whole_new : Whole net (after_delivery net s) = whole_after net held s stands wired in
      let all : IsCounted net inputs first before s caught =
      caught_up net wired lawful inputs first s before old caught held.cells begin leads was catches (λ p. outgoing_is net held s stands wired p) few.firings in
      let sent : new.sent.items ≡ sent_with held_new.cells net.links caught.sent.items = ap (λ v. v.items) counts.sent ∙ sym (none_sent held_new.cells net.links caught.sent.items none_out) in
      let firings : new.firings ≡ caught.firings + 0 = (let same : new.firings ≡ caught.firings = counts.firings in omega (arith, same)) in
      let rounds : new.rounds ≡ suc caught.rounds = (let one : new.rounds ≡ caught.rounds + 1 = counts.rounds in omega (arith, one)) in
      let low : new.firings ≤ 70368744177664 = (let same : new.firings ≡ caught.firings = counts.firings in let had : caught.firings ≡ old.firings = catches.firings in let most : old.firings ≤ max_trace_bytes = few.firings in omega (arith, same, had, most, max_is)) in
      let more : IsCounted net inputs first (before ++ DeliverLine ∷ []) (after_delivery net s) new =
      counted_more net wired lawful inputs first s (after_delivery net s) before [] caught new begin leads all refl 0 refl stands.stands.untrapped whole whole_new (all_same net (after_delivery net s))
      (few_capacity net held s stands few_held) (ordered net held s stands) came told counts.arrived counts.rests held_new.cells sent
      (λ p. outgoing_is net held_new (after_delivery net s) stands_new wired p) firings rounds low in
      record {
        firings = more.firings;
        rounds = more.rounds;
        links = more.links;
        arrived = more.arrived;
        ends = more.ends;
        rests = more.rests;
        outs = more.outs;
        sent = λ p low_port.
            let exact : slice_index_or new.sent.items p 0 ≡ sent_count net (after_delivery net s) p - sent_count net first p = more.sent p low_port in
            let none : length (left_to p net.links (after_delivery net s).flows) ≡ 0 =
            none_left p net.links (after_delivery net s).flows whole_new (λ l link flow at there leads_to. arrived_inside l link flow at there (from_inside net p l link wired at leads_to)) in
            omega (arith, exact, none);
      }

  pub delivery_counts : (next : State X) → goes net s DeliverLine ≡ Some next → CountsOn net inputs s DeliverLine next old new
  delivery_counts next leads_on = subst (λ t. CountsOn net inputs s DeliverLine t old new) (delivery_is net s next stands.stands.untrapped leads_on) counts_after

-- At the start nothing was counted.
pub none_counted : {X : Type 0} (net : Network X) (inputs : List (List ℕ)) (s : State X) (counts : Counts) → IsCounted net inputs s [] s counts
    → ((p l : ℕ) (link : Link) (flow : Flow) → slice_get net.links l ≡ Some link → slice_get s.flows l ≡ Some flow → is_net_port p link.to ≡ true → flow.arrived ≡ length flow.sent)
    → Whole net s → IsCountedTo net inputs s [] s counts
none_counted net inputs s counts is all whole = record {
  firings = is.firings;
  rounds = is.rounds;
  links = is.links;
  arrived = is.arrived;
  ends = is.ends;
  rests = is.rests;
  outs = is.outs;
  sent = λ p low.
      let exact : slice_index_or counts.sent.items p 0 ≡ sent_count net s p - sent_count net s p = is.sent p low in
      let none : length (left_to p net.links s.flows) ≡ 0 = none_left p net.links s.flows whole (all p) in
      omega (arith, exact, none);
}
