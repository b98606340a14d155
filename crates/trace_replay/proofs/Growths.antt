-- The growth of a link by a delivery that is made to judge it.
use Rattle.std.proofs.Common.{◌≡◌, ℕ, ◌-◌, ◌≤◌, min, Bool, true, false, List, [], ℤ, length, refl, sym, ap, subst, ◌∙◌, ⊎_elim, arith}
use Rattle.std.specs.Prelude.{Option, None, Some, slice_get, slice_set, slice_index_or}
use Rattle.std.proofs.lemmas.List.{length-map}
use Rattle.rvc_io.specs.Feeds.{Inputs}
use Rattle.port_files.specs.Coming.{Reading}
use Rattle.token_ring.specs.Queue.{Queue}
use Rattle.net_model.specs.declared.wiring.End.{End}
use Rattle.net_model.specs.declared.wiring.End.TheVariants.{Leaf as AtLeaf, Net as AtNet}
use Rattle.net_model.specs.declared.wiring.Link.{Link}
use Rattle.net_model.specs.Network.{NetPort, Network, is_input, is_outside}
use Rattle.net_model.specs.State.{Flow, State, capacity_at, capacity_of, give_of, untaken}
use Rattle.net_model.specs.Counted.{rest_at}
use Rattle.net_model.specs.Ends.{Grows, IsSettled, IsStalled, LacksOn, all_fed}
use Rattle.net_model.specs.Event.{after_arrival}
use Rattle.net_model.specs.Wired.{IsWired}
use Rattle.net_model.specs.Trace.{OnNext, after_delivery, arrivals, delivered, grown}
use Rattle.net_model.specs.Cell.{Cell}
use Rattle.net_model.proofs.KeepingRuns.{set_is}
use Rattle.net_state.specs.declared.filling.Filled.{Filled}
use Rattle.net_state.specs.Held.{Held}
use Rattle.net_state.specs.Reopening.{FitNoted, FitWaited, OpensAgain}
use Rattle.net_state.specs.Standing.{IsOpened, StandsIn, StandsSince, unarrived}
use Rattle.net_state.specs.TakingBack.{down}
use Rattle.net_state.specs.Surveyed.{AreSettled}
use Rattle.network_runner.specs.Delivering.{IsDelivered}
use Rattle.network_runner.specs.Filling.{CameOn, CameOverOn}
use Rattle.network_runner.proofs.Begun.{map_index}
use Rattle.trace_replay.specs.Ending.{AreUnsettled, GrowsNotSo, GrowsSo}
use Rattle.trace_replay.specs.Growing.{GrowsBy}
use Rattle.trace_replay.specs.Holding.{AreFedBehind, ComeNext, DeliversHeld, MayBeAhead, StandsHeld, TakesEach, ahead, ahead_by, came_counts, tokens_of_stacks}
use Rattle.trace_replay.specs.declared.growth.Growth.TheVariants.{Untrue, Grown}
use Rattle.trace_replay.proofs.Chained.{There, there}
use Rattle.trace_replay.proofs.Ahead.{ahead_at, ahead_beside, ahead_in, ahead_out, ahead_set, delivered_all}
use Rattle.trace_replay.proofs.Ended.{arrivals_of, grows_after, grows_before, none_left, stall_link}
use Rattle.trace_replay.proofs.Settled.{one_of}

-- A link that has grown.

pub record HasGrown {X : Type 0} (s t : State X) (l capacity : ℕ) : Type 0 where
  pub flow : Flow
  pub here : slice_get s.flows l ≡ Some flow
  pub is : record s { flows = slice_set s.flows l (record flow { capacity = capacity }) } ≡ t

pub grown_is : {X : Type 0} (s t : State X) (l capacity : ℕ) (o : Option Flow) → slice_get s.flows l ≡ o → grown s l capacity o ≡ Some t → HasGrown s t l capacity
grown_is s t l capacity None here h = cc
grown_is s t l capacity (Some flow) here h = record { flow = flow; here = here; is = some_is (record s { flows = slice_set s.flows l (record flow { capacity = capacity }) }) t h }
  where
    some_is : {A : Type 0} (x y : A) → Some x ≡ Some y → x ≡ y
    some_is x y e = cc

-- the flow of a link before, of which the capacity alone was another one, and no greater
record FlowBefore {X : Type 0} (s : State X) (m : ℕ) (flow : Flow) : Type 0 where
  old : Flow
  at : slice_get s.flows m ≡ Some old
  arrived : flow.arrived ≡ old.arrived
  taken : flow.taken ≡ old.taken
  more : old.capacity ≤ flow.capacity

flow_before : {X : Type 0} (s t : State X) (l capacity m : ℕ) (flow : Flow) → HasGrown s t l capacity → capacity_at s l ≤ capacity → slice_get t.flows m ≡ Some flow → FlowBefore s m flow
flow_before s t l capacity m flow to more here = ⊎_elim
    (λ other. record { old = flow; at = other; arrived = refl; taken = refl; more = omega arith })
    (λ same. record {
      old = to.flow;
      at = ap (slice_get s.flows) same.0 ∙ to.here;
      arrived = ap (λ f. f.arrived) (sym same.1);
      taken = ap (λ f. f.taken) (sym same.1);
      more =
          let was : capacity_at s l ≡ to.flow.capacity = ap capacity_of to.here in
          let is : flow.capacity ≡ capacity = ap (λ f. f.capacity) (sym same.1) in
          omega (arith, was, is, more);
    })
    (set_is s.flows l (record to.flow { capacity = capacity }) m flow (ap (λ w. slice_get w.flows m) to.is ∙ here))

opened_grown : {X : Type 0} (links : List Link) (waited : List ℕ) (opened : List Flow) (s t : State X) (l capacity : ℕ) → HasGrown s t l capacity → capacity_at s l ≤ capacity
    → IsOpened links waited opened s.flows → IsOpened links waited opened t.flows
opened_grown links waited opened s t l capacity to more since = record {
  whole = since.whole;
  each = λ m link before flow at inner was here.
      let that = flow_before s t l capacity m flow to more here in
      let so = since.each m link before that.old at inner was that.at in
      record { all_arrived = so.all_arrived; none_since = that.arrived ∙ so.none_since; waited_is = so.waited_is };
}

fit_grown : {X : Type 0} (net : Network X) (noted : List ℕ) (s t : State X) (l capacity : ℕ) → HasGrown s t l capacity → capacity_at s l ≤ capacity → FitNoted net noted s → FitNoted net noted t
fit_grown net noted s t l capacity to more fit = record {
  waiting = λ m link flow at here inner.
      let that = flow_before s t l capacity m flow to more here in
      let few = fit.waiting m link that.old at that.at inner in
      omega (arith, few, that.arrived, that.taken);
  holds = λ m link flow at here inner.
      let that = flow_before s t l capacity m flow to more here in
      let few = fit.holds m link that.old at that.at inner in
      omega (arith, few, that.more);
}

grows_more : {X : Type 0} (net : Network X) (grow : ℕ) (s : State X) (l capacity : ℕ) → Grows net grow s l capacity → capacity_at s l ≤ capacity
grows_more net grow s l capacity grows = omega (arith, grows.below, grows.doubled)

-- What came over links tells what arrives.

came_in : (rest : ℕ) (link : Link) (o : Option Flow) (filled : Filled) → CameOverOn rest link o filled → (flow : Flow) → o ≡ Some flow → filled.tokens ≡ arrivals link flow
came_in rest link None filled told flow here = absurd told
came_in rest link (Some is) filled told flow here = told.tokens ∙ ap (arrivals link) (some_is is flow here)
  where
    some_is : {A : Type 0} (x y : A) → Some x ≡ Some y → x ≡ y
    some_is x y e = cc

arrives_there : (ports : List NetPort) (inputs : List (List ℕ)) (o : Option Link) (p : Option Flow) (q : Option Filled) → CameOn ports inputs o p q
    → (link : Link) (flow : Flow) → o ≡ Some link → p ≡ Some flow → is_input link ≡ true → (filled : Filled) × (q ≡ Some filled) × (filled.tokens ≡ arrivals link flow)
arrives_there ports inputs None p q told link flow at here input = cc
arrives_there ports inputs (Some is) p None told link flow at here input = absurd told
arrives_there ports inputs (Some is) p (Some filled) told link flow at here input =
    let same : is ≡ link = some_is is link at in
    let over : CameOverOn (rest_at ports inputs is.from) is p filled = told.0 (ap is_input same ∙ input) in
    (filled, refl, came_in (rest_at ports inputs is.from) is p filled over flow here ∙ ap (λ k. arrivals k flow) same)
  where
    some_is : {A : Type 0} (x y : A) → Some x ≡ Some y → x ≡ y
    some_is x y e = cc

-- over a link that begins inside nothing comes
none_inside : (ports : List NetPort) (inputs : List (List ℕ)) (o : Option Link) (p : Option Flow) (filled : Filled) → CameOn ports inputs o p (Some filled)
    → (link : Link) → o ≡ Some link → is_input link ≡ false → filled.tokens ≡ 0
none_inside ports inputs None p filled told link at inner = cc
none_inside ports inputs (Some is) p filled told link at inner =
    let same : is ≡ link = some_is is link at in
    (told.1 (ap is_input same ∙ inner)).0
  where
    some_is : {A : Type 0} (x y : A) → Some x ≡ Some y → x ≡ y
    some_is x y e = cc

by_input : (b : Bool) (P : Type 0) → (b ≡ true → P) → (b ≡ false → P) → P
by_input true P p q = p refl
by_input false P p q = q refl

-- A delivery of a settled state is the arrival of what came over input links.
module _ {X : Type 0} (net : Network X) (inputs : List (List ℕ)) (s : State X) (came : List Filled) (told : (l : ℕ) → CameOn net.ins inputs (slice_get net.links l) (slice_get s.flows l) (slice_get came l))
    (whole : length s.flows ≡ length net.links) where
  pub count_is : (l : ℕ) (link : Link) (flow : Flow) → slice_get net.links l ≡ Some link → slice_get s.flows l ≡ Some flow → is_input link ≡ true → slice_index_or (came_counts came) l 0 ≡ arrivals link flow
  count_is l link flow at here input =
      let that = arrives_there net.ins inputs (slice_get net.links l) (slice_get s.flows l) (slice_get came l) (told l) link flow at here input in
      map_index (λ (f : Filled). f.tokens) came l that.0 0 that.1 ∙ that.2

  pub settled_delivery : length came ≡ length net.links → IsSettled net s → after_delivery net s ≡ ahead net (came_counts came) s
  settled_delivery as_many settled = ap (λ fs. record s { flows = fs }) (delivered_all (came_counts came) net.links s.flows (length-map came (λ (f : Filled). f.tokens) ∙ as_many) whole
      (λ l link flow at here. by_input (is_input link) (delivered link flow ≡ ahead_by link (slice_index_or (came_counts came) l 0) flow)
      (λ input. ap (λ n. after_arrival n link flow) (sym (count_is l link flow at here input)) ∙ sym (ahead_in link (slice_index_or (came_counts came) l 0) flow input))
      (λ inner. none_left link flow inner (one_of net.links s.flows l link flow settled.arrived at here inner) ∙ sym (ahead_out link (slice_index_or (came_counts came) l 0) flow inner))))

-- A link that grows begins inside.

from_leaf : (gives : ℕ → ℕ) (i : ℕ) (flow : Flow) (link : Link) (end : End) → link.from ≡ end → Rattle.net_model.specs.Ends.HasLessRoom gives i flow end → is_input link ≡ false
from_leaf gives i flow link (AtNet port) from less = absurd less
from_leaf gives i flow link (AtLeaf inst port) from less = ap is_outside from

pub stall_inside : {X : Type 0} (net : Network X) (s : State X) (i a l : ℕ) (link : Link) → IsStalled net s i a l → slice_get net.links l ≡ Some link → is_input link ≡ false
stall_inside {X} net s i a l link stalled at = of_flow (slice_get (all_fed net s).flows l) (subst (λ o. LacksOn (give_of (slice_get net.leaves i) a) i o (slice_get (all_fed net s).flows l)) at stalled.lacks)
  where
    of_flow : (p : Option Flow) → LacksOn (give_of (slice_get net.leaves i) a) i (Some link) p → is_input link ≡ false
    of_flow None lacks = absurd lacks
    of_flow (Some flow) lacks = from_leaf (give_of (slice_get net.leaves i) a) i flow link link.from refl lacks

-- on an input link nothing changes
pub input_still : {X : Type 0} (net : Network X) (s next : State X) (grow l capacity m : ℕ) (link : Link) (flow : Flow) → Grows net grow s l capacity → HasGrown s next l capacity
    → slice_get net.links m ≡ Some link → slice_get next.flows m ≡ Some flow → is_input link ≡ true → slice_get s.flows m ≡ Some flow
input_still net s next grow l capacity m link flow grows to at here input = ⊎_elim
    (λ other. other)
    (λ same. let inner : is_input link ≡ false = stall_inside net s grows.leaf grows.action l link grows.stalled (ap (slice_get net.links) (sym same.0) ∙ at) in
    let clash : true ≡ false = sym input ∙ inner in cc)
    (set_is s.flows l (record to.flow { capacity = capacity }) m flow (ap (λ w. slice_get w.flows m) to.is ∙ here))

-- What came of the line.

pub unsettled_untrue : {X : Type 0} (grow l capacity : ℕ) (held new : Held (Cell X)) (stacks stacks_new : List (List ℤ)) (readings after : List (Option Reading)) (feeds later : Inputs) → AreUnsettled held
    → GrowsBy grow l capacity held stacks readings feeds new stacks_new after later Untrue
unsettled_untrue grow l capacity held new stacks stacks_new readings after feeds later unsettled net inputs opened s stands wired lawful grows =
    unsettled net s stands.stands.now grows.stalled.settled

pub not_grown_untrue : {X : Type 0} (grow l capacity : ℕ) (held made new : Held (Cell X)) (stacks stacks_new : List (List ℤ)) (readings after : List (Option Reading)) (feeds later : Inputs) (came : List Filled)
    → AreSettled held → DeliversHeld held made stacks readings after feeds later came → GrowsNotSo grow l capacity made → GrowsBy grow l capacity held stacks readings feeds new stacks_new after later Untrue
not_grown_untrue grow l capacity held made new stacks stacks_new readings after feeds later came settle delivers grows_not net inputs opened s stands wired lawful grows =
    let settled : IsSettled net s = settle net s stands.stands.now in
    let is = delivers.states net inputs s stands.stands.now wired stands.fed in
    grows_not net (after_delivery net s) (after_delivery net s) is.stands wired lawful is.all (grows_after net grow s l capacity wired settled grows)

-- A growth that is true, behind which what came is taken back.

on_some : {X : Type 0} (o : Option (State X)) (P : State X → Type 0) (next : State X) → o ≡ Some next → P next → OnNext o P
on_some None P next at h = cc
on_some (Some is) P next at h = subst P (some_is next is (sym at)) h
  where
    some_is : {A : Type 0} (x y : A) → Some x ≡ Some y → x ≡ y
    some_is x y e = cc

of_some : {X : Type 0} (o : Option (State X)) (P : State X → Type 0) (next : State X) → o ≡ Some next → OnNext o P → P next
of_some None P next at h = absurd h
of_some (Some is) P next at h = subst P (some_is is next at) h
  where
    some_is : {A : Type 0} (x y : A) → Some x ≡ Some y → x ≡ y
    some_is x y e = cc

module _ {X : Type 0} (grow l capacity : ℕ) (held made grew back new : Held (Cell X)) (stacks : List (List ℤ)) (taken : List Queue) (readings after : List (Option Reading)) (feeds later : Inputs) (came : List Filled)
    (settle : AreSettled held) (delivers : DeliversHeld held made stacks readings after feeds later came) (as_many : length came ≡ length held.links) (grows : GrowsSo grow l capacity made grew)
    (takes : TakesEach (came_counts came) grew back taken) where
  module _ (net : Network X) (inputs : List (List ℕ)) (opened s : State X) (stands : StandsHeld net inputs held stacks readings feeds opened s) (wired : IsWired net) where
    is : IsDelivered net inputs s made after later came
    is = delivers.states net inputs s stands.stands.now wired stands.fed

    whole : length s.flows ≡ length net.links
    whole = stands.stands.now.stands.flows.count

    came_long : length came ≡ length net.links
    came_long = as_many ∙ sym (ap (λ ls. length ls) stands.stands.now.is_of.links_are)

    settled_now : IsSettled net s
    settled_now = settle net s stands.stands.now

    same_state : after_delivery net s ≡ ahead net (came_counts came) s
    same_state = settled_delivery net inputs s came is.told whole came_long settled_now

    both : Grows net grow (after_delivery net s) l capacity
        × OnNext (grown (after_delivery net s) l capacity (slice_get (after_delivery net s).flows l)) (λ next. StandsSince net grew (after_delivery net s) next)
    both = grows net (after_delivery net s) (after_delivery net s) is.stands wired is.all

    grows_here : Grows net grow s l capacity
    grows_here = grows_before net grow s l capacity wired settled_now both.0

    link : There net.links l
    link = stall_link net s grows_here.leaf grows_here.action l grows_here.stalled

    inner : is_input link.item ≡ false
    inner = stall_inside net s grows_here.leaf grows_here.action l link.item grows_here.stalled link.at

    flow : There s.flows l
    flow = there net.links s.flows l link.item whole link.at

    abbrev wider : Flow
    wider = record { sent = flow.item.sent; arrived = flow.item.arrived; taken = flow.item.taken; capacity = capacity }

    abbrev next : State X
    next = record s { flows = slice_set s.flows l wider }

    goes_next : grown s l capacity (slice_get s.flows l) ≡ Some next
    goes_next = ap (grown s l capacity) flow.at

    to : HasGrown s next l capacity
    to = grown_is s next l capacity (slice_get s.flows l) refl goes_next

    more : capacity_at s l ≤ capacity
    more = grows_more net grow s l capacity grows_here

    -- the delivery led to the same flow there
    flow_then : slice_get (after_delivery net s).flows l ≡ Some flow.item
    flow_then = ap (λ w. slice_get w.flows l) same_state ∙ (ahead_beside l (came_counts came) net.links s.flows link.item link.at inner ∙ flow.at)

    stood : StandsIn net grew (ahead net (came_counts came) next)
    stood =
        let now = of_some (grown (after_delivery net s) l capacity (slice_get (after_delivery net s).flows l)) (λ u. StandsSince net grew (after_delivery net s) u)
        (record { actors = s.actors; flows = slice_set (after_delivery net s).flows l wider; trapped = s.trapped })
        (ap (grown (after_delivery net s) l capacity) flow_then) both.1 in
        subst (λ fs. StandsIn net grew (record s { flows = fs }))
        (ap (λ w. slice_set w.flows l wider) same_state ∙ sym (ahead_set l (came_counts came) net.links s.flows link.item wider link.at inner)) now.now

    may : MayBeAhead net (came_counts came) next
    may = record {
      ordered = λ m other that at here.
          let was = flow_before s next l capacity m that to more here in
          let held_so = (stands.stands.now.stands.flows.each m other was.old at was.at).taken in
          omega (arith, held_so, was.arrived, was.taken);
      sent = λ m other that at here input.
          let before : slice_get s.flows m ≡ Some that = input_still net s next grow l capacity m other that grows_here to at here input in
          let count : slice_index_or (came_counts came) m 0 ≡ arrivals other that = count_is net inputs s came is.told whole m other that at before input in
          let is_least : arrivals other that ≡ min (that.capacity - untaken that) (length that.sent - that.arrived) = arrivals_of other that input in
          let within = (stands.stands.now.stands.flows.each m other that at before).arrived in
          omega (arith, count, is_least, within);
    }

    stands_back : StandsIn net back next × ComeNext 0 net (came_counts came) next (tokens_of_stacks taken)
    stands_back = takes.states net next wired may stood

    fed_behind : AreFedBehind net inputs next (tokens_of_stacks taken) after later
    fed_behind = record {
      later = after_delivery net s;
      behind = record {
        each = λ m other at input.
            let now : There next.flows m = there net.links next.flows m other stands_back.0.stands.flows.count at in
            let before : slice_get s.flows m ≡ Some now.item = input_still net s next grow l capacity m other now.item grows_here to at now.at input in
            let then_ : slice_get (after_delivery net s).flows m ≡ Some (after_arrival (slice_index_or (came_counts came) m 0) other now.item) =
            ap (λ w. slice_get w.flows m) same_state
            ∙ (ahead_at m (came_counts came) net.links s.flows other now.item (length-map came (λ (f : Filled). f.tokens) ∙ came_long) at before
            ∙ ap Some (ahead_in other (slice_index_or (came_counts came) m 0) now.item input)) in
            ap unarrived now.at ∙ (stands_back.1 m other now.item (omega arith) at now.at input
            ∙ ap (λ ts. down (slice_index_or (tokens_of_stacks taken) m []) ts) (sym (ap unarrived then_)));
      };
      fed = is.fed;
    }

    stands_next : (noted : List ℕ) → FitWaited held → noted ≡ held.waited → OpensAgain noted back new → StandsHeld net inputs new (tokens_of_stacks taken) after later opened next
    stands_next noted fit noted_is opens = record {
      stands = opens net opened next stands_back.0
          (subst (λ ws. IsOpened net.links ws opened.flows next.flows) (sym noted_is) (opened_grown net.links held.waited opened.flows s next l capacity to more stands.stands.since))
          (subst (λ ws. FitNoted net ws next) (sym noted_is) (fit_grown net held.waited s next l capacity to more (fit net s stands.stands.now)));
      fed = fed_behind;
    }

  pub grown_grown : (noted : List ℕ) → FitWaited held → noted ≡ held.waited → OpensAgain noted back new → GrowsBy grow l capacity held stacks readings feeds new (tokens_of_stacks taken) after later Grown
  grown_grown noted fit noted_is opens net inputs opened s stands wired lawful = (
    grows_here net inputs opened s stands wired,
    on_some (grown s l capacity (slice_get s.flows l)) (λ u. StandsHeld net inputs new (tokens_of_stacks taken) after later opened u) (next net inputs opened s stands wired) (goes_next net inputs opened s stands wired)
        (stands_next net inputs opened s stands wired noted fit noted_is opens),
  )
