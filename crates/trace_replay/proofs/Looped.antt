-- Lines of a run, read one after another.
use Rattle.std.proofs.Common.{◌≡◌, ℕ, zero, suc, ◌<◌, ◌≤◌, Bool, true, false, List, [], ◌∷◌, refl, sym, ap, subst, ◌∙◌, ⊎_elim, arith}
use Rattle.std.specs.Prelude.{Option, None, Some, slice_get, take, min, ◌*◌, if◌then◌else◌}
use Rattle.rvc_io.specs.Feeds.{Inputs, PullsOnlyAt}
use Rattle.trace_text.specs.declared.line.Line.{Line}
use Rattle.trace_text.specs.declared.line.Line.TheVariants.{Header as FirstLine, Inst, Fire, Deliver, Grow, Quiet, Trap as TrapLine, Stall, Budget}
use Rattle.net_model.specs.declared.wiring.Link.{Link}
use Rattle.net_model.specs.Network.{Network, is_input}
use Rattle.net_model.specs.State.{Flow, State, capacity_of}
use Rattle.net_model.specs.Laws.{AreLawful, HasFlows}
use Rattle.net_model.specs.Trace.{FitFlows, after_delivery, held_since, opened_by}
use Rattle.net_model.specs.Wired.{IsWired}
use Rattle.net_model.proofs.Keeping.{Since, SinceOpened, deliver_since, fire_since, fits_now}
use Rattle.net_model.proofs.KeepingRuns.{set_is}
use Rattle.trace_replay.specs.Holding.{FitTaken}
use Rattle.trace_replay.specs.Between.{Between, CanGoOn, IsAt, Steps}
use Rattle.port_files.specs.Coming.{EndIsTrue, Reading}
use Rattle.net_state.specs.Held.{HoldFew}
use Rattle.round_runner.specs.Running.{count_inputs, feed_of}
use Rattle.network_runner.specs.Filling.{ReadersFit}
use Rattle.trace_replay.specs.Counting.{FitLinks}
use Rattle.trace_replay.specs.Ending.{CanGrow, HoldEnough}
use Rattle.trace_replay.specs.Trying.{AllWork}
use Rattle.trace_replay.specs.declared.bytes.TheConstants.{TRACE_FEED}
use Rattle.trace_replay.specs.Judging.{MayCome, Trial}
use Rattle.trace_replay.specs.Laws.{StartFits}
use Rattle.trace_replay.proofs.Onward.{deliver_comes, fire_comes, trap_comes}
use Rattle.trace_replay.proofs.Growths.{HasGrown, grown_is}

some_is : {A : Type 0} (x y : A) → Some x ≡ Some y → x ≡ y
some_is x y e = cc

-- what may be known of a state by what is kept of it
flows_of : {X : Type 0} (net : Network X) (inputs : List (List ℕ)) (now : Between X) (opened s : State X) → IsAt net inputs now opened s → HasFlows net s
flows_of net inputs now opened s at = at.stands.stands.now.stands.flows.count

opened_flows : {X : Type 0} (net : Network X) (inputs : List (List ℕ)) (now : Between X) (opened s : State X) → IsAt net inputs now opened s → HasFlows net opened
opened_flows net inputs now opened s at = at.stands.stands.since.whole

grown_more : (n limit capacity : ℕ) → n < limit → capacity ≡ min (2 * n) limit → n ≤ capacity
grown_more n limit capacity below doubled = subst (λ k. n ≤ k) (sym doubled) (Rattle.trace_replay.proofs.Widened.doubled_more n limit below)

grow_since : {X : Type 0} (net : Network X) (opened s next : State X) (l capacity : ℕ) → capacity_of (slice_get s.flows l) ≤ capacity → HasGrown s next l capacity → Since net opened s → Since net opened next
grow_since net opened s next l capacity more to since m link before new at then_ now = ⊎_elim
    (λ other. since m link before new at then_ other)
    (λ there.
    let old : SinceOpened link before to.flow = since m link before to.flow at then_ (ap (slice_get s.flows) there.0 ∙ to.here) in
    let low : to.flow.capacity ≤ capacity = subst (λ o. capacity_of o ≤ capacity) to.here more in
    subst (λ f. SinceOpened link before f) there.1 (record {
      arrived_then = old.arrived_then;
      sent = old.sent;
      arrived = old.arrived;
      taken = old.taken;
      out = old.out;
      fits = λ e. omega (arith, old.fits e, low);
    }))
    (set_is s.flows l (record to.flow { capacity = capacity }) m new (ap (λ w. slice_get w.flows m) to.is ∙ now))

delivery_is : {X : Type 0} (net : Network X) (s next : State X) (trapped : Bool) → trapped ≡ false → (if trapped then None else Some (after_delivery net s)) ≡ Some next → after_delivery net s ≡ next
delivery_is net s next true untrapped goes_so = cc
delivery_is net s next false untrapped goes_so = some_is (after_delivery net s) next goes_so

-- A line that steps may come, and the links still hold what they may.
pub steps_come : {X : Type 0} (t : Trial X) (inputs : List (List ℕ)) (now : Between X) (opened s next : State X) (line : Line) → IsWired t.net → AreLawful t.net → IsAt t.net inputs now opened s → Since t.net opened s
    → Steps t opened s line next → MayCome t opened s line next
steps_come t inputs now opened s next (Fire i a) wired lawful at since steps = fire_comes t opened s next i a wired lawful since steps.is_due steps.goes_so
steps_come t inputs now opened s next Deliver wired lawful at since steps =
    subst (MayCome t opened s Deliver) (delivery_is t.net s next s.trapped at.stands.stands.now.stands.untrapped steps.goes_so)
    (deliver_comes t opened s at.stands.stands.now.stands.untrapped (flows_of t.net inputs now opened s at) (opened_flows t.net inputs now opened s at) since)
steps_come t inputs now opened s next (TrapLine i a c) wired lawful at since steps =
    let comes : MayCome t opened s (TrapLine i a c) (record s { trapped = true }) = trap_comes t opened s i a c at.stands.stands.now.stands.untrapped since steps.is_due in
    subst (MayCome t opened s (TrapLine i a c)) (some_is (record s { trapped = true }) next (sym comes.goes_so ∙ steps.goes_so)) comes
steps_come t inputs now opened s next (Grow l capacity) wired lawful at since steps =
    let to : HasGrown s next l capacity = grown_is s next l capacity (slice_get s.flows l) refl steps.goes_so in
    let more : capacity_of (slice_get s.flows l) ≤ capacity = grown_more (capacity_of (slice_get s.flows l)) t.grow capacity steps.is_true.below steps.is_true.doubled in
    record {
      true_there = steps.is_true;
      goes_so = steps.goes_so;
      trap_fits = tt;
      fits = fits_now t.net opened next (grow_since t.net opened s next l capacity more to since);
    }
steps_come t inputs now opened s next Quiet wired lawful at since steps = record {
  true_there = steps.is_true;
  goes_so = steps.goes_so;
  trap_fits = tt;
  fits = let same : s ≡ next = some_is s next steps.goes_so in subst (λ u. FitFlows t.net.links opened.flows u.flows) same (fits_now t.net opened s since);
}
steps_come t inputs now opened s next (Stall i a l) wired lawful at since steps = record {
  true_there = steps.is_true;
  goes_so = steps.goes_so;
  trap_fits = tt;
  fits = let same : s ≡ next = some_is s next steps.goes_so in subst (λ u. FitFlows t.net.links opened.flows u.flows) same (fits_now t.net opened s since);
}
steps_come t inputs now opened s next Budget wired lawful at since steps = record {
  true_there = steps.is_true;
  goes_so = steps.goes_so;
  trap_fits = tt;
  fits = let same : s ≡ next = some_is s next steps.goes_so in subst (λ u. FitFlows t.net.links opened.flows u.flows) same (fits_now t.net opened s since);
}
steps_come t inputs now opened s next (FirstLine n l g) wired lawful at since steps = absurd steps.is_true
steps_come t inputs now opened s next (Inst k) wired lawful at since steps = absurd steps.is_true

pub steps_since : {X : Type 0} (t : Trial X) (inputs : List (List ℕ)) (now : Between X) (opened s next : State X) (line : Line) → IsWired t.net → AreLawful t.net → IsAt t.net inputs now opened s → Since t.net opened s
    → Steps t opened s line next → Rattle.trace_replay.specs.Judging.is_end line ≡ false → Since t.net (opened_by line opened next) next
steps_since t inputs now opened s next (Fire i a) wired lawful at since steps on = fire_since t.net opened s next i a wired lawful since steps.is_due steps.goes_so
steps_since t inputs now opened s next Deliver wired lawful at since steps on =
    subst (λ u. Since t.net u u) (delivery_is t.net s next s.trapped at.stands.stands.now.stands.untrapped steps.goes_so)
    (deliver_since t.net opened s (flows_of t.net inputs now opened s at) (opened_flows t.net inputs now opened s at) since)
steps_since t inputs now opened s next (Grow l capacity) wired lawful at since steps on =
    let to : HasGrown s next l capacity = grown_is s next l capacity (slice_get s.flows l) refl steps.goes_so in
    grow_since t.net opened s next l capacity (grown_more (capacity_of (slice_get s.flows l)) t.grow capacity steps.is_true.below steps.is_true.doubled) to since
steps_since t inputs now opened s next (TrapLine i a c) wired lawful at since steps on = cc
steps_since t inputs now opened s next Quiet wired lawful at since steps on = cc
steps_since t inputs now opened s next (Stall i a l) wired lawful at since steps on = cc
steps_since t inputs now opened s next Budget wired lawful at since steps on = cc
steps_since t inputs now opened s next (FirstLine n l g) wired lawful at since steps on = absurd steps.is_true
steps_since t inputs now opened s next (Inst k) wired lawful at since steps on = absurd steps.is_true

-- at the start of a run
pub start_since : {X : Type 0} (t : Trial X) (inputs : List (List ℕ)) (now : Between X) → IsAt t.net inputs now t.start t.start → StartFits t → Since t.net t.start t.start
start_since t inputs now at fits l link before flow at_link then_ here =
    let same : before ≡ flow = some_is before flow (sym then_ ∙ here) in
    subst (SinceOpened link before) same (record {
      arrived_then = λ inner. (at.stands.stands.since.each l link before before at_link inner then_ then_).all_arrived;
      sent = omega arith;
      arrived = refl;
      taken = omega arith;
      out = λ e. refl;
      fits = λ inner. fit_of t.net.links t.start.flows t.start.flows l link before before fits at_link then_ then_ inner;
    })
  where
    fit_of : (links : List Link) (opened flows : List Flow) (l : ℕ) (link : Link) (before flow : Flow) → FitFlows links opened flows → slice_get links l ≡ Some link
        → slice_get opened l ≡ Some before → slice_get flows l ≡ Some flow → is_input link ≡ false → held_since before flow ≤ flow.capacity
    fit_of [] opened flows l link before flow fit at then_ here inner = cc
    fit_of (first ∷ links) [] flows l link before flow fit at then_ here inner = cc
    fit_of (first ∷ links) (b ∷ opened) [] l link before flow fit at then_ here inner = cc
    fit_of (first ∷ links) (b ∷ opened) (f ∷ flows) zero link before flow fit at then_ here inner =
        let one : first ≡ link = cc in
        let two : b ≡ before = cc in
        let three : f ≡ flow = cc in
        subst (λ x. held_since x flow ≤ flow.capacity) two (subst (λ y. held_since b y ≤ y.capacity) three (fit.0 (ap is_input one ∙ inner)))
    fit_of (first ∷ links) (b ∷ opened) (f ∷ flows) (suc l) link before flow fit at then_ here inner = fit_of links opened flows l link before flow fit.1 at then_ here inner

-- A line read from the trace's feed leaves what is to come on the others.

-- no input link has the trace's feed
pub no_trace : (n : ℕ) → TRACE_FEED ≡ suc n → ⊥
no_trace n same = absurd (omega (arith, same))

readers_pulled : (links : List Link) (readings : List (Option Reading)) (a b : Inputs) → PullsOnlyAt TRACE_FEED a b → ReadersFit links readings a → ReadersFit links readings b
readers_pulled links readings a b pulls fit = record {
  count = fit.count;
  inputs = fit.inputs;
  open_feeds = λ l reading here. pulls.same_open (feed_of links l) ∙ fit.open_feeds l reading here;
  same_feeds = λ l reading here.
      subst (EndIsTrue reading) (sym (pulls.same_left (feed_of links l) (λ same. no_trace (count_inputs (take l links)) (sym same)))) (fit.same_feeds l reading here);
}

pub ready_pulled : {X : Type 0} (now next : Between X) (links : List Link) (came grow : ℕ) → next.held ≡ now.held → next.taken ≡ now.taken → next.readings ≡ now.readings → next.numbers ≡ now.numbers
    → PullsOnlyAt TRACE_FEED now.feeds next.feeds → CanGoOn now links came grow → CanGoOn next links came grow
ready_pulled now next links came grow held taken readings numbers pulls ready = record {
  links_are = ap (λ h. h.links) held ∙ ready.links_are;
  few = ready.few;
  few_held = subst (λ h. HoldFew h.capacities) (sym held) ready.few_held;
  work = subst (λ h. AllWork h.cells) (sym held) ready.work;
  taken_fits = subst (λ h. FitTaken h next.taken) (sym held) (subst (FitTaken now.held) (sym taken) ready.taken_fits);
  readers = subst (λ xs. ReadersFit links xs next.feeds) (sym readings) (readers_pulled links now.readings now.feeds next.feeds pulls ready.readers);
  came_for_each = ready.came_for_each;
  numbers = subst (FitLinks links) (sym numbers) ready.numbers;
  queues = subst (λ h. CanGrow grow h.cells links) (sym held) ready.queues;
  enough = subst (λ h. HoldEnough links h.capacities) (sym held) ready.enough;
}
