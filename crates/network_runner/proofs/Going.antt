-- A run that goes on, behind a delivery and behind the firings of a round.
use Rattle.std.proofs.Common.{◌≡◌, ℕ, zero, suc, ◌+◌, ◌*◌, ◌<◌, ◌≤◌, Bool, true, false, List, [], ◌∷◌, length, refl, sym, ap, subst, ◌∙◌, arith}
use Rattle.std.specs.Prelude.{Option, None, Some, IfNone, slice_get, slice_set, slice_index_or, ◌==◌}
use Rattle.net_model.specs.declared.wiring.End.{End}
use Rattle.net_model.specs.declared.wiring.End.TheVariants.{Leaf as AtLeaf, Net as AtNet}
use Rattle.net_model.specs.declared.wiring.Link.{Link}
use Rattle.net_model.specs.Cell.{Cell}
use Rattle.net_model.specs.Limits.{max_grow}
use Rattle.net_state.specs.Moving.{SameActors, SameMarks}
use Rattle.net_state.specs.Surveyed.{AreUntrapped}
use Rattle.net_state.specs.Working.{gives_of}
use Rattle.net_state.proofs.Gaining.{there_too}
use Rattle.net_state.proofs.Kept.{same_inbox, same_outbox, same_reader, same_then, same_writer}
use Rattle.round_runner.specs.declared.outcome.RoundEnd.{RoundEnd}
use Rattle.round_runner.specs.declared.outcome.RoundEnd.TheVariants as round
use Rattle.round_runner.specs.Running.{Running}
use Rattle.network_runner.specs.Asking.{Advances, IsSameRun, end_of, growth_left, one_if}
use Rattle.network_runner.specs.Closing.{GrowsBy}
use Rattle.network_runner.specs.Keeping.{GivesWithin, GoesOn, HaveJournals, HasParts, IsOpenLink, most_growth}
use Rattle.network_runner.specs.Rounding.{CountsTo, IfGoing}
use Rattle.network_runner.specs.declared.sending.Outlet.{Outlet}
use Rattle.network_runner.specs.Counting.{EndsAt, IsToPort}
use Rattle.network_runner.specs.Sending.{HasOutlet}
use Rattle.network_runner.proofs.Growable.{gives_same}
use Rattle.network_runner.proofs.Held.{growth_falls}

-- Lists of numbers of which one rises.

set_count : (xs : List ℕ) (l x : ℕ) → length (slice_set xs l x) ≡ length xs
set_count [] l x = refl
set_count (y ∷ xs) zero x = refl
set_count (y ∷ xs) (suc l) x = ap suc (set_count xs l x)

set_rises : (xs : List ℕ) (l k x : ℕ) → slice_index_or xs l 0 ≤ x → slice_index_or xs k 0 ≤ slice_index_or (slice_set xs l x) k 0
set_rises [] l k x more = omega arith
set_rises (y ∷ xs) zero zero x more = more
set_rises (y ∷ xs) zero (suc k) x more = omega arith
set_rises (y ∷ xs) (suc l) zero x more = omega arith
set_rises (y ∷ xs) (suc l) (suc k) x more = set_rises xs l k x more

set_within : (xs : List ℕ) (l k x most : ℕ) → x ≤ most → slice_index_or xs k 0 ≤ most → slice_index_or (slice_set xs l x) k 0 ≤ most
set_within [] l k x most few all = all
set_within (y ∷ xs) zero zero x most few all = few
set_within (y ∷ xs) zero (suc k) x most few all = all
set_within (y ∷ xs) (suc l) zero x most few all = all
set_within (y ∷ xs) (suc l) (suc k) x most few all = set_within xs l k x most few all

-- Cells that have the actors that they had.

module _ {X : Type 0} (old new : List (Cell X)) (same : SameActors old new) where
  gives_still : (least most : ℕ) → least ≤ most → (end : End) → GivesWithin old least end → GivesWithin new most end
  gives_still least most more (AtLeaf inst port) within = λ a.
      let is : gives_of (slice_get new inst.0) a port ≡ gives_of (slice_get old inst.0) a port = gives_same old new same inst.0 a port in
      let few : gives_of (slice_get old inst.0) a port ≤ least = within a in
      omega (arith, more, is, few)
  gives_still least most more (AtNet port) within = tt

  open_still : (grow least most : ℕ) (link : Link) → least ≤ most → IsOpenLink old grow least link → IsOpenLink new grow most link
  open_still grow least most link more was = record {
    writer = same_writer old new same link.from was.writer;
    reader = same_reader old new same link.to was.reader;
    gives = gives_still least most more link.from was.gives;
    queues = λ inner inside. (
      same_outbox old new same link.from grow was.writer (was.queues inner inside).0,
      same_inbox old new same link.to grow was.reader (was.queues inner inside).1,
    );
  }

  journals_still : (burst : ℕ) → HaveJournals burst old → HaveJournals burst new
  journals_still burst have i cell at =
      let before = there_too new old i cell same.count at in
      let is : cell.journal_room ≡ before.0.journal_room = (same.each i before.0 cell before.1 at).same_journal_room in
      let room : burst ≤ before.0.journal_room = have i before.0 before.1 in
      omega (arith, is, room)

  untrapped_still : SameMarks old new → AreUntrapped old → AreUntrapped new
  untrapped_still marks none i cell at =
      let before = there_too new old i cell same.count at in
      marks i before.0 cell before.1 at ∙ none i before.0 before.1

-- A delivery.

pub going_delivered : {X : Type 0} (old new : Running (Cell X)) (marks asked instances : ℕ) → SameActors old.held.cells new.held.cells → SameMarks old.held.cells new.held.cells
    → new.held.links ≡ old.held.links → new.held.capacities ≡ old.held.capacities → new.burst ≡ old.burst → new.grow ≡ old.grow → new.rounds ≡ old.rounds → new.idle ≡ old.idle
    → new.counts.firings ≡ old.counts.firings
    → GoesOn old marks asked instances → GoesOn new marks asked instances
going_delivered {X} old new marks asked instances actors same_marks links capacities burst grow rounds idle firings goes = record {
  untrapped = untrapped_still old.held.cells new.held.cells actors same_marks goes.untrapped;
  journals = subst (λ b. HaveJournals b new.held.cells) (sym burst) (journals_still old.held.cells new.held.cells actors old.burst goes.journals);
  few_held = λ l. subst (λ cs. slice_index_or cs l 0 ≤ 4294967295) (sym capacities) (goes.few_held l);
  holds_each = ap (λ cs. length cs) capacities ∙ (goes.holds_each ∙ ap (λ ls. length ls) (sym links));
  joined = λ l link at.
      subst (λ g. IsOpenLink new.held.cells g (slice_index_or new.held.capacities l 0) link) (sym grow)
      (subst (λ cs. IsOpenLink new.held.cells old.grow (slice_index_or cs l 0) link) (sym capacities)
      (open_still old.held.cells new.held.cells actors old.grow (slice_index_or old.held.capacities l 0) (slice_index_or old.held.capacities l 0) link (omega arith)
      (goes.joined l link (ap (λ ls. slice_get ls l) (sym links) ∙ at))));
  mark_for_each = goes.mark_for_each ∙ sym actors.count;
  asked_each_round = λ some. goes.asked_each_round (subst (λ n. 0 < n) actors.count some) ∙ sym rounds;
  same_instances = goes.same_instances;
  few_rounds =
      subst (λ i. new.rounds + 2 * growth_left new.grow new.held.capacities ≤ 2 * new.counts.firings + one_if i + 2 * most_growth) (sym idle)
      (subst (λ f. new.rounds + 2 * growth_left new.grow new.held.capacities ≤ 2 * f + one_if old.idle + 2 * most_growth) (sym firings)
      (subst (λ cs. new.rounds + 2 * growth_left new.grow cs ≤ 2 * old.counts.firings + one_if old.idle + 2 * most_growth) (sym capacities)
      (subst (λ g. new.rounds + 2 * growth_left g old.held.capacities ≤ 2 * old.counts.firings + one_if old.idle + 2 * most_growth) (sym grow)
      (subst (λ r. r + 2 * growth_left old.grow old.held.capacities ≤ 2 * old.counts.firings + one_if old.idle + 2 * most_growth) (sym rounds) goes.few_rounds))));
  few_firings = subst (λ f. f ≤ 1000000000000) (sym firings) goes.few_firings;
}

-- Firings.

pub if_goes : (answer : RoundEnd) (P : Type 0) → end_of answer ≡ None → IfGoing answer P → P
if_goes (round.Fired n) P going is = is
if_goes round.Idle P going is = is
if_goes (round.Grew link capacity) P going is = is
if_goes (round.End how) P going is = cc

-- a capacity rises or stays
caps_rise : (answer : RoundEnd) (grow : ℕ) (old new : List ℕ) → GrowsBy answer grow old new → (l : ℕ) → slice_index_or old l 0 ≤ slice_index_or new l 0
caps_rise (round.Fired n) grow old new is l = subst (λ cs. slice_index_or old l 0 ≤ slice_index_or cs l 0) (sym is) (omega arith)
caps_rise round.Idle grow old new is l = subst (λ cs. slice_index_or old l 0 ≤ slice_index_or cs l 0) (sym is) (omega arith)
caps_rise (round.Grew link capacity) grow old new is l = subst (λ cs. slice_index_or old l 0 ≤ slice_index_or cs l 0) (sym is.3) (set_rises old link.0 l capacity (let more = is.1 in omega (arith, more)))
caps_rise (round.End how) grow old new is l = subst (λ cs. slice_index_or old l 0 ≤ slice_index_or cs l 0) (sym is) (omega arith)

caps_count : (answer : RoundEnd) (grow : ℕ) (old new : List ℕ) → GrowsBy answer grow old new → length new ≡ length old
caps_count (round.Fired n) grow old new is = ap (λ cs. length cs) is
caps_count round.Idle grow old new is = ap (λ cs. length cs) is
caps_count (round.Grew link capacity) grow old new is = ap (λ cs. length cs) is.3 ∙ set_count old link.0 capacity
caps_count (round.End how) grow old new is = ap (λ cs. length cs) is

caps_few : (answer : RoundEnd) (grow : ℕ) (old new : List ℕ) → grow ≤ max_grow → GrowsBy answer grow old new → (l : ℕ) → slice_index_or old l 0 ≤ 4294967295 → slice_index_or new l 0 ≤ 4294967295
caps_few (round.Fired n) grow old new few is l all = subst (λ cs. slice_index_or cs l 0 ≤ 4294967295) (sym is) all
caps_few round.Idle grow old new few is l all = subst (λ cs. slice_index_or cs l 0 ≤ 4294967295) (sym is) all
caps_few (round.Grew link capacity) grow old new few is l all =
    let within : capacity ≤ grow = is.2 in
    subst (λ cs. slice_index_or cs l 0 ≤ 4294967295) (sym is.3) (set_within old link.0 l capacity 4294967295 (omega (arith, within, few)) all)
caps_few (round.End how) grow old new few is l all = subst (λ cs. slice_index_or cs l 0 ≤ 4294967295) (sym is) all

one_at_most : (b : Bool) → one_if b ≤ 1
one_at_most true = omega arith
one_at_most false = omega arith

-- how far growth and firings still go: `spare` is twice what links may still grow, and what an idle round leaves
pub potential : (answer : RoundEnd) (grow fired : ℕ) (old new : List ℕ) (was : Bool) → GrowsBy answer grow old new → CountsTo answer fired → (answer ≡ round.Idle → was ≡ false) → end_of answer ≡ None
    → 1 + 2 * growth_left grow new + one_if was ≤ 2 * fired + 2 * growth_left grow old + one_if (fired == 0)
potential (round.Fired n) grow fired old new was is counts idle going =
    let some : 0 < n = counts.1 in
    let fired_is : fired ≡ n = counts.0 in
    let same : growth_left grow new ≡ growth_left grow old = ap (growth_left grow) is in
    let most : one_if was ≤ 1 = one_at_most was in
    omega (arith, some, fired_is, same, most)
potential round.Idle grow fired old new was is counts idle going =
    let none : one_if was ≡ 0 = ap one_if (idle refl) in
    let same : growth_left grow new ≡ growth_left grow old = ap (growth_left grow) is in
    subst (λ f. 1 + 2 * growth_left grow new + one_if was ≤ 2 * f + 2 * growth_left grow old + one_if (f == 0)) (sym counts) (omega (arith, none, same))
potential (round.Grew link capacity) grow fired old new was is counts idle going =
    let less : growth_left grow (slice_set old link.0 capacity) < growth_left grow old = growth_falls grow old link.0 capacity is.0 is.1 is.2 in
    let same : growth_left grow new ≡ growth_left grow (slice_set old link.0 capacity) = ap (growth_left grow) is.3 in
    let most : one_if was ≤ 1 = one_at_most was in
    omega (arith, less, same, most)
potential (round.End how) grow fired old new was is counts idle going = cc

pub going_fired : {X : Type 0} (old new : Running (Cell X)) (marks asked instances marks_now asked_now instances_now : ℕ) (answer : RoundEnd) (fired : ℕ)
    → SameActors old.held.cells new.held.cells → AreUntrapped new.held.cells → new.held.links ≡ old.held.links → GrowsBy answer old.grow old.held.capacities new.held.capacities
    → new.burst ≡ old.burst → new.grow ≡ old.grow → old.grow ≤ max_grow → new.rounds ≡ suc old.rounds → new.idle ≡ (fired == 0)
    → new.counts.firings ≡ old.counts.firings + fired → new.counts.firings ≤ 1000000000000
    → CountsTo answer fired → (answer ≡ round.Idle → old.idle ≡ false) → end_of answer ≡ None
    → marks_now ≡ marks → asked_now ≡ suc old.rounds → instances_now ≡ marks
    → GoesOn old marks asked instances → GoesOn new marks_now asked_now instances_now
going_fired {X} old new marks asked instances marks_now asked_now instances_now answer fired actors untrapped links grows burst grow few_grown rounds idle firings few counts not_idle going marks_are asked_are instances_are goes = record {
  untrapped = untrapped;
  journals = subst (λ b. HaveJournals b new.held.cells) (sym burst) (journals_still old.held.cells new.held.cells actors old.burst goes.journals);
  few_held = λ l. caps_few answer old.grow old.held.capacities new.held.capacities few_grown grows l (goes.few_held l);
  holds_each = caps_count answer old.grow old.held.capacities new.held.capacities grows ∙ (goes.holds_each ∙ ap (λ ls. length ls) (sym links));
  joined = λ l link at.
      subst (λ g. IsOpenLink new.held.cells g (slice_index_or new.held.capacities l 0) link) (sym grow)
      (open_still old.held.cells new.held.cells actors old.grow (slice_index_or old.held.capacities l 0) (slice_index_or new.held.capacities l 0) link
      (caps_rise answer old.grow old.held.capacities new.held.capacities grows l)
      (goes.joined l link (ap (λ ls. slice_get ls l) (sym links) ∙ at)));
  mark_for_each = marks_are ∙ (goes.mark_for_each ∙ sym actors.count);
  asked_each_round = λ some. asked_are ∙ sym rounds;
  same_instances = λ some. marks_are ∙ sym instances_are;
  few_rounds =
      let was : old.rounds + 2 * growth_left old.grow old.held.capacities ≤ 2 * old.counts.firings + one_if old.idle + 2 * most_growth = goes.few_rounds in
      let falls : 1 + 2 * growth_left old.grow new.held.capacities + one_if old.idle ≤ 2 * fired + 2 * growth_left old.grow old.held.capacities + one_if (fired == 0) =
      potential answer old.grow fired old.held.capacities new.held.capacities old.idle grows counts not_idle going in
      let same : growth_left new.grow new.held.capacities ≡ growth_left old.grow new.held.capacities = ap (λ g. growth_left g new.held.capacities) grow in
      let idle_is : one_if new.idle ≡ one_if (fired == 0) = ap one_if idle in
      omega (arith, was, falls, same, idle_is, rounds, firings);
  few_firings = few;
}

if_none : {A : Type 0} (o : Option A) (P : Type 0) → (o ≡ None → P) → IfNone o P
if_none None P f = f refl
if_none (Some x) P f = tt

-- firings bring the run nearer to its end
pub advances_fired : {C : Type 0} (old new : Running C) (answer : RoundEnd) (fired : ℕ) → GrowsBy answer old.grow old.held.capacities new.held.capacities → new.grow ≡ old.grow → CountsTo answer fired
    → (answer ≡ round.Idle → old.idle ≡ false) → new.idle ≡ (fired == 0) → new.counts.firings ≡ old.counts.firings + fired → IfNone (end_of answer) (Advances old new)
advances_fired old new answer fired grows grow counts not_idle idle firings = if_none (end_of answer) (Advances old new) (λ going.
    let falls : 1 + 2 * growth_left old.grow new.held.capacities + one_if old.idle ≤ 2 * fired + 2 * growth_left old.grow old.held.capacities + one_if (fired == 0) =
    potential answer old.grow fired old.held.capacities new.held.capacities old.idle grows counts not_idle going in
    let same : growth_left new.grow new.held.capacities ≡ growth_left old.grow new.held.capacities = ap (λ g. growth_left g new.held.capacities) grow in
    let idle_is : one_if new.idle ≡ one_if (fired == 0) = ap one_if idle in
    omega (arith, falls, same, idle_is, firings))

-- a link to an output ends at one of them
pub to_ports : {C : Type 0} (run : Running C) (links : List Link) (outlets : List Outlet) (came n cells count : ℕ) → HasParts run links outlets came n cells → count ≡ length outlets → IsToPort links count
to_ports run links outlets came n cells count parts same l link at = by_end link.to (parts.led_to l link at)
  where
    by_end : (end : End) → HasOutlet outlets link end → EndsAt link count end
    by_end (AtLeaf inst port) has = tt
    by_end (AtNet port) has = (subst (λ m. suc port ≤ m) (sym same) has.0, has.1)

-- A run stays the same, as rounds are made.

pub run_then : {X : Type 0} (a b c : Running (Cell X)) → IsSameRun a b → IsSameRun b c → IsSameRun a c
run_then a b c one two = record {
  same_links = two.same_links ∙ one.same_links;
  same_actors = same_then a.held.cells b.held.cells c.held.cells one.same_actors two.same_actors;
  same_ins = two.same_ins ∙ one.same_ins;
  same_outs = two.same_outs ∙ one.same_outs;
  same_reads = two.same_reads ∙ one.same_reads;
  same_writes = two.same_writes ∙ one.same_writes;
  same_kind = two.same_kind ∙ one.same_kind;
  same_burst = two.same_burst ∙ one.same_burst;
  same_grow = two.same_grow ∙ one.same_grow;
  same_workers = two.same_workers ∙ one.same_workers;
}
