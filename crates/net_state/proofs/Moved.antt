-- A delivery of inner and output links: the state that the cells hold after it.
use Rattle.std.proofs.Common.{◌≡◌, ℕ, zero, suc, ◌+◌, ◌-◌, ◌<◌, ◌≤◌, min, true, false, List, [], ◌∷◌, ◌++◌, ℤ, length, map, take, drop, refl, sym, ap, subst, ◌∙◌, arith, append-nil}
use Rattle.std.specs.Prelude.{Some, slice_get, slice_index_or, if◌then◌else◌}
use Rattle.std.proofs.lemmas.List.{take_all, drop-append-le, drop_all, length-take-le, take-append-drop}
use Rattle.rvc_base.specs.Storing.{conv}
use Rattle.rvc_base.specs.Lawful.{tokens_on}
use Rattle.net_model.specs.declared.wiring.End.{End}
use Rattle.net_model.specs.declared.wiring.End.TheVariants.{Leaf as AtLeaf, Net as AtNet}
use Rattle.net_model.specs.declared.wiring.Link.{Link}
use Rattle.net_model.specs.Network.{Network, is_input, is_output, is_outside, is_leaf_port}
use Rattle.net_model.specs.State.{Flow, State, waiting, untaken, inbox}
use Rattle.net_model.specs.Event.{each_flow}
use Rattle.net_model.specs.Trace.{arrivals, delivered}
use Rattle.net_model.specs.Cell.{Cell}
use Rattle.net_state.specs.Moving.{AreApart, EachGains, EachClears, sent_of, sent_from, carried, arriving, IsWriter, IsOutput}
use Rattle.net_state.specs.Standing.{AreAllOut, InboxesHold, IsNetOf, IsOpened, LiesIn, IsHeld, AreHeld, Stands, inside_delivered, after_inside}
use Rattle.net_state.proofs.Gaining.{some_is, there_too}
use Rattle.net_state.proofs.Coming.{by_bool, is_own_port, is_that_port, if_true, if_false, on_cell}
use Rattle.net_model.specs.Ready.{tokens_of, waiting_at}
use Rattle.net_state.specs.Held.{AreCounted, IsReader}
use Rattle.net_state.proofs.Flows.{changed_at, changed_count, inbox_at, length_waiting}

-- a part that stays is the same of all cells
pub same_part : {X Y : Type 0} (part : Cell X → Y) (old new : List (Cell X)) → length new ≡ length old
    → ((i : ℕ) (before after : Cell X) → slice_get old i ≡ Some before → slice_get new i ≡ Some after → part after ≡ part before)
    → map part new ≡ map part old
same_part part [] [] count same = refl
same_part part [] (cell ∷ new) count same = absurd (omega (arith, count))
same_part part (cell ∷ old) [] count same = absurd (omega (arith, count))
same_part part (before ∷ old) (after ∷ new) count same =
    let rest : map part new ≡ map part old = same_part part old new (omega (arith, count)) (λ i. same (suc i)) in
    ap (λ x. x ∷ map part new) (same zero before after refl refl) ∙ ap (λ xs. part before ∷ xs) rest

-- what waits once all has arrived
pub waiting_all : (sent : List ℤ) (arrived taken : ℕ) → taken ≤ arrived → arrived ≤ length sent
    → drop taken (take (length sent) sent) ≡ drop taken (take arrived sent) ++ drop arrived sent
waiting_all sent arrived taken before within =
    let len : length (take arrived sent) ≡ arrived = length-take-le arrived sent within in
    ap (drop taken) (take_all (length sent) sent (omega arith) ∙ sym (take-append-drop arrived sent))
    ∙ drop-append-le taken (take arrived sent) (drop arrived sent) (omega (arith, len))

-- the flow of an inner link after a delivery
all_arrived : (flow : Flow) → flow.arrived ≤ length flow.sent → flow.arrived + (length flow.sent - flow.arrived) ≡ length flow.sent
all_arrived flow within = omega (arith, within)

arrives_inside : (link : Link) (flow : Flow) → is_input link ≡ false → arrivals link flow ≡ length flow.sent - flow.arrived
arrives_inside link flow inner =
    if_false (is_input link) (min (flow.capacity - untaken flow) (length flow.sent - flow.arrived)) (length flow.sent - flow.arrived) inner

-- what arrives on a link is what its cells carry
pub waits_more : {X : Type 0} (cells : List (Cell X)) (link : Link) (flow : Flow) (capacity : ℕ) → IsHeld cells link flow capacity
    → is_output link ≡ false → waiting (inside_delivered link flow) ≡ waiting flow ++ carried cells link
waits_more cells link flow capacity held not_out = by_from link.from refl
  where
    by_from : (end : End) → link.from ≡ end → waiting (inside_delivered link flow) ≡ waiting flow ++ carried cells link
    by_from (AtNet port) from =
        let is_in : is_input link ≡ true = ap is_outside from in
        let none : carried cells link ≡ [] = ap (λ end. map (conv link.kind) (sent_from cells end)) from in
        ap waiting (if_true (is_input link) flow (delivered link flow) is_in)
        ∙ (sym (append-nil (waiting flow)) ∙ ap (λ ts. waiting flow ++ ts) (sym none))
    by_from (AtLeaf inst port) from =
        let not_in : is_input link ≡ false = ap is_outside from in
        let lies : drop flow.arrived flow.sent ≡ carried cells link =
        (let l : LiesIn cells link (drop flow.arrived flow.sent) (AtLeaf inst port) = subst (LiesIn cells link (drop flow.arrived flow.sent)) from held.lies in l)
        ∙ sym (ap (λ end. map (conv link.kind) (sent_from cells end)) from) in
        let arrived : flow.arrived + arrivals link flow ≡ length flow.sent = ap (λ n. flow.arrived + n) (arrives_inside link flow not_in) ∙ all_arrived flow held.arrived in
        let taken : (if is_output link then flow.taken + arrivals link flow else flow.taken) ≡ flow.taken =
        if_false (is_output link) (flow.taken + arrivals link flow) flow.taken not_out in
        ap waiting (if_false (is_input link) flow (delivered link flow) not_in)
        ∙ (ap (λ n. drop n (take (flow.arrived + arrivals link flow) flow.sent)) taken
        ∙ (ap (λ n. drop flow.taken (take n flow.sent)) arrived
        ∙ (waiting_all flow.sent flow.arrived flow.taken held.taken held.arrived
        ∙ ap (λ ts. waiting flow ++ ts) lies)))

not_output : (i p : ℕ) (link : Link) → is_leaf_port i p link.to ≡ true → is_output link ≡ false
not_output i p link leads = ap is_outside (is_that_port i p link.to leads)

-- the tokens before a port after a delivery
pub inbox_delivered : {X : Type 0} (cells : List (Cell X)) (i p : ℕ) (links : List Link) (flows : List Flow) (capacities : List ℕ)
    → AreHeld cells links flows capacities
    → inbox i p links (each_flow inside_delivered links flows) ≡ inbox i p links flows ++ arriving cells links i p
inbox_delivered cells i p [] flows capacities held = refl
inbox_delivered cells i p (link ∷ links) [] capacities held = absurd (omega (arith, held.count))
inbox_delivered cells i p (link ∷ links) (flow ∷ flows) capacities held =
    by_bool (is_leaf_port i p link.to)
    (λ leads.
    if_true (is_leaf_port i p link.to) (waiting (inside_delivered link flow)) (inbox i p links (each_flow inside_delivered links flows)) leads
    ∙ (waits_more cells link flow (slice_index_or capacities zero 0) (held.each zero link flow refl refl) (not_output i p link leads)
    ∙ (ap (λ ts. ts ++ carried cells link) (sym (if_true (is_leaf_port i p link.to) (waiting flow) (inbox i p links flows) leads))
    ∙ ap (λ ts. (if is_leaf_port i p link.to then waiting flow else inbox i p links flows) ++ ts)
    (sym (if_true (is_leaf_port i p link.to) (carried cells link) (arriving cells links i p) leads)))))
    (λ leads.
    if_false (is_leaf_port i p link.to) (waiting (inside_delivered link flow)) (inbox i p links (each_flow inside_delivered links flows)) leads
    ∙ (inbox_delivered cells i p links flows (drop 1 capacities) (record {
      count = omega (arith, held.count);
      each = λ l other that at there. subst (λ n. IsHeld cells other that n) (next_number capacities l) (held.each (suc l) other that at there);
    })
    ∙ (ap (λ ts. ts ++ arriving cells links i p) (sym (if_false (is_leaf_port i p link.to) (waiting flow) (inbox i p links flows) leads))
    ∙ ap (λ ts. (if is_leaf_port i p link.to then waiting flow else inbox i p links flows) ++ ts)
    (sym (if_false (is_leaf_port i p link.to) (carried cells link) (arriving cells links i p) leads)))))
  where
    next_number : (numbers : List ℕ) (l : ℕ) → slice_index_or numbers (suc l) 0 ≡ slice_index_or (drop 1 numbers) l 0
    next_number [] l = refl
    next_number (n ∷ numbers) l = refl

-- Links after a delivery.

-- nothing lies in any outbox
abbrev pub NoneSent : {X : Type 0} → List (Cell X) → Type 0
NoneSent cells = (i p : ℕ) → IsOutput cells i p → sent_of (slice_get cells i) p ≡ []

held_inside : {X : Type 0} (new : List (Cell X)) (link : Link) (flow : Flow) (capacity : ℕ) → flow.capacity ≡ capacity → flow.arrived ≤ length flow.sent
    → flow.taken ≤ flow.arrived → (is_output link ≡ true → flow.taken ≡ flow.arrived) → NoneSent new → IsWriter new link.from
    → is_input link ≡ false → IsHeld new link (delivered link flow) capacity
held_inside new link flow capacity same within before gone none writer not_in =
    let more : arrivals link flow ≡ length flow.sent - flow.arrived = arrives_inside link flow not_in in
    let arrived : flow.arrived + arrivals link flow ≡ length flow.sent = ap (λ n. flow.arrived + n) more ∙ all_arrived flow within in
    record {
      lies = lies_nowhere link.from writer (drop_all (flow.arrived + arrivals link flow) flow.sent (omega (arith, arrived)));
      capacity_is = same;
      arrived = omega (arith, arrived);
      taken = by_bool (is_output link)
          (λ out. let taken : (if is_output link then flow.taken + arrivals link flow else flow.taken) ≡ flow.taken + arrivals link flow =
          if_true (is_output link) (flow.taken + arrivals link flow) flow.taken out in omega (arith, taken, before))
          (λ inner. let taken : (if is_output link then flow.taken + arrivals link flow else flow.taken) ≡ flow.taken =
          if_false (is_output link) (flow.taken + arrivals link flow) flow.taken inner in omega (arith, taken, before));
      gone = λ out. if_true (is_output link) (flow.taken + arrivals link flow) flow.taken out ∙ ap (λ n. n + arrivals link flow) (gone out);
    }
  where
    lies_nowhere : (end : End) → IsWriter new end → drop (flow.arrived + arrivals link flow) flow.sent ≡ [] → LiesIn new link (drop (flow.arrived + arrivals link flow) flow.sent) end
    lies_nowhere (AtNet port) writer nothing = tt
    lies_nowhere (AtLeaf inst port) writer nothing = nothing ∙ sym (ap (map (conv link.kind)) (none inst.0 port writer))

pub held_delivered : {X : Type 0} (old new : List (Cell X)) (link : Link) (flow : Flow) (capacity : ℕ) → IsHeld old link flow capacity → NoneSent new
    → IsWriter new link.from → IsHeld new link (inside_delivered link flow) capacity
held_delivered old new link flow capacity held none writer = by_from link.from refl
  where
    by_from : (end : End) → link.from ≡ end → IsHeld new link (inside_delivered link flow) capacity
    by_from (AtNet port) from =
        subst (λ f. IsHeld new link f capacity) (sym (if_true (is_input link) flow (delivered link flow) (ap is_outside from))) (record {
          lies = subst (LiesIn new link (drop flow.arrived flow.sent)) (sym from) tt;
          capacity_is = held.capacity_is;
          arrived = held.arrived;
          taken = held.taken;
          gone = held.gone;
        })
    by_from (AtLeaf inst port) from =
        subst (λ f. IsHeld new link f capacity) (sym (if_false (is_input link) flow (delivered link flow) (ap is_outside from)))
        (held_inside new link flow capacity held.capacity_is held.arrived held.taken held.gone none writer (ap is_outside from))

pub all_held_delivered : {X : Type 0} (old new : List (Cell X)) (links : List Link) (flows : List Flow) (capacities : List ℕ)
    → AreHeld old links flows capacities → NoneSent new → ((l : ℕ) (link : Link) → slice_get links l ≡ Some link → IsWriter new link.from)
    → AreHeld new links (each_flow inside_delivered links flows) capacities
all_held_delivered old new links flows capacities held none writers = record {
  count = changed_count inside_delivered links flows held.count;
  each = λ l link flow at there.
      let was = changed_at inside_delivered links flows l flow there in
      let same : was.link ≡ link = some_is was.link link (sym was.at_link ∙ at) in
      subst (λ f. IsHeld new link f (slice_index_or capacities l 0)) (sym (was.is ∙ ap (λ k. inside_delivered k was.flow) same))
      (held_delivered old new link was.flow (slice_index_or capacities l 0) (held.each l link was.flow at was.at_flow) none (writers l link at));
}

-- The whole.

module _ {X : Type 0} (old mid new : List (Cell X)) (links : List Link) (gains : EachGains (arriving old links) old mid) (clears : EachClears mid new) where
  pub moved_count : length new ≡ length old
  moved_count = clears.count ∙ gains.count

  between : (i : ℕ) (before : Cell X) → slice_get old i ≡ Some before → (cell : Cell X) × (slice_get mid i ≡ Some cell)
  between i before at = there_too old mid i before (sym gains.count) at

  pub same_state : (i : ℕ) (before after : Cell X) → slice_get old i ≡ Some before → slice_get new i ≡ Some after → after.state ≡ before.state
  same_state i before after at there =
      let cell = between i before at in
      (clears.each i cell.0 after cell.1 there).state ∙ (gains.each i before cell.0 at cell.1).state

  pub moved_actor : (i : ℕ) (before after : Cell X) → slice_get old i ≡ Some before → slice_get new i ≡ Some after → after.actor ≡ before.actor
  moved_actor i before after at there =
      let cell = between i before at in
      (clears.each i cell.0 after cell.1 there).actor.same_actor ∙ (gains.each i before cell.0 at cell.1).actor.same_actor

  pub moved_inbox : (i p : ℕ) (before after : Cell X) → slice_get old i ≡ Some before → slice_get new i ≡ Some after → p < before.actor.ins
      → tokens_on after.inboxes p ≡ tokens_on before.inboxes p ++ arriving old links i p
  moved_inbox i p before after at there low =
      let cell = between i before at in
      let gained = gains.each i before cell.0 at cell.1 in
      (clears.each i cell.0 after cell.1 there).inboxes p (subst (λ actor. p < actor.ins) (sym gained.actor.same_actor) low) ∙ gained.inboxes p low

  pub none_sent : NoneSent new
  none_sent i p output =
      let on = on_cell (slice_get new i) (λ cell. p < cell.actor.outs) output in
      let cell = there_too new mid i on.0 clears.count on.1 in
      ap (λ o. sent_of o p) on.1 ∙ (clears.each i cell.0 on.0 cell.1 on.1).empty.0 p on.2

  pub net_stays : (net : Network X) → IsNetOf net old links → IsNetOf net new links
  net_stays net is = record {
    actors = is.actors ∙ sym (same_part (λ cell. cell.actor) old new moved_count moved_actor);
    links_are = is.links_are;
  }

  pub inside_stands : (net : Network X) (capacities : List ℕ) (s : State X) → IsNetOf net old links → Stands net old capacities s
      → ((l : ℕ) (link : Link) → slice_get links l ≡ Some link → IsWriter new link.from) → Stands net new capacities (after_inside net s)
  inside_stands net capacities s is stands writers = record {
    actors = record {
      count = stands.actors.count ∙ sym moved_count;
      each = λ i after there free.
          let before = there_too new old i after moved_count there in
          let cell = between i before.0 before.1 in
          let marked : after.trapped ≡ before.0.trapped = (clears.each i cell.0 after cell.1 there).trapped ∙ (gains.each i before.0 cell.0 before.1 cell.1).trapped in
          stands.actors.each i before.0 before.1 (sym marked ∙ free) ∙ ap Some (sym (same_state i before.0 after before.1 there));
    };
    inboxes = λ i after there p low.
        let before = there_too new old i after moved_count there in
        let low_before : p < before.0.actor.ins = subst (λ actor. p < actor.ins) (moved_actor i before.0 after before.1 there) low in
        moved_inbox i p before.0 after before.1 there low_before
        ∙ (ap (λ ts. ts ++ arriving old links i p) (stands.inboxes i before.0 before.1 p low_before)
        ∙ (ap (λ ls. inbox i p net.links s.flows ++ arriving old ls i p) (sym is.links_are)
        ∙ sym (inbox_delivered old i p net.links s.flows capacities stands.flows)));
    flows = all_held_delivered old new net.links s.flows capacities stands.flows none_sent
        (λ l link at. writers l link (ap (λ ls. slice_get ls l) (sym is.links_are) ∙ at));
    untrapped = stands.untrapped;
  }

-- all has arrived then on inner and output links
pub inside_arrived : {X : Type 0} (cells : List (Cell X)) (links : List Link) (flows : List Flow) (capacities : List ℕ) → AreHeld cells links flows capacities
    → (l : ℕ) (link : Link) (flow : Flow) → slice_get links l ≡ Some link → is_input link ≡ false → slice_get (each_flow inside_delivered links flows) l ≡ Some flow
    → flow.arrived ≡ length flow.sent
inside_arrived cells links flows capacities held l link flow at inner there =
    let was = changed_at inside_delivered links flows l flow there in
    let same : was.link ≡ link = some_is was.link link (sym was.at_link ∙ at) in
    let is : flow ≡ delivered link was.flow =
    was.is ∙ (ap (λ k. inside_delivered k was.flow) same ∙ if_false (is_input link) was.flow (delivered link was.flow) inner) in
    ap (λ f. f.arrived) is
    ∙ (ap (λ n. was.flow.arrived + n) (arrives_inside link was.flow inner)
    ∙ (all_arrived was.flow (held.each l link was.flow at was.at_flow).arrived ∙ sym (ap (λ f. length f.sent) is)))

-- what a delivery opens
pub opened_inside : {X : Type 0} (new : List (Cell X)) (links : List Link) (capacities waited : List ℕ) (flows : List Flow) → AreCounted new links waited → AreApart links
    → AreHeld new links flows capacities → InboxesHold new links flows → ((l : ℕ) (link : Link) → slice_get links l ≡ Some link → IsReader new link.to)
    → ((l : ℕ) (link : Link) (flow : Flow) → slice_get links l ≡ Some link → is_input link ≡ false → slice_get flows l ≡ Some flow → flow.arrived ≡ length flow.sent)
    → IsOpened links waited flows flows
opened_inside new links capacities waited flows counted apart held hold readers arrived = record {
  whole = held.count;
  each = λ l link before flow at inner there that.
      let same : flow ≡ before = some_is flow before (sym that ∙ there) in
      record {
        all_arrived = arrived l link before at inner there;
        none_since = ap (λ f. f.arrived) same;
        waited_is = by_end l link before at there link.to refl;
      };
}
  where
    by_end : (l : ℕ) (link : Link) (before : Flow) → slice_get links l ≡ Some link → slice_get flows l ≡ Some before → (end : End) → link.to ≡ end
        → untaken before ≡ slice_index_or waited l 0
    by_end l link before at there (AtNet port) to =
        let none : length (waiting_at new link.to) ≡ 0 = ap (λ e. length (waiting_at new e)) to in
        let gone : before.taken ≡ before.arrived = (held.each l link before at there).gone (ap is_outside to) in
        omega (arith, none, gone, counted.each l link at)
    by_end l link before at there (AtLeaf inst port) to =
        let on = on_cell (slice_get new inst.0) (λ cell. port < cell.actor.ins) (subst (IsReader new) to (readers l link at)) in
        let leads : is_leaf_port inst.0 port link.to ≡ true = ap (is_leaf_port inst.0 port) to ∙ is_own_port inst.0 port in
        let waits : length (waiting_at new link.to) ≡ length (waiting before) =
        ap (λ e. length (waiting_at new e)) to
        ∙ (ap (λ o. length (tokens_of o port)) on.1
        ∙ ap (λ ts. length ts) (hold inst.0 on.0 on.1 port on.2 ∙ inbox_at inst.0 port links flows l link before apart at there leads)) in
        let many : length (waiting before) ≡ before.arrived - before.taken = length_waiting before (held.each l link before at there).arrived in
        omega (arith, waits, many, counted.each l link at)

pub moved_all_out : {X : Type 0} (mid new : List (Cell X)) → EachClears mid new → AreAllOut new
moved_all_out mid new clears = λ i cell at.
    let before = there_too new mid i cell clears.count at in (clears.each i before.0 cell before.1 at).empty
