-- The end line that is true of a network, and a delivery that changes nothing of it.
use Rattle.std.proofs.Common.{◌≡◌, ◌≢◌, ℕ, zero, suc, ◌+◌, ◌-◌, ◌*◌, ◌<◌, ◌≤◌, ◌⊎◌, min, Bool, true, false, List, [], ◌∷◌, ℤ, length, refl, sym, ap, subst, ◌∙◌, arith}
use Rattle.std.specs.Prelude.{Option, None, Some, slice_get, slice_index_or, if◌then◌else◌}
use Rattle.trace_text.specs.declared.line.Line.{Line}
use Rattle.trace_text.specs.declared.line.Line.TheVariants.{Header as FirstLine, Inst, Fire, Deliver, Grow, Quiet, Trap as TrapLine, Stall, Budget}
use Rattle.net_model.specs.declared.wiring.Link.{Link}
use Rattle.net_model.specs.Network.{Network, is_input, is_output}
use Rattle.net_model.specs.State.{Flow, State, untaken, capacity_at, capacity_of}
use Rattle.net_model.specs.Ends.{AllArrived, Grows, IsQuiet, IsSettled, IsStalled, IsStuck, LacksRoom, LacksOn, all_fed, with_rest}
use Rattle.net_model.specs.Event.{after_arrival, each_flow}
use Rattle.net_model.specs.Laws.{AreLawful, StalledIsNotQuiet, StallsInOnePlace}
use Rattle.net_model.specs.Trace.{after_delivery, arrivals, delivered}
use Rattle.net_model.specs.Wired.{IsWired}
use Rattle.net_model.specs.Cell.{Cell}
use Rattle.net_model.proofs.Keeping.{Changed, changed}
use Rattle.net_state.specs.Held.{Held}
use Rattle.net_state.specs.Standing.{StandsIn}
use Rattle.net_state.specs.Working.{AreFed}
use Rattle.rvc_io.specs.Feeds.{Inputs}
use Rattle.port_files.specs.Coming.{Reading}
use Rattle.net_state.specs.declared.filling.Filled.{Filled}
use Rattle.net_state.specs.Moving.{SameActors, SameMarks}
use Rattle.net_state.specs.Surveyed.{AreSettled, AreUntrapped}
use Rattle.trace_replay.specs.Ending.{EndsNotSo, EndsSo, FitInputs, IsEndOf, IsTrueEnd, MayGrow}
use Rattle.trace_replay.specs.Holding.{DeliversHeld}
use Rattle.trace_replay.proofs.Chained.{There, there, is_low}

-- At most one end line is true.

stall_is : (i a l j b m : ℕ) → (i ≡ j) × (a ≡ b) × (l ≡ m) → Stall i a l ≡ Stall j b m
stall_is i a l j b m (one, two, three) = ap (λ k. Stall k a l) one ∙ ap (λ k. Stall j k l) two ∙ ap (λ k. Stall j b k) three

module _ {X : Type 0} (stalls_in_one_place : StallsInOnePlace X) (stalled_is_not_quiet : StalledIsNotQuiet X) where
  pub one_end : (net : Network X) (grow : ℕ) (s : State X) (line other : Line) → AreLawful net → IsTrueEnd net grow s line → IsTrueEnd net grow s other → line ≡ other
  one_end net grow s Quiet Quiet lawful p q = refl
  one_end net grow s Quiet (Stall i a l) lawful p q = absurd (stalled_is_not_quiet net s i a l lawful q.stalled p)
  one_end net grow s Quiet Budget lawful p q = absurd (q.not_quiet p)
  one_end net grow s (Stall i a l) Quiet lawful p q = absurd (stalled_is_not_quiet net s i a l lawful p.stalled q)
  one_end net grow s (Stall i a l) (Stall j b m) lawful p q = stall_is i a l j b m (stalls_in_one_place net s i a l j b m p.stalled q.stalled)
  one_end net grow s (Stall i a l) Budget lawful p q = absurd (q.not_stuck i a l p)
  one_end net grow s Budget Quiet lawful p q = absurd (p.not_quiet q)
  one_end net grow s Budget (Stall i a l) lawful p q = absurd (p.not_stuck i a l q)
  one_end net grow s Budget Budget lawful p q = refl
  one_end net grow s Quiet (TrapLine i a c) lawful p q = absurd q
  one_end net grow s Quiet (FirstLine n l g) lawful p q = absurd q
  one_end net grow s Quiet (Inst k) lawful p q = absurd q
  one_end net grow s Quiet (Fire i a) lawful p q = absurd q
  one_end net grow s Quiet Deliver lawful p q = absurd q
  one_end net grow s Quiet (Grow l c) lawful p q = absurd q
  one_end net grow s (Stall i a l) (TrapLine j b c) lawful p q = absurd q
  one_end net grow s (Stall i a l) (FirstLine n k g) lawful p q = absurd q
  one_end net grow s (Stall i a l) (Inst k) lawful p q = absurd q
  one_end net grow s (Stall i a l) (Fire j b) lawful p q = absurd q
  one_end net grow s (Stall i a l) Deliver lawful p q = absurd q
  one_end net grow s (Stall i a l) (Grow k c) lawful p q = absurd q
  one_end net grow s Budget (TrapLine i a c) lawful p q = absurd q
  one_end net grow s Budget (FirstLine n l g) lawful p q = absurd q
  one_end net grow s Budget (Inst k) lawful p q = absurd q
  one_end net grow s Budget (Fire i a) lawful p q = absurd q
  one_end net grow s Budget Deliver lawful p q = absurd q
  one_end net grow s Budget (Grow l c) lawful p q = absurd q
  one_end net grow s (TrapLine i a c) other lawful p q = absurd p
  one_end net grow s (FirstLine n l g) other lawful p q = absurd p
  one_end net grow s (Inst k) other lawful p q = absurd p
  one_end net grow s (Fire i a) other lawful p q = absurd p
  one_end net grow s Deliver other lawful p q = absurd p
  one_end net grow s (Grow l c) other lawful p q = absurd p

-- What a network that is stalled comes to.

pub stall_link : {X : Type 0} (net : Network X) (s : State X) (i a l : ℕ) → IsStalled net s i a l → There net.links l
stall_link net s i a l stalled = of_link (slice_get net.links l) refl stalled.lacks
  where
    of_link : (o : Option Link) → slice_get net.links l ≡ o
        → LacksOn (Rattle.net_model.specs.State.give_of (slice_get net.leaves i) a) i o (slice_get (all_fed net s).flows l) → There net.links l
    of_link (Some link) at lacks = record { item = link; at = at }
    of_link None at lacks = absurd lacks

pub capacity_is : {X : Type 0} (net : Network X) (held : Held (Cell X)) (s : State X) (l : ℕ) (link : Link) → StandsIn net held s → slice_get net.links l ≡ Some link
    → capacity_at s l ≡ slice_index_or held.capacities l 0
capacity_is net held s l link stands at =
    let flow : There s.flows l = there net.links s.flows l link stands.stands.flows.count at in
    ap capacity_of flow.at ∙ (stands.stands.flows.each l link flow.item at flow.at).capacity_is

pub goes_on_so : {X : Type 0} → StallsInOnePlace X → StalledIsNotQuiet X → (net : Network X) (grow : ℕ) (held : Held (Cell X)) (s : State X) (i a l : ℕ) → StandsIn net held s → AreLawful net → IsSettled net s
    → IsStalled net s i a l → MayGrow grow held l → IsTrueEnd net grow s Budget
goes_on_so stalls_in_one_place stalled_is_not_quiet net grow held s i a l stands lawful settled stalled may = record {
  settled = settled;
  not_quiet = stalled_is_not_quiet net s i a l lawful stalled;
  not_stuck = λ j b m stuck.
      let one = stalls_in_one_place net s i a l j b m stalled stuck.stalled in
      let link : There net.links l = stall_link net s i a l stalled in
      let is : capacity_at s l ≡ slice_index_or held.capacities l 0 = capacity_is net held s l link.item stands link.at in
      let full : grow ≤ capacity_at s l = subst (λ k. grow ≤ capacity_at s k) (sym one.2) stuck.grown in
      omega (arith, is, full, may);
}

pub stuck_so : {X : Type 0} (net : Network X) (grow : ℕ) (held : Held (Cell X)) (s : State X) (i a l : ℕ) → StandsIn net held s
    → IsStalled net s i a l → (l < length held.links → grow ≤ slice_index_or held.capacities l 0) → IsTrueEnd net grow s (Stall i a l)
stuck_so net grow held s i a l stands stalled full =
    let link : There net.links l = stall_link net s i a l stalled in
    let is : capacity_at s l ≡ slice_index_or held.capacities l 0 = capacity_is net held s l link.item stands link.at in
    let low : l < length held.links = subst (λ ls. l < length ls) stands.is_of.links_are (is_low net.links l link.item link.at) in
    record { stalled = stalled; grown = omega (arith, is, full low) }

pub between_so : {X : Type 0} (net : Network X) (grow : ℕ) (s : State X) → IsSettled net s → (IsQuiet net s → ⊥) × ((i a l : ℕ) → IsStalled net s i a l → ⊥) → IsTrueEnd net grow s Budget
between_so net grow s settled going = record {
  settled = settled;
  not_quiet = going.0;
  not_stuck = λ i a l stuck. going.1 i a l stuck.stalled;
}

-- A delivery of a settled state, with the remainder of the feeds counted as arrived.

if_same : (b : Bool) (n : ℕ) → (if b then n + 0 else n) ≡ n
if_same true n = omega arith
if_same false n = refl

-- if nothing arrives, the flow stays
pub nothing_arrives : (link : Link) (flow : Flow) → arrivals link flow ≡ 0 → delivered link flow ≡ flow
nothing_arrives link flow none =
    let count : flow.arrived + 0 ≡ flow.arrived = omega arith in
    ap (λ k. after_arrival k link flow) none
    ∙ ap (λ k. record { sent = flow.sent; arrived = k; taken = if is_output link then flow.taken + 0 else flow.taken; capacity = flow.capacity }) count
    ∙ ap (λ k. record { sent = flow.sent; arrived = flow.arrived; taken = k; capacity = flow.capacity }) (if_same (is_output link) flow.taken)

pub none_left : (link : Link) (flow : Flow) → is_input link ≡ false → flow.arrived ≡ length flow.sent → delivered link flow ≡ flow
none_left link flow inner all =
    let count : arrivals link flow ≡ length flow.sent - flow.arrived = ap (λ b. if b then min (flow.capacity - untaken flow) (length flow.sent - flow.arrived) else length flow.sent - flow.arrived) inner in
    nothing_arrives link flow (count ∙ omega (arith, all))

rest_same : (link : Link) (flow : Flow) → (is_input link ≡ true → is_output link ≡ false) → (is_input link ≡ false → flow.arrived ≡ length flow.sent) → with_rest link (delivered link flow) ≡ with_rest link flow
rest_same link flow inside all = of_link (is_input link) refl
  where
    of_link : (b : Bool) → is_input link ≡ b → with_rest link (delivered link flow) ≡ with_rest link flow
    of_link false inner = ap (with_rest link) (none_left link flow inner (all inner))
    of_link true input =
        let taken : (if is_output link then flow.taken + arrivals link flow else flow.taken) ≡ flow.taken = ap (λ b. if b then flow.taken + arrivals link flow else flow.taken) (inside input) in
        ap (λ k. record { sent = flow.sent; arrived = if is_input link then length flow.sent else (flow.arrived + arrivals link flow); taken = k; capacity = flow.capacity }) taken
        ∙ ap (λ b. record { sent = flow.sent; arrived = if b then length flow.sent else (flow.arrived + arrivals link flow); taken = flow.taken; capacity = flow.capacity }) input
        ∙ sym (ap (λ b. record { sent = flow.sent; arrived = if b then length flow.sent else flow.arrived; taken = flow.taken; capacity = flow.capacity }) input)

each_same : (links : List Link) (flows : List Flow) → ((l : ℕ) (link : Link) → slice_get links l ≡ Some link → is_input link ≡ true → is_output link ≡ false) → AllArrived links flows
    → each_flow with_rest links (each_flow delivered links flows) ≡ each_flow with_rest links flows
each_same [] flows inside all = refl
each_same (link ∷ links) [] inside all = refl
each_same (link ∷ links) (flow ∷ flows) inside all =
    ap (λ f. f ∷ each_flow with_rest links (each_flow delivered links flows)) (rest_same link flow (inside 0 link refl) all.0)
    ∙ ap (λ fs. with_rest link flow ∷ fs) (each_same links flows (λ l. inside (suc l)) all.1)

pub fed_same : {X : Type 0} (net : Network X) (s : State X) → IsWired net → IsSettled net s → all_fed net (after_delivery net s) ≡ all_fed net s
fed_same net s wired settled = ap (λ fs. record s { flows = fs }) (each_same net.links s.flows (λ l link at. (wired.joined l link at).inside) settled.arrived)

still_all : (links : List Link) (flows : List Flow) → AllArrived links flows → AllArrived links (each_flow delivered links flows)
still_all [] flows all = tt
still_all (link ∷ links) [] all = tt
still_all (link ∷ links) (flow ∷ flows) all =
    ((λ inner. subst (λ f. f.arrived ≡ length f.sent) (sym (none_left link flow inner (all.0 inner))) (all.0 inner)), still_all links flows all.1)

pub still_settled : {X : Type 0} (net : Network X) (s : State X) → IsSettled net s → IsSettled net (after_delivery net s)
still_settled net s settled = record { untrapped = settled.untrapped; arrived = still_all net.links s.flows settled.arrived }

same_capacity : (links : List Link) (flows : List Flow) (l : ℕ) (link : Link) → slice_get links l ≡ Some link → capacity_of (slice_get (each_flow delivered links flows) l) ≡ capacity_of (slice_get flows l)
same_capacity [] flows l link at = cc
same_capacity (first ∷ links) [] l link at = refl
same_capacity (first ∷ links) (flow ∷ flows) zero link at = refl
same_capacity (first ∷ links) (flow ∷ flows) (suc l) link at = same_capacity links flows l link at

-- a stall by the state with all that is to come
stall_of : {X : Type 0} (net : Network X) (s t : State X) (i a l : ℕ) → IsSettled net t → all_fed net s ≡ all_fed net t → IsStalled net s i a l → IsStalled net t i a l
stall_of net s t i a l settled same stalled = record {
  settled = settled;
  each = λ j. subst (λ u. (Rattle.net_model.specs.State.choice_at net u j ≡ Rattle.rvc_base.specs.Behaviour.Waits)
      ⊎ ((b : ℕ) × (m : ℕ) × (Rattle.net_model.specs.State.choice_at net u j ≡ Rattle.rvc_base.specs.Behaviour.Picks b) × LacksRoom net u j b m)) same (stalled.each j);
  chosen = subst (λ u. Rattle.net_model.specs.State.choice_at net u i ≡ Rattle.rvc_base.specs.Behaviour.Picks a) same stalled.chosen;
  lowest_leaf = λ j low. subst (λ u. Rattle.net_model.specs.State.choice_at net u j ≡ Rattle.rvc_base.specs.Behaviour.Waits) same (stalled.lowest_leaf j low);
  lacks = subst (λ u. LacksRoom net u i a l) same stalled.lacks;
  lowest_link = λ m low lacks. stalled.lowest_link m low (subst (λ u. LacksRoom net u i a m) (sym same) lacks);
}

quiet_of : {X : Type 0} (net : Network X) (s t : State X) → IsSettled net t → all_fed net s ≡ all_fed net t → IsQuiet net s → IsQuiet net t
quiet_of net s t settled same quiet = record {
  settled = settled;
  nothing = λ i a. subst (λ u. Rattle.net_model.specs.State.effect_at net u i a ≡ None) same (quiet.nothing i a);
}

stuck_of : {X : Type 0} (net : Network X) (grow : ℕ) (s t : State X) (i a l : ℕ) → IsSettled net t → all_fed net s ≡ all_fed net t
    → ((k : ℕ) (link : Link) → slice_get net.links k ≡ Some link → capacity_at s k ≡ capacity_at t k) → IsStuck net grow s i a l → IsStuck net grow t i a l
stuck_of net grow s t i a l settled same capacities stuck =
    let link : There net.links l = stall_link net s i a l stuck.stalled in
    record {
      stalled = stall_of net s t i a l settled same stuck.stalled;
      grown = subst (λ n. grow ≤ n) (capacities l link.item link.at) stuck.grown;
    }

end_of : {X : Type 0} (net : Network X) (grow : ℕ) (s t : State X) (line : Line) → IsSettled net s → IsSettled net t → all_fed net s ≡ all_fed net t
    → ((k : ℕ) (link : Link) → slice_get net.links k ≡ Some link → capacity_at s k ≡ capacity_at t k) → IsTrueEnd net grow s line → IsTrueEnd net grow t line
end_of net grow s t Quiet before settled same capacities h = quiet_of net s t settled same h
end_of net grow s t (Stall i a l) before settled same capacities h = stuck_of net grow s t i a l settled same capacities h
end_of net grow s t Budget before settled same capacities h = record {
  settled = settled;
  not_quiet = λ quiet. h.not_quiet (quiet_of net t s before (sym same) quiet);
  not_stuck = λ i a l stuck. h.not_stuck i a l (stuck_of net grow t s i a l before (sym same) (λ k link at. sym (capacities k link at)) stuck);
}
end_of net grow s t (TrapLine i a c) before settled same capacities h = absurd h
end_of net grow s t (FirstLine n l g) before settled same capacities h = absurd h
end_of net grow s t (Inst k) before settled same capacities h = absurd h
end_of net grow s t (Fire i a) before settled same capacities h = absurd h
end_of net grow s t Deliver before settled same capacities h = absurd h
end_of net grow s t (Grow l c) before settled same capacities h = absurd h

pub ends_before : {X : Type 0} (net : Network X) (grow : ℕ) (s : State X) (line : Line) → IsWired net → IsSettled net s → IsTrueEnd net grow (after_delivery net s) line → IsTrueEnd net grow s line
ends_before net grow s line wired settled h =
    end_of net grow (after_delivery net s) s line (still_settled net s settled) settled (fed_same net s wired settled)
    (λ k link at. same_capacity net.links s.flows k link at) h

pub ends_after : {X : Type 0} (net : Network X) (grow : ℕ) (s : State X) (line : Line) → IsWired net → IsSettled net s → IsTrueEnd net grow s line → IsTrueEnd net grow (after_delivery net s) line
ends_after net grow s line wired settled h =
    end_of net grow s (after_delivery net s) line settled (still_settled net s settled) (sym (fed_same net s wired settled))
    (λ k link at. sym (same_capacity net.links s.flows k link at)) h

grows_of : {X : Type 0} (net : Network X) (grow : ℕ) (s t : State X) (l capacity : ℕ) → IsSettled net t → all_fed net s ≡ all_fed net t
    → ((k : ℕ) (link : Link) → slice_get net.links k ≡ Some link → capacity_at s k ≡ capacity_at t k) → Grows net grow s l capacity → Grows net grow t l capacity
grows_of net grow s t l capacity settled same capacities grows =
    let link : There net.links l = stall_link net s grows.leaf grows.action l grows.stalled in
    let is : capacity_at s l ≡ capacity_at t l = capacities l link.item link.at in
    record {
      leaf = grows.leaf;
      action = grows.action;
      stalled = stall_of net s t grows.leaf grows.action l settled same grows.stalled;
      below = subst (λ n. n < grow) is grows.below;
      doubled = grows.doubled ∙ ap (λ n. min (2 * n) grow) is;
    }

pub grows_before : {X : Type 0} (net : Network X) (grow : ℕ) (s : State X) (l capacity : ℕ) → IsWired net → IsSettled net s → Grows net grow (after_delivery net s) l capacity → Grows net grow s l capacity
grows_before net grow s l capacity wired settled grows =
    grows_of net grow (after_delivery net s) s l capacity settled (fed_same net s wired settled) (λ k link at. same_capacity net.links s.flows k link at) grows

pub grows_after : {X : Type 0} (net : Network X) (grow : ℕ) (s : State X) (l capacity : ℕ) → IsWired net → IsSettled net s → Grows net grow s l capacity → Grows net grow (after_delivery net s) l capacity
grows_after net grow s l capacity wired settled grows =
    grows_of net grow s (after_delivery net s) l capacity (still_settled net s settled) (sym (fed_same net s wired settled)) (λ k link at. sym (same_capacity net.links s.flows k link at)) grows

pub settled_of : {X : Type 0} (net : Network X) (grow : ℕ) (s : State X) (line : Line) → IsTrueEnd net grow s line → IsSettled net s
settled_of net grow s Quiet h = h.settled
settled_of net grow s (Stall i a l) h = h.stalled.settled
settled_of net grow s Budget h = h.settled
settled_of net grow s (TrapLine i a c) h = absurd h
settled_of net grow s (FirstLine n l g) h = absurd h
settled_of net grow s (Inst k) h = absurd h
settled_of net grow s (Fire i a) h = absurd h
settled_of net grow s Deliver h = absurd h
settled_of net grow s (Grow l c) h = absurd h

-- After a delivery an input link holds at most its capacity.

pub arrivals_of : (link : Link) (flow : Flow) → is_input link ≡ true → arrivals link flow ≡ min (flow.capacity - untaken flow) (length flow.sent - flow.arrived)
arrivals_of link flow input = ap (λ b. if b then min (flow.capacity - untaken flow) (length flow.sent - flow.arrived) else length flow.sent - flow.arrived) input

taken_of : (link : Link) (flow : Flow) → is_output link ≡ false → (delivered link flow).taken ≡ flow.taken
taken_of link flow inside = ap (λ b. if b then flow.taken + arrivals link flow else flow.taken) inside

fits_of : (link : Link) (flow : Flow) → is_input link ≡ true → is_output link ≡ false → flow.taken ≤ flow.arrived → untaken flow ≤ flow.capacity → untaken (delivered link flow) ≤ flow.capacity
fits_of link flow input inside low fits =
    let few : arrivals link flow ≤ flow.capacity - untaken flow =
    subst (λ n. n ≤ flow.capacity - untaken flow) (sym (arrivals_of link flow input)) (Rattle.std.proofs.Math.Nat.min-le_left (flow.capacity - untaken flow) (length flow.sent - flow.arrived)) in
    let same : (delivered link flow).taken ≡ flow.taken = taken_of link flow inside in
    omega (arith, few, same, low, fits)

pub fits_after : {X : Type 0} (net : Network X) (held : Held (Cell X)) (s : State X) → IsWired net → StandsIn net held s → FitInputs net s → FitInputs net (after_delivery net s)
fits_after net held s wired stands fits l link flow at here input =
    let was : Changed delivered s.flows l link flow = changed delivered net.links s.flows l link flow at here in
    let is_held = stands.stands.flows.each l link was.old at was.there in
    subst (λ f. untaken f ≤ f.capacity) was.is
    (fits_of link was.old input ((wired.joined l link at).inside input) is_held.taken (fits l link was.old at was.there input))

-- the end line of a network that is stalled
pub stalled_end : {X : Type 0} → StallsInOnePlace X → StalledIsNotQuiet X → (grow : ℕ) (held now : Held (Cell X)) (i a l : ℕ) (goes_on : Bool) (line : Line) → now.capacities ≡ held.capacities → now.links ≡ held.links
    → ((net : Network X) (s : State X) → StandsIn net held s → IsWired net → AreFed net s → IsStalled net s i a l)
    → (goes_on ≡ true → MayGrow grow now l) → (goes_on ≡ false → l < length now.links → grow ≤ slice_index_or now.capacities l 0)
    → (goes_on ≡ true → line ≡ Budget) → (goes_on ≡ false → line ≡ Stall i a l) → Rattle.trace_replay.specs.Ending.IsEndOf grow held line
stalled_end one_place not_quiet grow held now i a l true line same links stalls may full on stuck net s stands wired lawful fed settled =
    subst (IsTrueEnd net grow s) (sym (on refl))
    (goes_on_so one_place not_quiet net grow held s i a l stands lawful settled (stalls net s stands wired fed) (subst (λ cs. slice_index_or cs l 0 < grow) same (may refl)))
stalled_end one_place not_quiet grow held now i a l false line same links stalls may full on stuck net s stands wired lawful fed settled =
    subst (IsTrueEnd net grow s) (sym (stuck refl))
    (stuck_so net grow held s i a l stands (stalls net s stands wired fed)
    (λ low. subst (λ cs. grow ≤ slice_index_or cs l 0) same (full refl (subst (λ ls. l < length ls) (sym links) low))))

-- An end line by the delivery behind it.

pub ends_yes : {X : Type 0} (grow : ℕ) (line end : Line) (old new : Held (Cell X)) (stacks : List (List ℤ)) (readings readings_new : List (Option Reading)) (feeds feeds_new : Inputs) (came : List Filled)
    → IsEndOf grow new end → line ≡ end → AreSettled old → DeliversHeld old new stacks readings readings_new feeds feeds_new came → EndsSo grow line old stacks readings feeds
ends_yes grow line end old new stacks readings readings_new feeds feeds_new came is_end same settle delivers net inputs opened s stands wired lawful fits =
    let settled : IsSettled net s = settle net s stands.stands.now in
    let after = delivers.states net inputs s stands.stands.now wired stands.fed in
    ends_before net grow s line wired settled
    (subst (IsTrueEnd net grow (after_delivery net s)) (sym same)
    (is_end net (after_delivery net s) after.stands.now wired lawful after.all (still_settled net s settled)))

pub ends_no : {X : Type 0} → StallsInOnePlace X → StalledIsNotQuiet X → (grow : ℕ) (line end : Line) (old new : Held (Cell X)) (stacks : List (List ℤ)) (readings readings_new : List (Option Reading)) (feeds feeds_new : Inputs) (came : List Filled)
    → IsEndOf grow new end → line ≢ end → AreSettled old → DeliversHeld old new stacks readings readings_new feeds feeds_new came → EndsNotSo grow line old stacks readings feeds
ends_no one_place not_quiet grow line end old new stacks readings readings_new feeds feeds_new came is_end differ settle delivers net inputs opened s stands wired lawful fits h =
    let settled : IsSettled net s = settle net s stands.stands.now in
    let after = delivers.states net inputs s stands.stands.now wired stands.fed in
    differ (one_end one_place not_quiet net grow (after_delivery net s) line end lawful (ends_after net grow s line wired settled h)
    (is_end net (after_delivery net s) after.stands.now wired lawful after.all (still_settled net s settled)))

pub untrapped_after : {X : Type 0} (old new : List (Cell X)) → SameActors old new → SameMarks old new → AreUntrapped old → AreUntrapped new
untrapped_after old new same marks untrapped i cell at =
    let was : There old i = there new old i cell (sym same.count) at in
    marks i was.item cell was.at at ∙ untrapped i was.item was.at
