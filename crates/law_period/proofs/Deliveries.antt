-- All that was sent arrives: these events may happen, and hold no more on any inner link.
use Rattle.std.proofs.Common.{◌≡◌, ◌⊎◌, ℕ, zero, suc, ◌+◌, ◌-◌, ◌≤◌, false, List, [], ◌∷◌, ◌++◌, length, refl, sym, ap, ◌∙◌, subst, inl, inr, ⊎_elim, arith, append_assoc, length-append}
use Rattle.std.specs.Prelude.{Option, None, Some, slice_get, slice_set}
use Rattle.balanced_rates.specs.declared.link.RatedLink.{RatedLink}
use Rattle.net_model.specs.declared.wiring.End.{End}
use Rattle.net_model.specs.declared.wiring.End.TheVariants.{Leaf as AtLeaf, Net as AtNet}
use Rattle.net_model.specs.declared.wiring.Link.{Link}
use Rattle.net_model.specs.Network.{Network, is_outside, is_input, is_output}
use Rattle.net_model.specs.State.{Flow, State}
use Rattle.net_model.specs.Event.{Event, Deliver, each_flow, after_arrival, happens, and_then, run}
use Rattle.net_model.specs.Trace.{OnNext}
use Rattle.net_model.specs.Laws.{HasFlows}
use Rattle.net_model.proofs.Arriving.{Arrived, arrived_unless, arrives_so}
use Rattle.law_period.specs.Static.{NetRates, rated_between, rated}
use Rattle.law_period.specs.Runs.{held, arrivals, all_arrive, IsWithinPeaks, Throughout}

-- ---- lists
pub same_get : {A : Type 0} (o : Option A) (x y : A) → o ≡ Some x → o ≡ Some y → x ≡ y
same_get o x y p q = let e : Some x ≡ Some y = sym p ∙ q in cc

pub set_cases : {A : Type 0} (xs : List A) (i : ℕ) (x : A) (j : ℕ) (y : A) → slice_get (slice_set xs i x) j ≡ Some y → ((i ≡ j) × (x ≡ y)) ⊎ (slice_get xs j ≡ Some y)
set_cases [] i x j y h = inr h
set_cases (z ∷ xs) zero x zero y h = inl (refl, cc)
set_cases (z ∷ xs) zero x (suc j) y h = inr h
set_cases (z ∷ xs) (suc i) x zero y h = inr h
set_cases (z ∷ xs) (suc i) x (suc j) y h = ⊎_elim (λ same. inl (ap suc same.0, same.1)) (λ other. inr other) (set_cases xs i x j y h)

get_middle : {A : Type 0} (front : List A) (x : A) (rest : List A) → slice_get (front ++ x ∷ rest) (length front) ≡ Some x
get_middle [] x rest = refl
get_middle (y ∷ front) x rest = get_middle front x rest

set_middle : {A : Type 0} (front : List A) (x new : A) (rest : List A) → slice_set (front ++ x ∷ rest) (length front) new ≡ (front ++ new ∷ []) ++ rest
set_middle [] x new rest = refl
set_middle (y ∷ front) x new rest = ap (λ xs. y ∷ xs) (set_middle front x new rest)

pub length_set : {A : Type 0} (xs : List A) (i : ℕ) (x : A) → length (slice_set xs i x) ≡ length xs
length_set [] i x = refl
length_set (y ∷ xs) zero x = refl
length_set (y ∷ xs) (suc i) x = ap suc (length_set xs i x)

pub length_each : (change : Link → Flow → Flow) (links : List Link) (flows : List Flow) → length flows ≡ length links → length (each_flow change links flows) ≡ length links
length_each change [] flows same = refl
length_each change (link ∷ links) [] same = absurd (omega (arith, same))
length_each change (link ∷ links) (flow ∷ flows) same = ap suc (length_each change links flows (omega (arith, same)))

-- a flow that comes of one by a change
pub record IsChanged (change : Link → Flow → Flow) (links : List Link) (flows : List Flow) (l : ℕ) (new : Flow) : Type 0 where
  pub link : Link
  pub old : Flow
  pub at_link : slice_get links l ≡ Some link
  pub at_flow : slice_get flows l ≡ Some old
  pub is : change link old ≡ new

pub changed_from : (change : Link → Flow → Flow) (links : List Link) (flows : List Flow) (l : ℕ) (new : Flow) → slice_get (each_flow change links flows) l ≡ Some new → IsChanged change links flows l new
changed_from change [] flows l new h = cc
changed_from change (link ∷ links) [] l new h = cc
changed_from change (link ∷ links) (flow ∷ flows) zero new h = record { link = link; old = flow; at_link = refl; at_flow = refl; is = cc }
changed_from change (link ∷ links) (flow ∷ flows) (suc l) new h =
    let rest = changed_from change links flows l new h in
    record { link = rest.link; old = rest.old; at_link = rest.at_link; at_flow = rest.at_flow; is = rest.is }

-- ---- states along a run
on_step : {X : Type 0} (o : Option (State X)) (f : State X → Option (State X)) (P : State X → Type 0) (t : State X) → and_then o f ≡ Some t → ((u : State X) → o ≡ Some u → f u ≡ Some t → P u) → OnNext o P
on_step None f P t h p = cc
on_step (Some u) f P t h p = p u refl h

next_then : {X : Type 0} (o : Option (State X)) (f : State X → Option (State X)) (P Q : State X → Type 0) (t : State X) → and_then o f ≡ Some t → OnNext o P → ((u : State X) → f u ≡ Some t → P u → Q u) → OnNext o Q
next_then None f P Q t h on p = cc
next_then (Some u) f P Q t h on p = p u h on

pub throughout_then : {X : Type 0} (net : Network X) (P : State X → Type 0) (one two : List Event) (s t : State X) → run net s one ≡ Some t → Throughout net P s one → Throughout net P t two → Throughout net P s (one ++ two)
throughout_then net P [] two s t leads first rest =
    let same : s ≡ t = cc in subst (λ u. Throughout net P u two) (sym same) rest
throughout_then net P (event ∷ one) two s t leads first rest = (
  first.0,
  next_then (happens net s event) (λ next. run net next one) (λ next. Throughout net P next one) (λ next. Throughout net P next (one ++ two)) t leads first.1
      (λ u leads' along. throughout_then net P one two u t leads' along rest),
)

pub at_once : {X : Type 0} (net : Network X) (P : State X → Type 0) (s t : State X) (event : Event) → happens net s event ≡ Some t → P s → P t → Throughout net P s (event ∷ [])
at_once net P s t event h first last = (first, on_one (happens net s event) h)
  where
    on_one : (o : Option (State _)) → o ≡ Some t → OnNext o P
    on_one None e = cc
    on_one (Some u) e = let same : u ≡ t = cc in subst P (sym same) last

-- ---- no more is held
rated_ends : (rates : NetRates) (from to : End) (inner : RatedLink) → rated_between rates from to ≡ Some inner → (is_outside from ≡ false) × (is_outside to ≡ false)
rated_ends rates (AtLeaf inst port) (AtLeaf other next) inner h = (refl, refl)
rated_ends rates (AtLeaf inst port) (AtNet next) inner h = cc
rated_ends rates (AtNet port) to inner h = cc

pub rated_inside : (rates : NetRates) (link : Link) (inner : RatedLink) → rated rates link ≡ Some inner → (is_input link ≡ false) × (is_output link ≡ false)
rated_inside rates link inner h = rated_ends rates link.from link.to inner h

held_stays : (k : ℕ) (link : Link) (flow : Flow) → is_output link ≡ false → held (after_arrival k link flow) ≡ held flow
held_stays k link flow inside = rw inside refl

module _ {X : Type 0} (net : Network X) (rates : NetRates) (order : List ℕ) where
  arrival_within : (s t : State X) (l k : ℕ) → happens net s (Deliver l k) ≡ Some t → IsWithinPeaks net rates order s → IsWithinPeaks net rates order t
  arrival_within s t l k h within link flow inner peak on is_inner is_peak =
      let one : Arrived net s t l k = arrived_unless net s t l k s.trapped refl h in
      let there : slice_get (slice_set s.flows l (after_arrival k one.link one.flow)) on.0 ≡ Some flow = ap (λ u. slice_get u.flows on.0) one.is ∙ on.2 in
      ⊎_elim
      (λ here.
      let at_link : slice_get net.links on.0 ≡ Some one.link = subst (λ m. slice_get net.links m ≡ Some one.link) here.0 one.at_link in
      let at_flow : slice_get s.flows on.0 ≡ Some one.flow = subst (λ m. slice_get s.flows m ≡ Some one.flow) here.0 one.at_flow in
      let same : one.link ≡ link = same_get (slice_get net.links on.0) one.link link at_link on.1 in
      let inside : is_output one.link ≡ false = subst (λ that. is_output that ≡ false) (sym same) (rated_inside rates link inner is_inner).1 in
      let before : held one.flow ≤ peak = within link one.flow inner peak (on.0, on.1, at_flow) is_inner is_peak in
      let stays : held (after_arrival k one.link one.flow) ≡ held one.flow = held_stays k one.link one.flow inside in
      subst (λ that. held that ≤ peak) here.1 (subst (λ z. z ≤ peak) (sym stays) before))
      (λ other. within link flow inner peak (on.0, on.1, other) is_inner is_peak)
      (set_cases s.flows l (after_arrival k one.link one.flow) on.0 flow there)

  pub arrivals_within : (flows : List Flow) (l : ℕ) (s t : State X) → run net s (arrivals l flows) ≡ Some t → IsWithinPeaks net rates order s → Throughout net (IsWithinPeaks net rates order) s (arrivals l flows)
  arrivals_within [] l s t leads within = within
  arrivals_within (flow ∷ flows) l s t leads within = (
    within,
    on_step (happens net s (Deliver l (length flow.sent - flow.arrived))) (λ next. run net next (arrivals (suc l) flows)) (λ next. Throughout net (IsWithinPeaks net rates order) next (arrivals (suc l) flows)) t leads
        (λ u happened leads'. arrivals_within flows (suc l) u t leads' (arrival_within s u l (length flow.sent - flow.arrived) happened within)),
  )

-- ---- all arrives
abbrev pub arrive : Link → Flow → Flow
arrive link flow = after_arrival (length flow.sent - flow.arrived) link flow

abbrev pub settled : {X : Type 0} → Network X → State X → State X
settled net s = record s { flows = each_flow arrive net.links s.flows }

abbrev midst : {X : Type 0} → List X → List Flow → State X
midst actors flows = record { actors = actors; flows = flows; trapped = false }

abbrev pub MayArrive : List Flow → Type 0
MayArrive flows = (l : ℕ) (flow : Flow) → slice_get flows l ≡ Some flow → flow.arrived ≤ length flow.sent

step_leads : {X : Type 0} (net : Network X) (s t u : State X) (event : Event) (events : List Event) → happens net s event ≡ Some t → run net t events ≡ Some u → run net s (event ∷ events) ≡ Some u
step_leads net s t u event events h leads = rw h leads

-- from a link on, whatever lies in front of it
rest_arrives : {X : Type 0} (net : Network X) (actors : List X) (all front : List Flow) (links : List Link) (flows : List Flow) (n : ℕ)
    → n ≡ length front → all ≡ front ++ flows → ((k : ℕ) → slice_get net.links (n + k) ≡ slice_get links k) → length flows ≡ length links → MayArrive flows
    → run net (midst actors all) (arrivals n flows) ≡ Some (midst actors (front ++ each_flow arrive links flows))
rest_arrives net actors all front [] [] n place is here same may = rw is refl
rest_arrives net actors all front [] (flow ∷ flows) n place is here same may = absurd (omega (arith, same))
rest_arrives net actors all front (link ∷ links) [] n place is here same may = absurd (omega (arith, same))
rest_arrives net actors all front (link ∷ links) (flow ∷ flows) n place is here same may =
    let new : Flow = arrive link flow in
    let at_link : slice_get net.links n ≡ Some link = (let none : n ≡ n + 0 = omega arith in ap (slice_get net.links) none ∙ here 0) in
    let at_flow : slice_get all n ≡ Some flow = (ap (λ fs. slice_get fs n) is ∙ ap (slice_get (front ++ flow ∷ flows)) place) ∙ get_middle front flow flows in
    let low : flow.arrived ≤ length flow.sent = may 0 flow refl in
    let fits : flow.arrived + (length flow.sent - flow.arrived) ≤ length flow.sent = omega (arith, low) in
    let first : happens net (midst actors all) (Deliver n (length flow.sent - flow.arrived)) ≡ Some (midst actors (slice_set all n new)) =
    arrives_so net (midst actors all) n (length flow.sent - flow.arrived) link flow refl at_link at_flow fits in
    let set_is : slice_set all n new ≡ (front ++ new ∷ []) ++ flows =
    (ap (λ fs. slice_set fs n new) is ∙ ap (λ k. slice_set (front ++ flow ∷ flows) k new) place) ∙ set_middle front flow new flows in
    let next_place : suc n ≡ length (front ++ new ∷ []) = omega (arith, place, length-append front (new ∷ [])) in
    let others : run net (midst actors (slice_set all n new)) (arrivals (suc n) flows) ≡ Some (midst actors ((front ++ new ∷ []) ++ each_flow arrive links flows)) =
    rest_arrives net actors (slice_set all n new) (front ++ new ∷ []) links flows (suc n) next_place set_is
    (λ k. (let moved : suc n + k ≡ n + suc k = omega arith in ap (slice_get net.links) moved) ∙ here (suc k)) (omega (arith, same)) (λ l that at. may (suc l) that at) in
    step_leads net (midst actors all) (midst actors (slice_set all n new)) (midst actors (front ++ new ∷ each_flow arrive links flows)) (Deliver n (length flow.sent - flow.arrived)) (arrivals (suc n) flows) first
    (others ∙ ap (λ fs. Some (midst actors fs)) (append_assoc front (new ∷ []) (each_flow arrive links flows)))

pub arrivals_lead : {X : Type 0} (net : Network X) (s : State X) → s.trapped ≡ false → HasFlows net s → MayArrive s.flows → run net s (all_arrive s) ≡ Some (settled net s)
arrivals_lead net s untrapped same may =
    let plain : run net (midst s.actors s.flows) (arrivals 0 s.flows) ≡ Some (midst s.actors (each_flow arrive net.links s.flows)) =
    rest_arrives net s.actors s.flows [] net.links s.flows 0 refl refl (λ k. (let none : 0 + k ≡ k = omega arith in ap (slice_get net.links) none)) same may in
    subst (λ b. run net (record { actors = s.actors; flows = s.flows; trapped = b }) (arrivals 0 s.flows) ≡ Some (record { actors = s.actors; flows = each_flow arrive net.links s.flows; trapped = b })) (sym untrapped) plain
