-- The rest of the feeds arrives: a run leads there, and from a quiet state nothing leads on from there.
use Rattle.std.proofs.Common.{◌≡◌, ℕ, zero, suc, ◌+◌, ◌-◌, ◌≤◌, Bool, true, false, List, [], ◌∷◌, ◌++◌, length, map, refl, sym, ap, ◌∙◌, subst, append_assoc, arith}
use Rattle.std.specs.Prelude.{None, Some, slice_get, slice_set, if◌then◌else◌}
use Rattle.std.proofs.lemmas.List.{length-append}
use Rattle.rvc_base.specs.Behaviour.{Fires}
use Rattle.net_model.specs.declared.wiring.Link.{Link}
use Rattle.net_model.specs.Network.{Network, is_input, is_output}
use Rattle.net_model.specs.State.{Flow, State, first_flow, start_of, need_of}
use Rattle.net_model.specs.Event.{Event, Fire, Deliver, Trap, each_flow, after_firing, after_arrival, happens, run}
use Rattle.net_model.specs.Ends.{IsQuiet, IsSettled, AllArrived, with_rest, all_fed}
use Rattle.net_model.specs.Laws.{AreOrdered, sent_of, sent_on_link, firings_in}
use Rattle.net_model.proofs.Commuting.{Fired, fired_unless}
use Rattle.net_model.proofs.Arriving.{Arrived, arrived_unless, arrives_so}
use Rattle.net_model.proofs.Lines.{run_then}
use Rattle.determinacy_cert.specs.Determinacy.{firings_of}
use Rattle.determinacy_cert.proofs.Splitting.{Stepped, stepped, step_then}
use Rattle.determinacy_cert.proofs.Trapping.{trapped}
use Rattle.determinacy_cert.proofs.Confluence.{IsFinal}

-- ---- a flow a link

abbrev pub HasFlows : {X : Type 0} → Network X → State X → Type 0
HasFlows net s = length s.flows ≡ length net.links

pub each_length : (change : Link → Flow → Flow) (links : List Link) (flows : List Flow) → length flows ≡ length links → length (each_flow change links flows) ≡ length links
each_length change [] [] same = refl
each_length change [] (flow ∷ flows) same = absurd (omega arith)
each_length change (link ∷ links) [] same = absurd (omega arith)
each_length change (link ∷ links) (flow ∷ flows) same = ap suc (each_length change links flows (omega arith))

set_length : {A : Type 0} (xs : List A) (l : ℕ) (x : A) → length (slice_set xs l x) ≡ length xs
set_length [] l x = refl
set_length (y ∷ xs) zero x = refl
set_length (y ∷ xs) (suc l) x = ap suc (set_length xs l x)

map_length : {A B : Type 0} (f : A → B) (xs : List A) → length (map f xs) ≡ length xs
map_length f [] = refl
map_length f (x ∷ xs) = ap suc (map_length f xs)

-- what happens leaves a flow a link
flows_stay : {X : Type 0} (net : Network X) (s t : State X) (event : Event) → HasFlows net s → happens net s event ≡ Some t → HasFlows net t
flows_stay net s t (Fire i a) same h =
    let one : Fired net s t i a = fired_unless net s t i a s.trapped refl h in
    subst (λ w. HasFlows net w) one.is (each_length (after_firing i (need_of (slice_get net.leaves i) a) one.sent) net.links s.flows same)
flows_stay net s t (Deliver l k) same h =
    let one : Arrived net s t l k = arrived_unless net s t l k s.trapped refl h in
    subst (λ w. HasFlows net w) one.is (set_length s.flows l (after_arrival k one.link one.flow) ∙ same)
flows_stay net s t (Trap i a c) same h = ap length (trapped net s t i a c h).flows ∙ same

pub run_flows : {X : Type 0} (net : Network X) (s t : State X) (events : List Event) → HasFlows net s → run net s events ≡ Some t → HasFlows net t
run_flows net s t [] same h = let here : s ≡ t = (let o : Some s ≡ Some t = h in cc) in subst (λ w. HasFlows net w) here same
run_flows net s t (event ∷ events) same h =
    let step : Stepped net s event events t = stepped net s event events t h in
    run_flows net step.next t events (flows_stay net s step.next event same step.first) step.others

pub start_flows : {X : Type 0} (net : Network X) (inputs : List (List ℕ)) → HasFlows net (start_of net inputs)
start_flows net inputs = map_length (first_flow net.ins inputs) net.links

-- ---- the rest of the feeds arrives

-- a run of deliveries
pub record Arrives {X : Type 0} (net : Network X) (s t : State X) : Type 0 where
  pub events : List Event
  pub leads : run net s events ≡ Some t
  pub none : (i : ℕ) (more : List Event) → firings_of i (events ++ more) ≡ firings_of i more
  pub none_in : (more : List Event) → firings_in (events ++ more) ≡ firings_in more

nothing : {X : Type 0} (net : Network X) (s : State X) → Arrives net s s
nothing net s = record { events = []; leads = refl; none = λ i more. refl; none_in = λ more. refl }

both : {X : Type 0} (net : Network X) (s t u : State X) → Arrives net s t → Arrives net t u → Arrives net s u
both net s t u p q = record {
  events = p.events ++ q.events;
  leads = run_then net s t u p.events q.events p.leads q.leads;
  none = λ i more. ap (firings_of i) (append_assoc p.events q.events more) ∙ p.none i (q.events ++ more) ∙ q.none i more;
  none_in = λ more. ap firings_in (append_assoc p.events q.events more) ∙ p.none_in (q.events ++ more) ∙ q.none_in more;
}

get_after : {A : Type 0} (front : List A) (x : A) (others : List A) → slice_get (front ++ (x ∷ others)) (length front) ≡ Some x
get_after [] x others = refl
get_after (y ∷ front) x others = get_after front x others

set_after : {A : Type 0} (front : List A) (x y : A) (others : List A) → slice_set (front ++ (x ∷ others)) (length front) y ≡ front ++ (y ∷ others)
set_after [] x y others = refl
set_after (z ∷ front) x y others = ap (λ w. z ∷ w) (set_after front x y others)

-- a state with these flows
abbrev with_flows : {X : Type 0} → State X → List Flow → State X
with_flows s flows = record s { flows = flows }

same_taken : (out : Bool) (taken k : ℕ) → out ≡ false → (if out then taken + k else taken) ≡ taken
same_taken true taken k h = cc
same_taken false taken k h = refl

rest_of_feed : (link : Link) (flow : Flow) → is_input link ≡ true → is_output link ≡ false → flow.arrived ≤ length flow.sent
    → after_arrival (length flow.sent - flow.arrived) link flow ≡ with_rest link flow
rest_of_feed link flow input inner fits =
    let all : flow.arrived + (length flow.sent - flow.arrived) ≡ length flow.sent = omega arith in
    rw (input, all, same_taken (is_output link) flow.taken (length flow.sent - flow.arrived) inner) refl

no_feed : (link : Link) (flow : Flow) → is_input link ≡ false → flow ≡ with_rest link flow
no_feed link flow inner = rw inner refl

one_feed : {X : Type 0} (net : Network X) (s : State X) (front : List Flow) (link : Link) (flow : Flow) (flows : List Flow) (input : Bool)
    → s.trapped ≡ false → slice_get net.links (length front) ≡ Some link → is_input link ≡ input
    → (is_input link ≡ true → is_output link ≡ false) → flow.arrived ≤ length flow.sent
    → Arrives net (with_flows s (front ++ (flow ∷ flows))) (with_flows s (front ++ (with_rest link flow ∷ flows)))
one_feed net s front link flow flows true clear at input inner fits = record {
  events = Deliver (length front) (length flow.sent - flow.arrived) ∷ [];
  leads = step_then net (with_flows s (front ++ (flow ∷ flows))) (with_flows s (front ++ (with_rest link flow ∷ flows)))
      (with_flows s (front ++ (with_rest link flow ∷ flows))) (Deliver (length front) (length flow.sent - flow.arrived)) []
      (arrives_so net (with_flows s (front ++ (flow ∷ flows))) (length front) (length flow.sent - flow.arrived) link flow clear at
      (get_after front flow flows) (omega arith)
      ∙ ap (λ fs. Some (with_flows s fs)) (set_after front flow (after_arrival (length flow.sent - flow.arrived) link flow) flows
      ∙ ap (λ f. front ++ (f ∷ flows)) (rest_of_feed link flow input (inner input) fits)))
      refl;
  none = λ i more. refl;
  none_in = λ more. refl;
}
one_feed net s front link flow flows false clear at input inner fits =
    subst (λ f. Arrives net (with_flows s (front ++ (flow ∷ flows))) (with_flows s (front ++ (f ∷ flows)))) (no_feed link flow input)
    (nothing net (with_flows s (front ++ (flow ∷ flows))))

next_place : (front : List Flow) (flow : Flow) (k : ℕ) → length (front ++ (flow ∷ [])) + k ≡ length front + suc k
next_place front flow k = rw length-append (omega arith)

feeds_from : {X : Type 0} (net : Network X) (s : State X) (front : List Flow) (links : List Link) (flows : List Flow) → s.trapped ≡ false
    → ((k : ℕ) → slice_get net.links (length front + k) ≡ slice_get links k) → length flows ≡ length links
    → ((l : ℕ) (link : Link) → slice_get links l ≡ Some link → is_input link ≡ true → is_output link ≡ false)
    → ((l : ℕ) (flow : Flow) → slice_get flows l ≡ Some flow → flow.arrived ≤ length flow.sent)
    → Arrives net (with_flows s (front ++ flows)) (with_flows s (front ++ each_flow with_rest links flows))
feeds_from net s front [] [] clear here same inner fits = nothing net (with_flows s (front ++ []))
feeds_from net s front [] (flow ∷ flows) clear here same inner fits = absurd (omega arith)
feeds_from net s front (link ∷ links) [] clear here same inner fits = absurd (omega arith)
feeds_from net s front (link ∷ links) (flow ∷ flows) clear here same inner fits =
    let new : Flow = with_rest link flow in
    let last : List Flow = each_flow with_rest links flows in
    let first : slice_get net.links (length front) ≡ Some link =
    (let none : length front ≡ length front + 0 = omega arith in ap (slice_get net.links) none ∙ here 0) in
    let others : Arrives net (with_flows s ((front ++ (new ∷ [])) ++ flows)) (with_flows s ((front ++ (new ∷ [])) ++ last)) =
    feeds_from net s (front ++ (new ∷ [])) links flows clear
    (λ k. ap (slice_get net.links) (next_place front new k) ∙ here (suc k)) (omega arith)
    (λ l. inner (suc l)) (λ l. fits (suc l)) in
    both net _ _ _ (one_feed net s front link flow flows (is_input link) clear first refl (inner 0 link refl) (fits 0 flow refl))
    (subst (λ fs. Arrives net (with_flows s fs) (with_flows s (front ++ (new ∷ last)))) (append_assoc front (new ∷ []) flows)
    (subst (λ fs. Arrives net (with_flows s ((front ++ (new ∷ [])) ++ flows)) (with_flows s fs)) (append_assoc front (new ∷ []) last) others))

none_before : (k : ℕ) → 0 + k ≡ k
none_before k = omega arith

pub fed : {X : Type 0} (net : Network X) (s : State X) → s.trapped ≡ false → HasFlows net s → AreOrdered s
    → ((l : ℕ) (link : Link) → slice_get net.links l ≡ Some link → is_input link ≡ true → is_output link ≡ false)
    → Arrives net s (all_fed net s)
fed net s clear same ordered inner =
    feeds_from net s [] net.links s.flows clear (λ k. ap (slice_get net.links) (none_before k)) same inner (λ l flow at. (ordered l flow at).1)

-- ---- nothing is left to arrive

arrived_if : (link : Link) (flow : Flow) → (is_input link ≡ false → flow.arrived ≡ length flow.sent) → (input : Bool) → is_input link ≡ input
    → (with_rest link flow).arrived ≡ length flow.sent
arrived_if link flow h true is = rw is refl
arrived_if link flow h false is = rw is (h is)

all_there : (links : List Link) (flows : List Flow) (l : ℕ) (flow : Flow) → AllArrived links flows
    → slice_get (each_flow with_rest links flows) l ≡ Some flow → flow.arrived ≡ length flow.sent
all_there [] flows l flow all at = cc
all_there (link ∷ links) [] l flow all at = cc
all_there (link ∷ links) (first ∷ flows) zero flow all at =
    let same : with_rest link first ≡ flow = cc in
    subst (λ f. f.arrived ≡ length f.sent) same (arrived_if link first all.0 (is_input link) refl)
all_there (link ∷ links) (first ∷ flows) (suc l) flow all at = all_there links flows l flow all.1 at

pub no_delivery : {X : Type 0} (net : Network X) (s t : State X) (l : ℕ) → IsSettled net s → happens net (all_fed net s) (Deliver l 1) ≡ Some t → ⊥
no_delivery net s t l settled h =
    let one : Arrived net (all_fed net s) t l 1 = arrived_unless net (all_fed net s) t l 1 s.trapped refl h in
    let all : one.flow.arrived ≡ length one.flow.sent = all_there net.links s.flows l one.flow settled.arrived one.at_flow in
    let fits : one.flow.arrived + 1 ≤ length one.flow.sent = one.fits in
    absurd (omega arith)

pub quiet_is_final : {X : Type 0} (net : Network X) (q : State X) → IsQuiet net q → IsFinal net (all_fed net q)
quiet_is_final net q quiet (Fire i a) t single h =
    let one : Fired net (all_fed net q) t i a = fired_unless net (all_fed net q) t i a q.trapped refl h in
    let both : Some (Fires one.to one.sent) ≡ None = sym one.effect ∙ quiet.nothing i a in
    absurd (cc)
quiet_is_final net q quiet (Deliver l k) t single h =
    no_delivery net q t l quiet.settled (subst (λ w. happens net (all_fed net q) (Deliver l w) ≡ Some t) single h)
quiet_is_final net q quiet (Trap i a c) t single h = absurd single

-- feeds don't change what was sent
each_sent : (links : List Link) (flows : List Flow) (l : ℕ) → length flows ≡ length links
    → sent_of (slice_get (each_flow with_rest links flows) l) ≡ sent_of (slice_get flows l)
each_sent [] [] l same = refl
each_sent [] (flow ∷ flows) l same = absurd (omega arith)
each_sent (link ∷ links) [] l same = refl
each_sent (link ∷ links) (flow ∷ flows) zero same = refl
each_sent (link ∷ links) (flow ∷ flows) (suc l) same = each_sent links flows l (omega arith)

pub fed_sent : {X : Type 0} (net : Network X) (s : State X) (l : ℕ) → HasFlows net s → sent_on_link (all_fed net s) l ≡ sent_on_link s l
fed_sent net s l same = each_sent net.links s.flows l same
