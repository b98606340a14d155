-- The lines of a trace are runs of events, and lead to one state.
use Rattle.std.proofs.Common.{◌≡◌, ℕ, zero, suc, ◌+◌, ◌-◌, ◌≤◌, min, Bool, true, false, List, [], ◌∷◌, ◌++◌, length, map, refl, sym, ap, ◌∙◌, subst, ⊎_elim, arith, append_assoc}
use Rattle.std.specs.Prelude.{Option, None, Some, slice_get, slice_set, if◌then◌else◌}
use Rattle.std.proofs.lemmas.Bool.{le-leb, cases_lt}
use Rattle.std.proofs.lemmas.List.{length-map, length-append}
use Rattle.rvc_base.specs.declared.trap.Trap.{Trap as TrapName}
use Rattle.rvc_base.specs.Behaviour.{Effect, Fires, TrapsInGuard, TrapsInBody}
use Rattle.trace_text.specs.declared.line.Line.{Line}
use Rattle.trace_text.specs.declared.line.Line.TheVariants.{Header, Inst, Fire as FireLine, Deliver as DeliverLine, Grow, Quiet, Trap as TrapLine, Stall, Budget}
use Rattle.net_model.specs.declared.wiring.Link.{Link}
use Rattle.net_model.specs.Network.{Network, is_input, is_output}
use Rattle.net_model.specs.State.{Flow, State, untaken, start_of, first_flow}
use Rattle.net_model.specs.Event.{Event, Fire, Deliver, Trap, each_flow, after_arrival, fire, deliver, trap, happens, and_then, run}
use Rattle.net_model.specs.Trace.{arrivals, delivered, after_delivery, grown, goes, played, OnNext, PlaysFrom}
use Rattle.net_model.specs.Wired.{IsWired}
use Rattle.net_model.specs.Laws.{firings_in, firings_shown, without_capacity, without_capacities, IsRunOf, HasFlows, IsOrdered, AreOrdered, AreLawful}
use Rattle.net_model.proofs.Bare.{bare_flow, get_bare, Alike, run_alike}
use Rattle.net_model.proofs.Bounds.{run_ordered, first_ordered}

next_played : {X : Type 0} (o : Option (State X)) (f : State X → Option (State X)) (P : State X → Type 0) (last : State X)
    → OnNext o P → ((u : State X) → P u → f u ≡ Some last) → and_then o f ≡ Some last
next_played None f P last h p = absurd h
next_played (Some u) f P last h p = p u h

-- the relation is the fold of the lines' steps
pub plays_played : {X : Type 0} (net : Network X) (grow : ℕ) (s : State X) (lines : List Line) (last : State X)
    → PlaysFrom net grow s lines last → played net s lines ≡ Some last
plays_played net grow s [] last h = ap (λ w. Some w) h
plays_played net grow s (line ∷ lines) last h =
    next_played (goes net s line) (λ u. played net u lines) (λ u. PlaysFrom net grow u lines last) last h.1
    (λ u. plays_played net grow u lines last)

pub plays_to_one : {X : Type 0} (net : Network X) (grow : ℕ) (lines : List Line) (s t u : State X)
    → PlaysFrom net grow s lines t → PlaysFrom net grow s lines u → t ≡ u
plays_to_one net grow lines s t u p q =
    let one : played net s lines ≡ Some t = plays_played net grow s lines t p in
    let other : played net s lines ≡ Some u = plays_played net grow s lines u q in
    cc

-- events lead from s to t, and the firings among them are these
record Reaches {X : Type 0} (net : Network X) (s t : State X) (firings : List (ℕ × ℕ)) : Type 0 where
  events : List Event
  leads : run net s events ≡ Some t
  same_firings : firings_in events ≡ firings

length_each : (change : Link → Flow → Flow) (links : List Link) (flows : List Flow) → length flows ≡ length links
    → length (each_flow change links flows) ≡ length links
length_each change [] flows h = refl
length_each change (link ∷ links) [] h = absurd (omega arith)
length_each change (link ∷ links) (flow ∷ flows) h = ap suc (length_each change links flows (omega arith))

step_then : {X : Type 0} (o : Option (State X)) (f g : State X → Option (State X)) (t u : State X)
    → and_then o f ≡ Some t → ((v : State X) → f v ≡ Some t → g v ≡ Some u) → and_then o g ≡ Some u
step_then None f g t u h p = cc
step_then (Some v) f g t u h p = p v h

pub run_then : {X : Type 0} (net : Network X) (s t u : State X) (es fs : List Event)
    → run net s es ≡ Some t → run net t fs ≡ Some u → run net s (es ++ fs) ≡ Some u
run_then net s t u [] fs p q = let same : s ≡ t = cc in subst (λ w. run net w fs ≡ Some u) (sym same) q
run_then net s t u (e ∷ es) fs p q =
    step_then (happens net s e) (λ v. run net v es) (λ v. run net v (es ++ fs)) t u p
    (λ v h. run_then net v t u es fs h q)

firings_then : (es fs : List Event) → firings_in (es ++ fs) ≡ firings_in es ++ firings_in fs
firings_then [] fs = refl
firings_then (Fire i a ∷ es) fs = ap (λ w. (i, a) ∷ w) (firings_then es fs)
firings_then (Deliver l k ∷ es) fs = firings_then es fs
firings_then (Trap i a c ∷ es) fs = firings_then es fs

runs_then : {X : Type 0} (net : Network X) (s t u : State X) (xs ys : List (ℕ × ℕ))
    → Reaches net s t xs → Reaches net t u ys → Reaches net s u (xs ++ ys)
runs_then net s t u xs ys p q = record {
  events = p.events ++ q.events;
  leads = run_then net s t u p.events q.events p.leads q.leads;
  same_firings = rw (firings_then p.events q.events, p.same_firings, q.same_firings);
}

no_run : {X : Type 0} (net : Network X) (s : State X) → Reaches net s s []
no_run net s = record { events = []; leads = refl; same_firings = refl }

chosen : {A : Type 0} (b : Bool) (x : A) → (if b then x else x) ≡ x
chosen true x = refl
chosen false x = refl

flow_same : (flow : Flow) (arrived taken : ℕ) → arrived ≡ flow.arrived → taken ≡ flow.taken
    → ◌≡◌ {A = Flow} (record { sent = flow.sent; arrived = arrived; taken = taken; capacity = flow.capacity }) flow
flow_same flow arrived taken a t = rw (a, t)

-- if none arrives, the flow stays
pub after_none : (link : Link) (flow : Flow) → after_arrival 0 link flow ≡ flow
after_none link flow =
    let same : flow.taken + 0 ≡ flow.taken = omega arith in
    flow_same flow _ _ (omega arith) (rw same (chosen (is_output link) flow.taken))

none_arrives : (inner : Bool) (room left : ℕ) → left ≡ 0 → (if inner then min room left else left) ≡ 0
none_arrives true room left h = omega arith
none_arrives false room left h = h

some_fit : (inner : Bool) (room left : ℕ) → (if inner then min room left else left) ≤ left
some_fit true room left = omega arith
some_fit false room left = omega arith

delivered_none : (link : Link) (flow : Flow) → length flow.sent ≤ flow.arrived → delivered link flow ≡ flow
delivered_none link flow all =
    let none : arrivals link flow ≡ 0 =
    none_arrives (is_input link) (flow.capacity - untaken flow) (length flow.sent - flow.arrived) (omega arith) in
    rw none (after_none link flow)

delivered_fits : (link : Link) (flow : Flow) → flow.arrived ≤ length flow.sent
    → flow.arrived + arrivals link flow ≤ length flow.sent
delivered_fits link flow some =
    let fit : arrivals link flow ≤ length flow.sent - flow.arrived =
    some_fit (is_input link) (flow.capacity - untaken flow) (length flow.sent - flow.arrived) in
    omega arith

deliver_here : {X : Type 0} (s : State X) (j k : ℕ) (link : Link) (flow : Flow) (o : Option Link) (p : Option Flow)
    → o ≡ Some link → p ≡ Some flow → flow.arrived + k ≤ length flow.sent
    → deliver s j k o p ≡ Some (record s { flows = slice_set s.flows j (after_arrival k link flow) })
deliver_here s j k link flow o p at_link at_flow fits =
    rw (at_link, at_flow, le-leb (flow.arrived + k) (length flow.sent) fits)

get_after : {A : Type 0} (front : List A) (x : A) (rest : List A) → slice_get (front ++ (x ∷ rest)) (length front) ≡ Some x
get_after [] x rest = refl
get_after (y ∷ front) x rest = get_after front x rest

set_after : {A : Type 0} (front : List A) (x y : A) (rest : List A)
    → slice_set (front ++ (x ∷ rest)) (length front) y ≡ front ++ (y ∷ rest)
set_after [] x y rest = refl
set_after (z ∷ front) x y rest = ap (λ w. z ∷ w) (set_after front x y rest)

-- the state in a delivery: the flows of some links have had theirs
abbrev midst : {X : Type 0} → List X → List Flow → State X
midst actors flows = record { actors = actors; flows = flows; trapped = false }

-- one link's part of a delivery: an event, or none if nothing can arrive
one_arrives : {X : Type 0} (net : Network X) (actors : List X) (front : List Flow) (link : Link) (flow : Flow) (flows : List Flow)
    → slice_get net.links (length front) ≡ Some link
    → Reaches net (midst actors (front ++ (flow ∷ flows))) (midst actors (front ++ (delivered link flow ∷ flows))) []
one_arrives net actors front link flow flows at_link =
    ⊎_elim
    (λ over. subst
    (λ f. Reaches net (midst actors (front ++ (flow ∷ flows))) (midst actors (front ++ (f ∷ flows))) [])
    (sym (delivered_none link flow (omega arith))) (no_run net (midst actors (front ++ (flow ∷ flows)))))
    (λ some. record {
      events = Deliver (length front) (arrivals link flow) ∷ [];
      leads = rw (
        deliver_here (midst actors (front ++ (flow ∷ flows))) (length front) (arrivals link flow) link flow
            (slice_get net.links (length front)) (slice_get (front ++ (flow ∷ flows)) (length front))
            at_link (get_after front flow flows) (delivered_fits link flow some),
        set_after front flow (delivered link flow) flows,
      );
      same_firings = refl;
    })
    (cases_lt (length flow.sent) flow.arrived)

next_place : (front : List Flow) (flow : Flow) (k : ℕ) → length (front ++ (flow ∷ [])) + k ≡ length front + suc k
next_place front flow k = rw length-append (omega arith)

-- the rest of a delivery, from a link on
rest_arrives : {X : Type 0} (net : Network X) (actors : List X) (front : List Flow) (links : List Link) (flows : List Flow)
    → ((k : ℕ) → slice_get net.links (length front + k) ≡ slice_get links k) → length flows ≡ length links
    → Reaches net (midst actors (front ++ flows)) (midst actors (front ++ each_flow delivered links flows)) []
rest_arrives net actors front [] [] here same = no_run net (midst actors (front ++ []))
rest_arrives net actors front [] (flow ∷ flows) here same = absurd (omega arith)
rest_arrives net actors front (link ∷ links) [] here same = absurd (omega arith)
rest_arrives net actors front (link ∷ links) (flow ∷ flows) here same =
    let new : Flow = delivered link flow in
    let last : List Flow = each_flow delivered links flows in
    let first : slice_get net.links (length front) ≡ Some link =
    (let none : length front ≡ length front + 0 = omega arith in ap (slice_get net.links) none ∙ here 0) in
    let others : Reaches net (midst actors ((front ++ (new ∷ [])) ++ flows)) (midst actors ((front ++ (new ∷ [])) ++ last)) [] =
    rest_arrives net actors (front ++ (new ∷ [])) links flows
    (λ k. ap (slice_get net.links) (next_place front new k) ∙ here (suc k))
    (omega arith) in
    runs_then net _ _ _ [] [] (one_arrives net actors front link flow flows first)
    (subst (λ fs. Reaches net (midst actors fs) (midst actors (front ++ (new ∷ last))) [])
    (append_assoc front (new ∷ []) flows)
    (subst (λ fs. Reaches net (midst actors ((front ++ (new ∷ [])) ++ flows)) (midst actors fs) [])
    (append_assoc front (new ∷ []) last) others))

none_before : (k : ℕ) → 0 + k ≡ k
none_before k = omega arith

-- a delivery is a run of events, and none of them is a firing
delivery_run : {X : Type 0} (net : Network X) (s : State X) → HasFlows net s → s.trapped ≡ false
    → Reaches net s (after_delivery net s) []
delivery_run net s same untrapped =
    let run_of : Reaches net (midst s.actors s.flows) (midst s.actors (each_flow delivered net.links s.flows)) [] =
    rest_arrives net s.actors [] net.links s.flows (λ k. ap (slice_get net.links) (none_before k)) same in
    subst (λ b. Reaches net (record { actors = s.actors; flows = s.flows; trapped = b })
    (record { actors = s.actors; flows = each_flow delivered net.links s.flows; trapped = b }) [])
    (sym untrapped) run_of

one_event : {X : Type 0} (net : Network X) (s t : State X) (event : Event) → happens net s event ≡ Some t
    → Reaches net s t (firings_in (event ∷ []))
one_event net s t event h = record { events = event ∷ []; leads = rw h; same_firings = refl }

same_run : {X : Type 0} (net : Network X) (s t : State X) → Some s ≡ Some t → Reaches net s t []
same_run net s t h = let same : s ≡ t = cc in subst (λ w. Reaches net s w []) same (no_run net s)

delivered_run : {X : Type 0} (net : Network X) (s t : State X) (trapped : Bool) → HasFlows net s → s.trapped ≡ trapped
    → (if trapped then None else Some (after_delivery net s)) ≡ Some t → Reaches net s t []
delivered_run net s t true same mark h = cc
delivered_run net s t false same mark h =
    let to : after_delivery net s ≡ t = cc in subst (λ w. Reaches net s w []) to (delivery_run net s same mark)

as_run : {X : Type 0} (net : Network X) (s t : State X) (firings : List (ℕ × ℕ)) → Reaches net s t firings → IsRunOf net s t firings
as_run net s t firings r =
    record { events = r.events; reached = t; leads = r.leads; same_tokens = refl; same_firings = r.same_firings }

-- one run and another from where it led to, but for the capacities
alike_then : {X : Type 0} (net : Network X) (s t u : State X) (xs ys : List (ℕ × ℕ))
    → IsRunOf net s t xs → IsRunOf net t u ys → IsRunOf net s u (xs ++ ys)
alike_then net s t u xs ys p q =
    let on : Alike (run net p.reached q.events) q.reached = run_alike net p.reached t q.reached q.events p.same_tokens q.leads in
    record {
      events = p.events ++ q.events;
      reached = on.other;
      leads = run_then net s p.reached on.other p.events q.events p.leads on.is;
      same_tokens = on.same ∙ q.same_tokens;
      same_firings = rw (firings_then p.events q.events, p.same_firings, q.same_firings);
    }

-- a link that grows keeps its tokens
set_capacity : (flows : List Flow) (l capacity : ℕ) (flow : Flow) → slice_get flows l ≡ Some flow
    → map without_capacity (slice_set flows l (record flow { capacity = capacity })) ≡ map without_capacity flows
set_capacity [] l capacity flow here = refl
set_capacity (first ∷ flows) zero capacity flow here =
    let is : first ≡ flow = cc in ap (λ f. without_capacity f ∷ map without_capacity flows) (sym is)
set_capacity (first ∷ flows) (suc l) capacity flow here =
    ap (λ w. without_capacity first ∷ w) (set_capacity flows l capacity flow here)

grown_run : {X : Type 0} (net : Network X) (s t : State X) (l capacity : ℕ) (flow : Option Flow) → slice_get s.flows l ≡ flow
    → grown s l capacity flow ≡ Some t → IsRunOf net s t []
grown_run net s t l capacity (Some flow) here h =
    let to : record s { flows = slice_set s.flows l (record flow { capacity = capacity }) } ≡ t = cc in
    subst (λ w. IsRunOf net s w []) to (record {
      events = [];
      reached = s;
      leads = refl;
      same_tokens = ap (λ fs. record { actors = s.actors; flows = fs; trapped = s.trapped }) (sym (set_capacity s.flows l capacity flow here));
      same_firings = refl;
    })
grown_run net s t l capacity None here h = cc

line_run : {X : Type 0} (net : Network X) (s t : State X) (line : Line) → HasFlows net s → goes net s line ≡ Some t
    → IsRunOf net s t (firings_shown (line ∷ []))
line_run net s t (FireLine i a) same h = as_run net s t _ (one_event net s t (Fire i a) h)
line_run net s t DeliverLine same h = as_run net s t _ (delivered_run net s t s.trapped same refl h)
line_run net s t (TrapLine i a c) same h = as_run net s t _ (one_event net s t (Trap i a c) h)
line_run net s t (Grow l capacity) same h = grown_run net s t l capacity _ refl h
line_run net s t Quiet same h = as_run net s t _ (same_run net s t h)
line_run net s t (Stall i a l) same h = as_run net s t _ (same_run net s t h)
line_run net s t Budget same h = as_run net s t _ (same_run net s t h)
line_run net s t (Header n l g) same h = cc
line_run net s t (Inst k) same h = cc

-- a flow a link after each line
from_some : {X : Type 0} (net : Network X) (t u : State X) → Some u ≡ Some t → HasFlows net u → HasFlows net t
from_some net t u h p = let same : u ≡ t = cc in subst (λ w. HasFlows net w) same p

fire_flows : {X : Type 0} (net : Network X) (s t : State X) (i a : ℕ) (e : Option (Effect X)) → HasFlows net s
    → fire net s i a e ≡ Some t → HasFlows net t
fire_flows net s t i a (Some (Fires x sent)) same h = from_some net t _ h (length_each _ net.links s.flows same)
fire_flows net s t i a (Some (TrapsInGuard c)) same h = cc
fire_flows net s t i a (Some (TrapsInBody c)) same h = cc
fire_flows net s t i a None same h = cc

mark_flows : {X : Type 0} (net : Network X) (s t : State X) (alike : Bool) → HasFlows net s
    → (if alike then Some (record s { trapped = true }) else None) ≡ Some t → HasFlows net t
mark_flows net s t true same h = from_some net t _ h same
mark_flows net s t false same h = cc

trap_flows : {X : Type 0} (net : Network X) (s t : State X) (c : TrapName) (e : Option (Effect X)) → HasFlows net s
    → trap s c e ≡ Some t → HasFlows net t
trap_flows net s t c (Some (Fires x sent)) same h = cc
trap_flows net s t c (Some (TrapsInGuard d)) same h = mark_flows net s t _ same h
trap_flows net s t c (Some (TrapsInBody d)) same h = mark_flows net s t _ same h
trap_flows net s t c None same h = cc

unless_flows : {X : Type 0} (net : Network X) (t : State X) (trapped : Bool) (o : Option (State X))
    → (o ≡ Some t → HasFlows net t) → (if trapped then None else o) ≡ Some t → HasFlows net t
unless_flows net t true o p h = cc
unless_flows net t false o p h = p h

length_set : {A : Type 0} (xs : List A) (l : ℕ) (x : A) → length (slice_set xs l x) ≡ length xs
length_set [] l x = refl
length_set (y ∷ xs) zero x = refl
length_set (y ∷ xs) (suc l) x = ap suc (length_set xs l x)

grown_flows : {X : Type 0} (net : Network X) (s t : State X) (l capacity : ℕ) (flow : Option Flow) → HasFlows net s
    → grown s l capacity flow ≡ Some t → HasFlows net t
grown_flows net s t l capacity (Some flow) same h =
    from_some net t _ h (length_set s.flows l (record flow { capacity = capacity }) ∙ same)
grown_flows net s t l capacity None same h = cc

line_flows : {X : Type 0} (net : Network X) (s t : State X) (line : Line) → HasFlows net s → goes net s line ≡ Some t
    → HasFlows net t
line_flows net s t (FireLine i a) same h = unless_flows net t s.trapped _ (fire_flows net s t i a _ same) h
line_flows net s t DeliverLine same h =
    unless_flows net t s.trapped _ (λ e. from_some net t _ e (length_each delivered net.links s.flows same)) h
line_flows net s t (TrapLine i a c) same h = unless_flows net t s.trapped _ (trap_flows net s t c _ same) h
line_flows net s t (Grow l capacity) same h = grown_flows net s t l capacity _ same h
line_flows net s t Quiet same h = from_some net t s h same
line_flows net s t (Stall i a l) same h = from_some net t s h same
line_flows net s t Budget same h = from_some net t s h same
line_flows net s t (Header n l g) same h = cc
line_flows net s t (Inst k) same h = cc

shown_then : (line : Line) (lines : List Line) → firings_shown (line ∷ lines) ≡ firings_shown (line ∷ []) ++ firings_shown lines
shown_then (FireLine i a) lines = refl
shown_then DeliverLine lines = refl
shown_then (TrapLine i a c) lines = refl
shown_then (Grow l capacity) lines = refl
shown_then Quiet lines = refl
shown_then (Stall i a l) lines = refl
shown_then Budget lines = refl
shown_then (Header n l g) lines = refl
shown_then (Inst k) lines = refl

step_run : {X : Type 0} (net : Network X) (s t : State X) (o : Option (State X)) (f : State X → Option (State X)) (xs ys : List (ℕ × ℕ))
    → ((u : State X) → o ≡ Some u → IsRunOf net s u xs) → ((u : State X) → o ≡ Some u → f u ≡ Some t → IsRunOf net u t ys)
    → and_then o f ≡ Some t → IsRunOf net s t (xs ++ ys)
step_run net s t None f xs ys p q h = cc
step_run net s t (Some u) f xs ys p q h = alike_then net s u t xs ys (p u refl) (q u refl h)

played_run : {X : Type 0} (net : Network X) (s t : State X) (lines : List Line) → HasFlows net s → played net s lines ≡ Some t
    → IsRunOf net s t (firings_shown lines)
played_run net s t [] same h = as_run net s t _ (same_run net s t h)
played_run net s t (line ∷ lines) same h =
    subst (λ xs. IsRunOf net s t xs) (sym (shown_then line lines))
    (step_run net s t (goes net s line) (λ u. played net u lines) (firings_shown (line ∷ [])) (firings_shown lines)
    (λ u. line_run net s u line same) (λ u e. played_run net u t lines (line_flows net s u line same e)) h)

pub lines_run : {X : Type 0} (net : Network X) (grow : ℕ) (lines : List Line) (s t : State X) → HasFlows net s
    → PlaysFrom net grow s lines t → IsRunOf net s t (firings_shown lines)
lines_run net grow lines s t same h = played_run net s t lines same (plays_played net grow s lines t h)

step_flows : {X : Type 0} (net : Network X) (t : State X) (o : Option (State X)) (f : State X → Option (State X))
    → ((u : State X) → o ≡ Some u → HasFlows net u) → ((u : State X) → HasFlows net u → f u ≡ Some t → HasFlows net t)
    → and_then o f ≡ Some t → HasFlows net t
step_flows net t None f p q h = cc
step_flows net t (Some u) f p q h = q u (p u refl) h

pub played_flows : {X : Type 0} (net : Network X) (s t : State X) (lines : List Line) → HasFlows net s
    → played net s lines ≡ Some t → HasFlows net t
played_flows net s t [] same h = from_some net t s h same
played_flows net s t (line ∷ lines) same h =
    step_flows net t (goes net s line) _ (λ u. line_flows net s u line same) (λ u has. played_flows net u t lines has) h

ordered_bare : {X : Type 0} (s t : State X) → without_capacities s ≡ without_capacities t → AreOrdered s → AreOrdered t
ordered_bare s t same ordered l flow at =
    let there : slice_get (map without_capacity s.flows) l ≡ Some (without_capacity flow) =
    ap (λ w. slice_get w.flows l) same ∙ (get_bare t.flows l ∙ ap bare_flow at) in
    of_bare (slice_get s.flows l) refl (sym (get_bare s.flows l) ∙ there)
  where
    of_bare : (o : Option Flow) → slice_get s.flows l ≡ o → bare_flow o ≡ Some (without_capacity flow) → IsOrdered flow
    of_bare None is e = cc
    of_bare (Some other) is e =
        let one : without_capacity other ≡ without_capacity flow = cc in
        let first : IsOrdered (without_capacity other) = ordered l other is in
        subst (λ f. IsOrdered f) one first

pub lines_ordered : {X : Type 0} (net : Network X) (grow : ℕ) (lines : List Line) (s t : State X) → IsWired net → AreLawful net
    → HasFlows net s → AreOrdered s → PlaysFrom net grow s lines t → HasFlows net t × AreOrdered t
lines_ordered net grow lines s t wired lawful same ordered h =
    let r : IsRunOf net s t (firings_shown lines) = lines_run net grow lines s t same h in (
      played_flows net s t lines same (plays_played net grow s lines t h),
      ordered_bare r.reached t r.same_tokens (run_ordered net r.events s r.reached wired lawful ordered r.leads),
    )

pub starts_in_order : {X : Type 0} (net : Network X) (inputs : List (List ℕ))
    → HasFlows net (start_of net inputs) × AreOrdered (start_of net inputs)
starts_in_order net inputs = (length-map net.links (first_flow net.ins inputs), first_ordered net.ins inputs net.links)
