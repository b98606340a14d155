-- Sent lists only grow.
use Rattle.std.proofs.Common.{◌≡◌, ℕ, zero, suc, ◌<◌, Bool, true, false, List, [], ◌∷◌, ◌++◌, length, refl, sym, ap, ◌∙◌, subst, arith, append_assoc, append-nil}
use Rattle.std.specs.Prelude.{Option, None, Some, slice_get, slice_set, if◌then◌else◌}
use Rattle.rvc_base.specs.declared.trap.Trap.{Trap as TrapName}
use Rattle.rvc_base.specs.Behaviour.{Effect, Fires, TrapsInGuard, TrapsInBody}
use Rattle.trace_text.specs.declared.line.Line.{Line}
use Rattle.trace_text.specs.declared.line.Line.TheVariants.{Header, Inst, Fire as FireLine, Deliver as DeliverLine, Grow, Quiet, Trap as TrapLine, Stall, Budget}
use Rattle.net_model.specs.declared.wiring.Link.{Link}
use Rattle.net_model.specs.Network.{Network}
use Rattle.net_model.specs.State.{Flow, State}
use Rattle.net_model.specs.Event.{Event, Fire, Deliver, Trap, each_flow, sent_on, after_arrival, fire, deliver, trap, permitted, happens, and_then, run}
use Rattle.net_model.specs.Trace.{delivered, grown, goes, played}
use Rattle.net_model.specs.Stable.{IsPrefix}
use Rattle.net_model.specs.Laws.{sent_of, sent_on_link, SentGrows}

prefix_same : {A : Type 0} (xs : List A) → IsPrefix xs xs
prefix_same xs = ([], sym (append-nil xs))

prefix_then : {A : Type 0} (xs ys zs : List A) → IsPrefix xs ys → IsPrefix ys zs → IsPrefix xs zs
prefix_then xs ys zs p q = (p.0 ++ q.0, (q.1 ∙ ap (λ w. w ++ q.0) p.1) ∙ append_assoc xs p.0 q.0)

grows_same : {X : Type 0} (net : Network X) (s : State X) → SentGrows net s s
grows_same net s l low = prefix_same (sent_on_link s l)

grows_then : {X : Type 0} (net : Network X) (s t u : State X)
    → SentGrows net s t → SentGrows net t u → SentGrows net s u
grows_then net s t u p q l low = prefix_then _ _ _ (p l low) (q l low)

-- a change that keeps what was sent on a flow at the front keeps it on each
each_grows : (change : Link → Flow → Flow)
    → ((link : Link) (flow : Flow) → IsPrefix flow.sent (change link flow).sent)
    → (links : List Link) (flows : List Flow) (l : ℕ) → l < length links
    → IsPrefix (sent_of (slice_get flows l)) (sent_of (slice_get (each_flow change links flows) l))
each_grows change keeps [] flows l low = absurd (omega arith)
each_grows change keeps (link ∷ links) [] l low = prefix_same []
each_grows change keeps (link ∷ links) (flow ∷ flows) zero low = keeps link flow
each_grows change keeps (link ∷ links) (flow ∷ flows) (suc l) low = each_grows change keeps links flows l (omega arith)

-- a flow in place of one with the same tokens
set_grows : (flows : List Flow) (k : ℕ) (old new : Flow) → slice_get flows k ≡ Some old → new.sent ≡ old.sent
    → (l : ℕ) → IsPrefix (sent_of (slice_get flows l)) (sent_of (slice_get (slice_set flows k new) l))
set_grows [] k old new here same l = prefix_same []
set_grows (flow ∷ flows) zero old new here same zero =
    let was : flow ≡ old = cc in
    ([], (same ∙ ap (λ f. f.sent) (sym was)) ∙ sym (append-nil flow.sent))
set_grows (flow ∷ flows) zero old new here same (suc l) = prefix_same _
set_grows (flow ∷ flows) (suc k) old new here same zero = prefix_same _
set_grows (flow ∷ flows) (suc k) old new here same (suc l) = set_grows flows k old new here same l

-- the state in a Some, by an equation
from_some : {X : Type 0} (net : Network X) (s t u : State X) → Some u ≡ Some t → SentGrows net s u → SentGrows net s t
from_some net s t u h p = let same : u ≡ t = cc in subst (λ w. SentGrows net s w) same p

fire_grows : {X : Type 0} (net : Network X) (s t : State X) (i a : ℕ) (e : Option (Effect X))
    → fire net s i a e ≡ Some t → SentGrows net s t
fire_grows net s t i a (Some (Fires x sent)) h =
    from_some net s t _ h (each_grows _ (λ link flow. (sent_on i sent link link.from, refl)) net.links s.flows)
fire_grows net s t i a (Some (TrapsInGuard c)) h = cc
fire_grows net s t i a (Some (TrapsInBody c)) h = cc
fire_grows net s t i a None h = cc

arrival_grows : {X : Type 0} (net : Network X) (s t : State X) (l k : ℕ) (link : Link) (flow : Flow) (fits : Bool)
    → slice_get s.flows l ≡ Some flow
    → (if fits then Some (record s { flows = slice_set s.flows l (after_arrival k link flow) }) else None) ≡ Some t
    → SentGrows net s t
arrival_grows net s t l k link flow true here h =
    from_some net s t _ h (λ m low. set_grows s.flows l flow (after_arrival k link flow) here refl m)
arrival_grows net s t l k link flow false here h = cc

deliver_grows : {X : Type 0} (net : Network X) (s t : State X) (l k : ℕ) (link : Option Link) (flow : Option Flow)
    → slice_get s.flows l ≡ flow → deliver s l k link flow ≡ Some t → SentGrows net s t
deliver_grows net s t l k (Some link) (Some flow) here h = arrival_grows net s t l k link flow _ here h
deliver_grows net s t l k (Some link) None here h = cc
deliver_grows net s t l k None flow here h = cc

mark_grows : {X : Type 0} (net : Network X) (s t : State X) (same : Bool)
    → (if same then Some (record s { trapped = true }) else None) ≡ Some t → SentGrows net s t
mark_grows net s t true h = from_some net s t _ h (grows_same net s)
mark_grows net s t false h = cc

trap_grows : {X : Type 0} (net : Network X) (s t : State X) (c : TrapName) (e : Option (Effect X))
    → trap s c e ≡ Some t → SentGrows net s t
trap_grows net s t c (Some (Fires x sent)) h = cc
trap_grows net s t c (Some (TrapsInGuard d)) h = mark_grows net s t _ h
trap_grows net s t c (Some (TrapsInBody d)) h = mark_grows net s t _ h
trap_grows net s t c None h = cc

permitted_grows : {X : Type 0} (net : Network X) (s t : State X) (event : Event)
    → permitted net s event ≡ Some t → SentGrows net s t
permitted_grows net s t (Fire i a) h = fire_grows net s t i a _ h
permitted_grows net s t (Deliver l k) h = deliver_grows net s t l k _ _ refl h
permitted_grows net s t (Trap i a c) h = trap_grows net s t c _ h

unless_grows : {X : Type 0} (net : Network X) (s t : State X) (trapped : Bool) (o : Option (State X))
    → (o ≡ Some t → SentGrows net s t) → (if trapped then None else o) ≡ Some t → SentGrows net s t
unless_grows net s t true o p h = cc
unless_grows net s t false o p h = p h

happens_grows : {X : Type 0} (net : Network X) (s t : State X) (event : Event)
    → happens net s event ≡ Some t → SentGrows net s t
happens_grows net s t event h = unless_grows net s t s.trapped _ (permitted_grows net s t event) h

-- a step to a state that grows, and what follows from there
step_grows : {X : Type 0} (net : Network X) (s t : State X) (o : Option (State X)) (f : State X → Option (State X))
    → ((u : State X) → o ≡ Some u → SentGrows net s u) → ((u : State X) → f u ≡ Some t → SentGrows net u t)
    → and_then o f ≡ Some t → SentGrows net s t
step_grows net s t None f p q h = cc
step_grows net s t (Some u) f p q h = grows_then net s u t (p u refl) (q u h)

pub run_grows : {X : Type 0} (net : Network X) (s t : State X) (events : List Event)
    → run net s events ≡ Some t → SentGrows net s t
run_grows net s t [] h = from_some net s t s h (grows_same net s)
run_grows net s t (event ∷ events) h =
    step_grows net s t (happens net s event) _ (λ u. happens_grows net s u event) (λ u. run_grows net u t events) h

-- a link that grows keeps its tokens
grown_grows : {X : Type 0} (net : Network X) (s t : State X) (l capacity : ℕ) (flow : Option Flow)
    → slice_get s.flows l ≡ flow → grown s l capacity flow ≡ Some t → SentGrows net s t
grown_grows net s t l capacity (Some flow) here h =
    from_some net s t _ h (λ m low. set_grows s.flows l flow (record flow { capacity = capacity }) here refl m)
grown_grows net s t l capacity None here h = cc

goes_grows : {X : Type 0} (net : Network X) (s t : State X) (line : Line) → goes net s line ≡ Some t → SentGrows net s t
goes_grows net s t (FireLine i a) h = happens_grows net s t (Fire i a) h
goes_grows net s t DeliverLine h =
    unless_grows net s t s.trapped _
    (λ e. from_some net s t _ e (each_grows delivered (λ link flow. prefix_same flow.sent) net.links s.flows)) h
goes_grows net s t (TrapLine i a c) h = happens_grows net s t (Trap i a c) h
goes_grows net s t (Grow l capacity) h = grown_grows net s t l capacity _ refl h
goes_grows net s t Quiet h = from_some net s t s h (grows_same net s)
goes_grows net s t (Stall i a l) h = from_some net s t s h (grows_same net s)
goes_grows net s t Budget h = from_some net s t s h (grows_same net s)
goes_grows net s t (Header n l g) h = cc
goes_grows net s t (Inst k) h = cc

pub played_grows : {X : Type 0} (net : Network X) (s t : State X) (lines : List Line)
    → played net s lines ≡ Some t → SentGrows net s t
played_grows net s t [] h = from_some net s t s h (grows_same net s)
played_grows net s t (line ∷ lines) h =
    step_grows net s t (goes net s line) _ (λ u. goes_grows net s u line) (λ u. played_grows net u t lines) h
