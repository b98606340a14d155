-- No more tokens are taken from a link than have arrived there, and no more arrive than were sent.
use Rattle.std.proofs.Common.{◌≡◌, ℕ, zero, suc, ◌+◌, ◌-◌, ◌<◌, ◌≤◌, Bool, true, false, List, [], ◌∷◌, length, map, refl, sym, ap, ◌∙◌, subst, ⊎_elim, arith}
use Rattle.std.specs.Prelude.{Option, None, Some, slice_get, slice_set, slice_index_or, if◌then◌else◌, nat_le, ◌==◌, ◌&&◌}
use Rattle.std.proofs.lemmas.Bool.{eqb-true, eq-eqb, leb-true, cases_lt}
use Rattle.std.proofs.lemmas.List.FromFn.{get_or-map-range_with_len}
use Rattle.std.proofs.lemmas.List.{length-take, length-drop, length-append}
use Rattle.rvc_base.specs.declared.trap.Trap.{Trap as TrapName}
use Rattle.rvc_base.specs.Behaviour.{Behaviour, Effect, Fires, TrapsInGuard, TrapsInBody}
use Rattle.net_model.specs.declared.wiring.End.{End}
use Rattle.net_model.specs.declared.wiring.End.TheVariants.{Leaf as AtLeaf, Net as AtNet}
use Rattle.net_model.specs.declared.wiring.Link.{Link}
use Rattle.net_model.specs.Network.{NetPort, Leaf, Network, is_output, is_leaf_port}
use Rattle.net_model.specs.State.{Flow, State, waiting, inbox, inboxes, first_flow, effect_of, effect_at, need_of}
use Rattle.net_model.specs.Event.{Event, Fire, Deliver, Trap, each_flow, taken_from, after_firing, after_arrival, fire, deliver, trap, permitted, happens, and_then, run}
use Rattle.rvc_base.specs.Lawful.{IsLawful}
use Rattle.net_model.specs.Wired.{IsWired, IsBefore, LeadsToPort, HasInput}
use Rattle.net_model.specs.Laws.{IsOrdered, AreOrdered, AreLawful}

both_true : (a b : Bool) → (a && b) ≡ true → (a ≡ true) × (b ≡ true)
both_true true b h = (refl, h)
both_true false b h = cc

chosen : {A : Type 0} (b : Bool) (x y : A) → b ≡ true → (if b then x else y) ≡ x
chosen true x y h = refl
chosen false x y h = cc

other : {A : Type 0} (b : Bool) (x y : A) → (b ≡ true → ⊥) → (if b then x else y) ≡ y
other true x y h = absurd (h refl)
other false x y h = refl

-- an end that is this port
is_that_port : (i p : ℕ) (end : End) → is_leaf_port i p end ≡ true → end ≡ AtLeaf (record { 0 = i }) p
is_that_port i p (AtLeaf inst port) h =
    let both = both_true (i == inst.0) (p == port) h in
    let same_inst : i ≡ inst.0 = eqb-true i inst.0 both.0 in
    let same_port : p ≡ port = eqb-true p port both.1 in
    rw (same_inst, same_port)
is_that_port i p (AtNet port) h = cc

is_own_port : (i p : ℕ) → is_leaf_port i p (AtLeaf (record { 0 = i }) p) ≡ true
is_own_port i p = rw (eq-eqb i i refl, eq-eqb p p refl)

-- how many tokens wait
waiting_length : (flow : Flow) → length (waiting flow) ≤ flow.arrived - flow.taken
waiting_length flow = simp (length-drop, length-take) (omega arith)

elim_bool : {P : Type 0} (b : Bool) → (b ≡ true → P) → (b ≡ false → P) → P
elim_bool true p q = p refl
elim_bool false p q = q refl

abbrev IsOnly : List Link → ℕ → Link → Type 0
IsOnly links l link = (m : ℕ) (that : Link) → slice_get links m ≡ Some that → that.to ≡ link.to → m ≡ l

-- the tokens before a port are those that wait on the one link that leads there
inbox_of_link : (i p : ℕ) (links : List Link) (flows : List Flow) (l : ℕ) (link : Link) (flow : Flow)
    → slice_get links l ≡ Some link → slice_get flows l ≡ Some flow → link.to ≡ AtLeaf (record { 0 = i }) p
    → IsOnly links l link → inbox i p links flows ≡ waiting flow
inbox_of_link i p [] flows l link flow at_link at_flow leads only = cc
inbox_of_link i p (head ∷ links) [] l link flow at_link at_flow leads only = cc
inbox_of_link i p (head ∷ links) (first ∷ flows) zero link flow at_link at_flow leads only =
    let same : head ≡ link = cc in
    let same_flow : first ≡ flow = cc in
    let leads_here : head.to ≡ AtLeaf (record { 0 = i }) p = ap (λ k. k.to) same ∙ leads in
    let test : is_leaf_port i p head.to ≡ true = ap (is_leaf_port i p) leads_here ∙ is_own_port i p in
    chosen _ (waiting first) (inbox i p links flows) test ∙ ap waiting same_flow
inbox_of_link i p (head ∷ links) (first ∷ flows) (suc l) link flow at_link at_flow leads only =
    other _ (waiting first) (inbox i p links flows)
    (λ here. absurd (let none : 0 ≡ suc l = only 0 head refl (is_that_port i p head.to here ∙ sym leads) in omega arith))
    ∙ inbox_of_link i p links flows l link flow at_link at_flow leads
    (λ m that at same. let next : suc m ≡ suc l = only (suc m) that at same in omega arith)

-- an effect is one of a leaf that is there, in the state that it has
record Source {X : Type 0} (links : List Link) (flows : List Flow) (i a : ℕ) (leaf : Option (Leaf X)) (x : Option X) (e : Effect X) : Type 0 where
  that : Leaf X
  there : leaf ≡ Some that
  state : X
  has : that.behaviour.effect state (inboxes i that.behaviour.ins links flows) a ≡ Some e

source_of : {X : Type 0} (links : List Link) (flows : List Flow) (i a : ℕ) (leaf : Option (Leaf X)) (x : Option X) (e : Effect X)
    → effect_of links flows i a leaf x ≡ Some e → Source links flows i a leaf x e
source_of links flows i a None x e h = cc
source_of links flows i a (Some leaf) None e h = cc
source_of links flows i a (Some leaf) (Some x) e h = record { that = leaf; there = refl; state = x; has = h }

-- what has an effect has its tokens in its inboxes
needs_waiting : {X : Type 0} (links : List Link) (flows : List Flow) (i a : ℕ) (b : Behaviour X) (x : X) (e : Effect X)
    → IsLawful b → b.effect x (inboxes i b.ins links flows) a ≡ Some e
    → (p : ℕ) → p < b.ins → b.need a p ≤ length (inbox i p links flows)
needs_waiting links flows i a b x e lawful has p low =
    let there : b.need a p ≤ length (slice_index_or (inboxes i b.ins links flows) p []) =
    lawful.has_tokens x (inboxes i b.ins links flows) a (λ none. cc) p low in
    rw (get_or-map-range_with_len (λ q. inbox i q links flows) 0 b.ins p p [] low (omega arith)) at there

input_there : {X : Type 0} (p : ℕ) (o : Option (Leaf X)) (leaf : Leaf X) → o ≡ Some leaf → HasInput p o → p < leaf.behaviour.ins
input_there p None leaf e h = cc
input_there p (Some that) leaf e h = let same : that ≡ leaf = cc in subst (λ k. p < k.behaviour.ins) same h

need_there : {X : Type 0} (o : Option (Leaf X)) (leaf : Leaf X) (a p : ℕ) → o ≡ Some leaf → need_of o a p ≡ leaf.behaviour.need a p
need_there None leaf a p e = cc
need_there (Some that) leaf a p e = let same : that ≡ leaf = cc in ap (λ k. k.behaviour.need a p) same

-- no place is before itself, so a reading end has one link
before_none : (end : End) → IsBefore end end → ⊥
before_none (AtLeaf inst port) before = ⊎_elim (λ low. omega (arith, low)) (λ same. omega (arith, same.1)) before
before_none (AtNet port) before = omega (arith, before)

one_writer : {X : Type 0} (net : Network X) → IsWired net → (l m : ℕ) (link other : Link) → slice_get net.links l ≡ Some link
    → slice_get net.links m ≡ Some other → link.to ≡ other.to → l ≡ m
one_writer net wired l m link other at there same =
    ⊎_elim
    (λ low. absurd (before_none other.to (subst (λ e. IsBefore e other.to) same (wired.in_order l m link other low at there))))
    (λ up. ⊎_elim
    (λ low. absurd (before_none link.to (subst (λ e. IsBefore e link.to) (sym same) (wired.in_order m l other link low there at))))
    (λ down. omega arith) (cases_lt m l))
    (cases_lt l m)

-- a firing takes no more from a link than waits there
taken_fits : {X : Type 0} (net : Network X) (flows : List Flow) (i a : ℕ) (x : Option X) (e : Effect X)
    → IsWired net → AreLawful net → effect_of net.links flows i a (slice_get net.leaves i) x ≡ Some e
    → (l : ℕ) (link : Link) (flow : Flow) → slice_get net.links l ≡ Some link → slice_get flows l ≡ Some flow
    → (end : End) → link.to ≡ end → taken_from i (need_of (slice_get net.leaves i) a) end ≤ flow.arrived - flow.taken
taken_fits net flows i a x e wired lawful has l link flow at_link at_flow (AtNet port) leads = omega arith
taken_fits net flows i a x e wired lawful has l link flow at_link at_flow (AtLeaf inst port) leads =
    elim_bool (i == inst.0)
    (λ here.
    let same : i ≡ inst.0 = eqb-true i inst.0 here in
    let source = source_of net.links flows i a (slice_get net.leaves i) x e has in
    let to_here : link.to ≡ AtLeaf (record { 0 = i }) port =
    leads ∙ ap (λ k. AtLeaf (record { 0 = k }) port) (sym same) in
    let lawful_here : IsLawful source.that.behaviour = lawful i source.that source.there in
    let leads_there : LeadsToPort net (AtLeaf (record { 0 = i }) port) =
    subst (λ k. LeadsToPort net k) to_here (wired.joined l link at_link).to_port in
    let low : port < source.that.behaviour.ins = input_there port _ source.that source.there leads_there in
    let waits : source.that.behaviour.need a port ≤ length (inbox i port net.links flows) =
    needs_waiting net.links flows i a source.that.behaviour source.state e lawful_here source.has port low in
    let only : IsOnly net.links l link = λ m that at same_end. one_writer net wired m l that link at at_link same_end in
    let held : inbox i port net.links flows ≡ waiting flow =
    inbox_of_link i port net.links flows l link flow at_link at_flow to_here only in
    let held_length : length (inbox i port net.links flows) ≡ length (waiting flow) = ap (λ vs. length vs) held in
    let few : length (waiting flow) ≤ flow.arrived - flow.taken = waiting_length flow in
    let needed : need_of (slice_get net.leaves i) a port ≡ source.that.behaviour.need a port =
    need_there _ source.that a port source.there in
    rw (chosen (i == inst.0) (need_of (slice_get net.leaves i) a port) 0 here) (omega arith))
    (λ elsewhere. rw elsewhere (omega arith))

-- what was taken and has arrived keep their order if each flow's change keeps it
each_ordered : (change : Link → Flow → Flow) (links : List Link) (flows : List Flow)
    → ((l : ℕ) (link : Link) (flow : Flow) → slice_get links l ≡ Some link → slice_get flows l ≡ Some flow → IsOrdered (change link flow))
    → (l : ℕ) (flow : Flow) → slice_get (each_flow change links flows) l ≡ Some flow → IsOrdered flow
each_ordered change [] flows keeps l flow at = cc
each_ordered change (link ∷ links) [] keeps l flow at = cc
each_ordered change (link ∷ links) (first ∷ flows) keeps zero flow at =
    let same : change link first ≡ flow = cc in subst (λ f. IsOrdered f) same (keeps 0 link first refl refl)
each_ordered change (link ∷ links) (first ∷ flows) keeps (suc l) flow at =
    each_ordered change links flows (λ m. keeps (suc m)) l flow at

set_ordered : (flows : List Flow) (k : ℕ) (new : Flow) → IsOrdered new
    → ((l : ℕ) (flow : Flow) → slice_get flows l ≡ Some flow → IsOrdered flow)
    → (l : ℕ) (flow : Flow) → slice_get (slice_set flows k new) l ≡ Some flow → IsOrdered flow
set_ordered [] k new ordered all l flow at = all l flow at
set_ordered (first ∷ flows) zero new ordered all zero flow at = let same : new ≡ flow = cc in subst (λ f. IsOrdered f) same ordered
set_ordered (first ∷ flows) zero new ordered all (suc l) flow at = all (suc l) flow at
set_ordered (first ∷ flows) (suc k) new ordered all zero flow at = all 0 flow at
set_ordered (first ∷ flows) (suc k) new ordered all (suc l) flow at = set_ordered flows k new ordered (λ m. all (suc m)) l flow at

from_some : {X : Type 0} (t u : State X) → Some u ≡ Some t → AreOrdered u → AreOrdered t
from_some t u h p = let same : u ≡ t = cc in subst (λ w. AreOrdered w) same p

fire_ordered : {X : Type 0} (net : Network X) (s t : State X) (i a : ℕ) (e : Option (Effect X))
    → IsWired net → AreLawful net → AreOrdered s → effect_at net s i a ≡ e → fire net s i a e ≡ Some t → AreOrdered t
fire_ordered net s t i a (Some (Fires x sent)) wired lawful ordered has h =
    from_some t _ h
    (each_ordered (after_firing i (need_of (slice_get net.leaves i) a) sent) net.links s.flows
    (λ l link flow at_link at_flow.
    let was : IsOrdered flow = ordered l flow at_flow in
    let fits : taken_from i (need_of (slice_get net.leaves i) a) link.to ≤ flow.arrived - flow.taken =
    taken_fits net s.flows i a (slice_get s.actors i) (Fires x sent) wired lawful has l link flow at_link at_flow link.to refl in
    let low : flow.taken ≤ flow.arrived = was.0 in
    let high : flow.arrived ≤ length flow.sent = was.1 in
    (omega arith, rw length-append (omega arith))))
fire_ordered net s t i a (Some (TrapsInGuard c)) wired lawful ordered has h = cc
fire_ordered net s t i a (Some (TrapsInBody c)) wired lawful ordered has h = cc
fire_ordered net s t i a None wired lawful ordered has h = cc

arrival_ordered : (k : ℕ) (link : Link) (flow : Flow) (out : Bool) → is_output link ≡ out → IsOrdered flow
    → flow.arrived + k ≤ length flow.sent → IsOrdered (after_arrival k link flow)
arrival_ordered k link flow true is ordered fits =
    let low : flow.taken ≤ flow.arrived = ordered.0 in
    (rw (chosen (is_output link) (flow.taken + k) flow.taken is) (omega arith), fits)
arrival_ordered k link flow false is ordered fits =
    let low : flow.taken ≤ flow.arrived = ordered.0 in
    (rw is (omega arith), fits)

tested_ordered : {X : Type 0} (s t : State X) (l k : ℕ) (link : Link) (flow : Flow) (fits : Bool) → AreOrdered s
    → slice_get s.flows l ≡ Some flow → nat_le (flow.arrived + k) (length flow.sent) ≡ fits
    → (if fits then Some (record s { flows = slice_set s.flows l (after_arrival k link flow) }) else None) ≡ Some t
    → AreOrdered t
tested_ordered s t l k link flow true ordered at test h =
    let room : flow.arrived + k ≤ length flow.sent = leb-true _ _ test in
    from_some t _ h (set_ordered s.flows l (after_arrival k link flow) (arrival_ordered k link flow _ refl (ordered l flow at) room) ordered)
tested_ordered s t l k link flow false ordered at test h = cc

deliver_ordered : {X : Type 0} (s t : State X) (l k : ℕ) (link : Option Link) (flow : Option Flow) → AreOrdered s
    → slice_get s.flows l ≡ flow → deliver s l k link flow ≡ Some t → AreOrdered t
deliver_ordered s t l k (Some link) (Some flow) ordered at h = tested_ordered s t l k link flow _ ordered at refl h
deliver_ordered s t l k (Some link) None ordered at h = cc
deliver_ordered s t l k None flow ordered at h = cc

mark_ordered : {X : Type 0} (s t : State X) (same : Bool) → AreOrdered s
    → (if same then Some (record s { trapped = true }) else None) ≡ Some t → AreOrdered t
mark_ordered s t true ordered h = from_some t _ h ordered
mark_ordered s t false ordered h = cc

trap_ordered : {X : Type 0} (s t : State X) (c : TrapName) (e : Option (Effect X)) → AreOrdered s → trap s c e ≡ Some t → AreOrdered t
trap_ordered s t c (Some (Fires x sent)) ordered h = cc
trap_ordered s t c (Some (TrapsInGuard d)) ordered h = mark_ordered s t _ ordered h
trap_ordered s t c (Some (TrapsInBody d)) ordered h = mark_ordered s t _ ordered h
trap_ordered s t c None ordered h = cc

permitted_ordered : {X : Type 0} (net : Network X) (s t : State X) (event : Event) → IsWired net → AreLawful net → AreOrdered s
    → permitted net s event ≡ Some t → AreOrdered t
permitted_ordered net s t (Fire i a) wired lawful ordered h = fire_ordered net s t i a _ wired lawful ordered refl h
permitted_ordered net s t (Deliver l k) wired lawful ordered h = deliver_ordered s t l k _ _ ordered refl h
permitted_ordered net s t (Trap i a c) wired lawful ordered h = trap_ordered s t c _ ordered h

unless_ordered : {X : Type 0} (t : State X) (trapped : Bool) (o : Option (State X))
    → (o ≡ Some t → AreOrdered t) → (if trapped then None else o) ≡ Some t → AreOrdered t
unless_ordered t true o p h = cc
unless_ordered t false o p h = p h

pub happens_ordered : {X : Type 0} (net : Network X) (s t : State X) (event : Event) → IsWired net → AreLawful net → AreOrdered s
    → happens net s event ≡ Some t → AreOrdered t
happens_ordered net s t event wired lawful ordered h =
    unless_ordered t s.trapped _ (permitted_ordered net s t event wired lawful ordered) h

step_ordered : {X : Type 0} (t : State X) (o : Option (State X)) (f : State X → Option (State X))
    → ((u : State X) → o ≡ Some u → AreOrdered u) → ((u : State X) → AreOrdered u → f u ≡ Some t → AreOrdered t)
    → and_then o f ≡ Some t → AreOrdered t
step_ordered t None f p q h = cc
step_ordered t (Some u) f p q h = q u (p u refl) h

pub run_ordered : {X : Type 0} (net : Network X) (events : List Event) (s t : State X) → IsWired net → AreLawful net → AreOrdered s
    → run net s events ≡ Some t → AreOrdered t
run_ordered net [] s t wired lawful ordered h = from_some t s h ordered
run_ordered net (event ∷ events) s t wired lawful ordered h =
    step_ordered t (happens net s event) _ (λ u. happens_ordered net s u event wired lawful ordered)
    (λ u before. run_ordered net events u t wired lawful before) h

pub first_ordered : (kinds : List NetPort) (inputs : List (List ℕ)) (links : List Link) (l : ℕ) (flow : Flow)
    → slice_get (map (first_flow kinds inputs) links) l ≡ Some flow → IsOrdered flow
first_ordered kinds inputs [] l flow at = cc
first_ordered kinds inputs (link ∷ links) zero flow at =
    let same : first_flow kinds inputs link ≡ flow = cc in
    subst (λ f. IsOrdered f) same (omega arith, omega arith)
first_ordered kinds inputs (link ∷ links) (suc l) flow at = first_ordered kinds inputs links l flow at
