-- Paced lines keep the capacities of links.
use Rattle.std.proofs.Common.{◌≡◌, ℕ, zero, suc, ◌+◌, ◌-◌, ◌<◌, ◌≤◌, min, Bool, true, false, List, [], ◌∷◌, ◌++◌, ℤ, length, map, refl, sym, ap, ◌∙◌, subst, ⊎_elim, arith}
use Rattle.std.specs.Prelude.{Option, None, Some, slice_get, slice_index_or, if◌then◌else◌, ◌==◌}
use Rattle.std.proofs.lemmas.Bool.{eqb-true, eq-eqb}
use Rattle.std.proofs.lemmas.List.{length-append, length-map}
use Rattle.rvc_base.specs.Behaviour.{Fires}
use Rattle.rvc_base.specs.Lawful.{tokens_on}
use Rattle.net_model.specs.declared.wiring.End.{End}
use Rattle.net_model.specs.declared.wiring.End.TheVariants.{Leaf as AtLeaf, Net as AtNet}
use Rattle.net_model.specs.declared.wiring.Link.{Link}
use Rattle.net_model.specs.Network.{Leaf, Network, is_input, is_output, is_outside}
use Rattle.net_model.specs.State.{Flow, State, untaken, inboxes, effect_of, need_of, give_of}
use Rattle.net_model.specs.Event.{Fire, each_flow, sent_on, taken_from, after_firing, happens}
use Rattle.net_model.specs.Trace.{arrivals, delivered, after_delivery, held_since, FitFlows}
use Rattle.net_model.specs.Wired.{IsWired, HasOutput, ComesFromPort}
use Rattle.net_model.specs.Laws.{AreLawful, HasFlows}
use Rattle.net_model.specs.Paced.{PassesRoom, PassesLink, HasRoomIn}
use Rattle.net_model.proofs.Commuting.{Fired, fired_unless}

pub some_is : {A : Type 0} (x y : A) → Some x ≡ Some y → x ≡ y
some_is x y h = cc

-- what has become of a link's flow since the round was opened
pub record SinceOpened (link : Link) (opened flow : Flow) : Type 0 where
  pub arrived_then : is_input link ≡ false → opened.arrived ≡ length opened.sent
  pub sent : length opened.sent ≤ length flow.sent
  pub arrived : flow.arrived ≡ opened.arrived
  pub taken : opened.taken ≤ flow.taken
  pub out : is_output link ≡ true → flow.taken ≡ opened.taken
  pub fits : is_input link ≡ false → held_since opened flow ≤ flow.capacity

-- the same on each link
abbrev pub Since : {X : Type 0} → Network X → State X → State X → Type 0
Since net opened s = (l : ℕ) (link : Link) (before flow : Flow) → slice_get net.links l ≡ Some link
    → slice_get opened.flows l ≡ Some before → slice_get s.flows l ≡ Some flow → SinceOpened link before flow

pub fit_each : (links : List Link) (opened flows : List Flow)
    → ((l : ℕ) (link : Link) (before flow : Flow) → slice_get links l ≡ Some link → slice_get opened l ≡ Some before
    → slice_get flows l ≡ Some flow → is_input link ≡ false → held_since before flow ≤ flow.capacity)
    → FitFlows links opened flows
fit_each [] opened flows each = tt
fit_each (link ∷ links) [] flows each = tt
fit_each (link ∷ links) (before ∷ opened) [] each = tt
fit_each (link ∷ links) (before ∷ opened) (flow ∷ flows) each =
    (each 0 link before flow refl refl refl, fit_each links opened flows (λ l. each (suc l)))

pub fits_now : {X : Type 0} (net : Network X) (opened s : State X) → Since net opened s → FitFlows net.links opened.flows s.flows
fits_now net opened s since =
    fit_each net.links opened.flows s.flows (λ l link before flow at then_ now. (since l link before flow at then_ now).fits)

-- a flow that comes of one by a change
pub record Changed (change : Link → Flow → Flow) (flows : List Flow) (l : ℕ) (link : Link) (new : Flow) : Type 0 where
  pub old : Flow
  pub there : slice_get flows l ≡ Some old
  pub is : change link old ≡ new

pub changed : (change : Link → Flow → Flow) (links : List Link) (flows : List Flow) (l : ℕ) (link : Link) (new : Flow)
    → slice_get links l ≡ Some link → slice_get (each_flow change links flows) l ≡ Some new → Changed change flows l link new
changed change [] flows l link new at h = cc
changed change (head ∷ links) [] l link new at h = cc
changed change (head ∷ links) (flow ∷ flows) zero link new at h =
    let same : head ≡ link = some_is head link at in
    record { old = flow; there = refl; is = ap (λ k. change k flow) (sym same) ∙ some_is (change head flow) new h }
changed change (head ∷ links) (flow ∷ flows) (suc l) link new at h =
    let rest = changed change links flows l link new at h in record { old = rest.old; there = rest.there; is = rest.is }

-- Firings.

output_there : {X : Type 0} (p : ℕ) (o : Option (Leaf X)) (leaf : Leaf X) → o ≡ Some leaf → HasOutput p o → p < leaf.behaviour.outs
output_there p None leaf e h = cc
output_there p (Some that) leaf e h = let same : that ≡ leaf = cc in subst (λ k. p < k.behaviour.outs) same h

-- what a firing sends on a port is what its action gives there
record Source {X : Type 0} (net : Network X) (s : State X) (i a : ℕ) (next : X) (sent : List (List ℤ)) : Type 0 where
  leaf : Leaf X
  at : slice_get net.leaves i ≡ Some leaf
  gives : (p : ℕ) → p < leaf.behaviour.outs → length (tokens_on sent p) ≡ leaf.behaviour.give a p

source_of : {X : Type 0} (net : Network X) (s : State X) (i a : ℕ) (next : X) (sent : List (List ℤ)) (o : Option (Leaf X)) (x : Option X)
    → AreLawful net → slice_get net.leaves i ≡ o → effect_of net.links s.flows i a o x ≡ Some (Fires next sent) → Source net s i a next sent
source_of net s i a next sent None x lawful at h = cc
source_of net s i a next sent (Some leaf) None lawful at h = cc
source_of net s i a next sent (Some leaf) (Some state) lawful at h = record {
  leaf = leaf;
  at = at;
  gives = (lawful i leaf at).gives state next (inboxes i leaf.behaviour.ins net.links s.flows) sent a h;
}

give_there : {X : Type 0} (o : Option (Leaf X)) (leaf : Leaf X) (a p : ℕ) → o ≡ Some leaf → give_of o a p ≡ leaf.behaviour.give a p
give_there None leaf a p e = cc
give_there (Some that) leaf a p e = let same : that ≡ leaf = cc in ap (λ k. k.behaviour.give a p) same

if_true : {A : Type 0} (b : Bool) (x y : A) → b ≡ true → (if b then x else y) ≡ x
if_true true x y e = refl
if_true false x y e = cc

if_false : {A : Type 0} (b : Bool) (x y : A) → b ≡ false → (if b then x else y) ≡ y
if_false true x y e = cc
if_false false x y e = refl

by_bool : {P : Type 0} (b : Bool) → (b ≡ true → P) → (b ≡ false → P) → P
by_bool true p q = p refl
by_bool false p q = q refl

-- how many tokens a firing sends on a link, which then passes no room
sent_fits : {X : Type 0} (net : Network X) (s : State X) (i a : ℕ) (next : X) (sent : List (List ℤ)) (link : Link) (before flow : Flow) (end : End)
    → Source net s i a next sent → ComesFromPort net end → held_since before flow ≤ flow.capacity
    → (PassesRoom (give_of (slice_get net.leaves i) a) i before flow end → ⊥)
    → held_since before flow + length (sent_on i sent link end) ≤ flow.capacity
sent_fits net s i a next sent link before flow (AtNet port) source from fits room = omega arith
sent_fits net s i a next sent link before flow (AtLeaf inst port) source from fits room = by_bool (i == inst.0)
    (λ here.
    let same : i ≡ inst.0 = eqb-true i inst.0 here in
    let there : slice_get net.leaves inst.0 ≡ Some source.leaf = ap (slice_get net.leaves) (sym same) ∙ source.at in
    let low : port < source.leaf.behaviour.outs = output_there port (slice_get net.leaves inst.0) source.leaf there from in
    let count : length (sent_on i sent link (AtLeaf inst port)) ≡ source.leaf.behaviour.give a port =
    ap length (if_true (i == inst.0) (map (Rattle.rvc_base.specs.Storing.conv link.kind) (slice_index_or sent port [])) [] here)
    ∙ (length-map (slice_index_or sent port []) (Rattle.rvc_base.specs.Storing.conv link.kind) ∙ source.gives port low) in
    let given : give_of (slice_get net.leaves i) a port ≡ source.leaf.behaviour.give a port = give_there (slice_get net.leaves i) source.leaf a port source.at in
    not_passed (held_since before flow) flow.capacity _ _ given count (λ passes. room (same, passes)))
    (λ elsewhere.
    let none : length (sent_on i sent link (AtLeaf inst port)) ≡ 0 =
    ap length (if_false (i == inst.0) (map (Rattle.rvc_base.specs.Storing.conv link.kind) (slice_index_or sent port [])) [] elsewhere) in
    omega arith)
  where
    not_passed : (held capacity n sent_count : ℕ) → give_of (slice_get net.leaves i) a port ≡ n → sent_count ≡ n
        → (capacity < held + give_of (slice_get net.leaves i) a port → ⊥) → held + sent_count ≤ capacity
    not_passed held capacity n sent_count given count none =
        ⊎_elim (λ over. absurd (none (omega arith))) (λ within. omega arith) (Rattle.std.proofs.lemmas.Bool.cases_lt capacity (held + sent_count))

none_taken_out : (i : ℕ) (needs : ℕ → ℕ) (end : End) → is_outside end ≡ true → taken_from i needs end ≡ 0
none_taken_out i needs (AtLeaf inst port) e = cc
none_taken_out i needs (AtNet port) e = refl

pub fire_since : {X : Type 0} (net : Network X) (opened s t : State X) (i a : ℕ) → IsWired net → AreLawful net → Since net opened s
    → HasRoomIn net opened s i a → happens net s (Fire i a) ≡ Some t → Since net opened t
fire_since net opened s t i a wired lawful since room h l link before flow at then_ now =
    let one : Fired net s t i a = fired_unless net s t i a s.trapped refl h in
    let change : Link → Flow → Flow = after_firing i (need_of (slice_get net.leaves i) a) one.sent in
    let was : Changed change s.flows l link flow =
    changed change net.links s.flows l link flow at (ap (λ w. slice_get w.flows l) one.is ∙ now) in
    let old : SinceOpened link before was.old = since l link before was.old at then_ was.there in
    let source = source_of net s i a one.to one.sent (slice_get net.leaves i) (slice_get s.actors i) lawful refl one.effect in
    let from = (wired.joined l link at).from_port in
    let more : length (was.old.sent ++ sent_on i one.sent link link.from) ≡ length was.old.sent + length (sent_on i one.sent link link.from) =
    length-append was.old.sent (sent_on i one.sent link link.from) in
    subst (λ f. SinceOpened link before f) was.is (record {
      arrived_then = old.arrived_then;
      sent = omega (arith, old.sent);
      arrived = old.arrived;
      taken = omega (arith, old.taken);
      out = λ e. let none = none_taken_out i (need_of (slice_get net.leaves i) a) link.to e in omega (arith, old.out e);
      fits = λ e.
          let most = sent_fits net s i a one.to one.sent link before was.old link.from source from (old.fits e)
          (λ passes. room l (passes_at l link before was.old at then_ was.there passes)) in
          omega (arith, old.sent, more);
    })
  where
    passes_at : (l : ℕ) (link : Link) (before flow : Flow) → slice_get net.links l ≡ Some link → slice_get opened.flows l ≡ Some before
        → slice_get s.flows l ≡ Some flow → PassesRoom (give_of (slice_get net.leaves i) a) i before flow link.from → PassesLink net opened s i a l
    passes_at l link before flow at then_ now passes = rw (at, then_, now) passes

-- Deliveries.

arrives_all : (b : Bool) (room left : ℕ) → b ≡ false → (if b then min room left else left) ≡ left
arrives_all true room left e = cc
arrives_all false room left e = refl

opened_flow : (link : Link) (before flow : Flow) → SinceOpened link before flow → SinceOpened link (delivered link flow) (delivered link flow)
opened_flow link before flow since = record {
  arrived_then = arrived_all;
  sent = omega arith;
  arrived = refl;
  taken = omega arith;
  out = λ e. refl;
  fits = λ e. by_bool (is_output link) (out_fits e) (inner_fits e);
}
  where
    arrived_all : is_input link ≡ false → flow.arrived + arrivals link flow ≡ length flow.sent
    arrived_all e =
        let all : arrivals link flow ≡ length flow.sent - flow.arrived = arrives_all (is_input link) (flow.capacity - untaken flow) (length flow.sent - flow.arrived) e in
        omega (arith, since.arrived_then e, since.sent, since.arrived)

    out_fits : is_input link ≡ false → is_output link ≡ true → held_since (delivered link flow) (delivered link flow) ≤ flow.capacity
    out_fits e out =
        let taken : (if is_output link then flow.taken + arrivals link flow else flow.taken) ≡ flow.taken + arrivals link flow = if_true (is_output link) _ _ out in
        omega (arith, since.fits e, since.sent, since.arrived, since.out out)

    inner_fits : is_input link ≡ false → is_output link ≡ false → held_since (delivered link flow) (delivered link flow) ≤ flow.capacity
    inner_fits e inner =
        let taken : (if is_output link then flow.taken + arrivals link flow else flow.taken) ≡ flow.taken = if_false (is_output link) _ _ inner in
        omega (arith, arrived_all e, since.fits e, since.sent, since.arrived, since.arrived_then e, since.taken)

-- a delivery opens a round
pub deliver_since : {X : Type 0} (net : Network X) (opened s : State X) → HasFlows net s → HasFlows net opened → Since net opened s
    → Since net (after_delivery net s) (after_delivery net s)
deliver_since net opened s has had since l link before flow at then_ now =
    let was = changed delivered net.links s.flows l link flow at now in
    let before_is : before ≡ flow = some_is before flow (sym then_ ∙ now) in
    let low : l < length opened.flows = omega (arith, had, get_low net.links l link at) in
    let first = get_some opened.flows l low in
    subst (λ b. SinceOpened link b flow) (sym before_is)
    (subst (λ f. SinceOpened link f f) was.is (opened_flow link first.0 was.old (since l link first.0 was.old at first.1 was.there)))
  where
    get_low : (links : List Link) (m : ℕ) (that : Link) → slice_get links m ≡ Some that → m < length links
    get_low [] m that h = cc
    get_low (head ∷ links) zero that h = omega arith
    get_low (head ∷ links) (suc m) that h = let less = get_low links m that h in omega arith

    get_some : (flows : List Flow) (m : ℕ) → m < length flows → (f : Flow) × (slice_get flows m ≡ Some f)
    get_some [] m less = absurd (omega arith)
    get_some (head ∷ flows) zero less = (head, refl)
    get_some (head ∷ flows) (suc m) less = get_some flows m (omega arith)
