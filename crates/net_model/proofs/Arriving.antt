-- A delivery and another event lead to one state in either order.
use Rattle.std.proofs.Common.{◌≡◌, ◌≢◌, ℕ, zero, suc, ◌+◌, ◌≤◌, Bool, true, false, List, [], ◌∷◌, ◌++◌, ℤ, length, take, drop, refl, sym, ap, ◌∙◌, subst, arith, append-nil}
use Rattle.std.specs.Prelude.{Option, None, Some, slice_get, slice_set, slice_index_or, if◌then◌else◌, nat_le}
use Rattle.std.proofs.lemmas.Bool.{leb-true, le-leb}
use Rattle.std.proofs.lemmas.List.{length-append}
use Rattle.std.proofs.lemmas.List.FromFn.{get_or-map-range_with_len}
use Rattle.rvc_base.specs.Behaviour.{Effect, Fires}
use Rattle.net_model.specs.declared.wiring.End.{End}
use Rattle.net_model.specs.declared.wiring.End.TheVariants.{Leaf as AtLeaf, Net as AtNet}
use Rattle.net_model.specs.declared.wiring.Link.{Link}
use Rattle.net_model.specs.Network.{Leaf, Network, is_output, is_leaf_port}
use Rattle.net_model.specs.State.{Flow, State, waiting, inbox, inboxes, effect_of, effect_at, need_of}
use Rattle.net_model.specs.Event.{Fire, Deliver, each_flow, sent_on, taken_from, after_firing, after_arrival, deliver, happens}
use Rattle.net_model.specs.Stable.{IsPrefix, BeginWith, IsStable, AreStable}
use Rattle.net_model.specs.Laws.{Meets}
use Rattle.net_model.proofs.Commuting.{chosen_else, set_both, get_other, Fired, fired, fired_unless, fires_so, from_other}

-- the state after a delivery on a link
abbrev pub arrived : {X : Type 0} → State X → ℕ → ℕ → Link → Flow → State X
arrived s l k link flow = record s { flows = slice_set s.flows l (after_arrival k link flow) }

pub record Arrived {X : Type 0} (net : Network X) (s t : State X) (l k : ℕ) : Type 0 where
  pub link : Link
  pub flow : Flow
  pub untrapped : s.trapped ≡ false
  pub at_link : slice_get net.links l ≡ Some link
  pub at_flow : slice_get s.flows l ≡ Some flow
  pub fits : flow.arrived + k ≤ length flow.sent
  pub is : arrived s l k link flow ≡ t

some_same : {A : Type 0} (x y : A) → Some x ≡ Some y → x ≡ y
some_same x y h = cc

arrived_if : {X : Type 0} (net : Network X) (s t : State X) (l k : ℕ) (link : Link) (flow : Flow) (test : Bool) → s.trapped ≡ false
    → slice_get net.links l ≡ Some link → slice_get s.flows l ≡ Some flow → nat_le (flow.arrived + k) (length flow.sent) ≡ test
    → (if test then Some (arrived s l k link flow) else None) ≡ Some t → Arrived net s t l k
arrived_if net s t l k link flow true untrapped at_link at_flow test h = record {
  link = link;
  flow = flow;
  untrapped = untrapped;
  at_link = at_link;
  at_flow = at_flow;
  fits = leb-true _ _ test;
  is = some_same (arrived s l k link flow) t h;
}
arrived_if net s t l k link flow false untrapped at_link at_flow test h = cc

arrived_by : {X : Type 0} (net : Network X) (s t : State X) (l k : ℕ) (o : Option Link) (p : Option Flow) → s.trapped ≡ false
    → slice_get net.links l ≡ o → slice_get s.flows l ≡ p → deliver s l k o p ≡ Some t → Arrived net s t l k
arrived_by net s t l k (Some link) (Some flow) untrapped at_link at_flow h =
    arrived_if net s t l k link flow _ untrapped at_link at_flow refl h
arrived_by net s t l k (Some link) None untrapped at_link at_flow h = cc
arrived_by net s t l k None p untrapped at_link at_flow h = cc

pub arrived_unless : {X : Type 0} (net : Network X) (s t : State X) (l k : ℕ) (trapped : Bool) → s.trapped ≡ trapped
    → (if trapped then None else deliver s l k (slice_get net.links l) (slice_get s.flows l)) ≡ Some t → Arrived net s t l k
arrived_unless net s t l k true is h = cc
arrived_unless net s t l k false is h = arrived_by net s t l k _ _ is refl refl h

deliver_so : {X : Type 0} (s : State X) (l k : ℕ) (link : Link) (flow : Flow) (o : Option Link) (p : Option Flow)
    → o ≡ Some link → p ≡ Some flow → flow.arrived + k ≤ length flow.sent → deliver s l k o p ≡ Some (arrived s l k link flow)
deliver_so s l k link flow o p at_link at_flow fits =
    rw (at_link, at_flow, le-leb (flow.arrived + k) (length flow.sent) fits)

pub arrives_so : {X : Type 0} (net : Network X) (s : State X) (l k : ℕ) (link : Link) (flow : Flow) → s.trapped ≡ false
    → slice_get net.links l ≡ Some link → slice_get s.flows l ≡ Some flow → flow.arrived + k ≤ length flow.sent
    → happens net s (Deliver l k) ≡ Some (arrived s l k link flow)
arrives_so net s l k link flow untrapped at_link at_flow fits =
    chosen_else s.trapped None (deliver s l k (slice_get net.links l) (slice_get s.flows l))
    (λ trapped. let no : false ≡ true = sym untrapped ∙ trapped in cc)
    ∙ deliver_so s l k link flow (slice_get net.links l) (slice_get s.flows l) at_link at_flow fits

pub deliveries_commute : {X : Type 0} (net : Network X) (s t u : State X) (l k m n : ℕ) → l ≢ m
    → happens net s (Deliver l k) ≡ Some t → happens net s (Deliver m n) ≡ Some u → Meets net t (Deliver m n) u (Deliver l k)
deliveries_commute net s t u l k m n differ p q =
    let one : Arrived net s t l k = arrived_unless net s t l k s.trapped refl p in
    let two : Arrived net s u m n = arrived_unless net s u m n s.trapped refl q in
    let new : Flow = after_arrival k one.link one.flow in
    let other : Flow = after_arrival n two.link two.flow in
    record {
      last = arrived (arrived s l k one.link one.flow) m n two.link two.flow;
      one_way = from_other net _ t _ (Deliver m n) one.is
          (arrives_so net (arrived s l k one.link one.flow) m n two.link two.flow one.untrapped two.at_link
          (get_other s.flows m l new (λ same. differ (sym same)) ∙ two.at_flow) two.fits);
      other_way = from_other net _ u _ (Deliver l k) two.is
          (arrives_so net (arrived s m n two.link two.flow) l k one.link one.flow one.untrapped one.at_link
          (get_other s.flows l m other differ ∙ one.at_flow) one.fits
          ∙ ap (λ fs. Some (record { actors = s.actors; flows = fs; trapped = s.trapped })) (sym (set_both s.flows l m new other differ)));
    }

pub get_same : {A : Type 0} (xs : List A) (l : ℕ) (x y : A) → slice_get xs l ≡ Some x → slice_get (slice_set xs l y) l ≡ Some y
get_same [] l x y h = cc
get_same (z ∷ xs) zero x y h = refl
get_same (z ∷ xs) (suc l) x y h = get_same xs l x y h

pub set_twice : {A : Type 0} (xs : List A) (l : ℕ) (x y : A) → slice_set (slice_set xs l x) l y ≡ slice_set xs l y
set_twice [] l x y = refl
set_twice (z ∷ xs) zero x y = refl
set_twice (z ∷ xs) (suc l) x y = ap (λ w. z ∷ w) (set_twice xs l x y)

-- arrivals on one link add up
taken_both : (out : Bool) (taken k n : ℕ)
    → (if out then (if out then taken + k else taken) + n else (if out then taken + k else taken))
    ≡ (if out then (if out then taken + n else taken) + k else (if out then taken + n else taken))
taken_both true taken k n = omega arith
taken_both false taken k n = refl

arrivals_both : (k n : ℕ) (link : Link) (flow : Flow)
    → after_arrival n link (after_arrival k link flow) ≡ after_arrival k link (after_arrival n link flow)
arrivals_both k n link flow =
    let same : (flow.arrived + k) + n ≡ (flow.arrived + n) + k = omega arith in
    rw (same, taken_both (is_output link) flow.taken k n)

same_place : (links : List Link) (l : ℕ) (a b : Link) → slice_get links l ≡ Some a → slice_get links l ≡ Some b → a ≡ b
same_place links l a b p q = some_same a b (sym p ∙ q)

same_flow : (flows : List Flow) (l : ℕ) (a b : Flow) → slice_get flows l ≡ Some a → slice_get flows l ≡ Some b → a ≡ b
same_flow flows l a b p q = some_same a b (sym p ∙ q)

-- what a delivery finds, at a link and a flow that stand there
refound : {X : Type 0} (net : Network X) (s u : State X) (l n : ℕ) (link : Link) (flow : Flow) (two : Arrived net s u l n)
    → two.link ≡ link → two.flow ≡ flow → arrived s l n link flow ≡ u
refound net s u l n link flow two a b = rw (← a, ← b) two.is

pub deliveries_add : {X : Type 0} (net : Network X) (s t u : State X) (l k n : ℕ)
    → ((flow : Flow) → slice_get s.flows l ≡ Some flow → flow.arrived + (k + n) ≤ length flow.sent)
    → happens net s (Deliver l k) ≡ Some t → happens net s (Deliver l n) ≡ Some u → Meets net t (Deliver l n) u (Deliver l k)
deliveries_add net s t u l k n together p q =
    let one : Arrived net s t l k = arrived_unless net s t l k s.trapped refl p in
    let two : Arrived net s u l n = arrived_unless net s u l n s.trapped refl q in
    let fits : one.flow.arrived + (k + n) ≤ length one.flow.sent = together one.flow one.at_flow in
    let first : Flow = after_arrival k one.link one.flow in
    let second : Flow = after_arrival n one.link one.flow in
    let is_u : arrived s l n one.link one.flow ≡ u =
    refound net s u l n one.link one.flow two (same_place net.links l two.link one.link two.at_link one.at_link)
    (same_flow s.flows l two.flow one.flow two.at_flow one.at_flow) in
    record {
      last = arrived (arrived s l k one.link one.flow) l n one.link first;
      one_way = from_other net _ t _ (Deliver l n) one.is
          (arrives_so net (arrived s l k one.link one.flow) l n one.link first one.untrapped one.at_link
          (get_same s.flows l one.flow first one.at_flow) (omega arith));
      other_way = from_other net _ u _ (Deliver l k) is_u
          (arrives_so net (arrived s l n one.link one.flow) l k one.link second one.untrapped one.at_link
          (get_same s.flows l one.flow second one.at_flow) (omega arith)
          ∙ ap (λ fs. Some (record { actors = s.actors; flows = fs; trapped = s.trapped }))
          ((set_twice s.flows l second (after_arrival k one.link second)
          ∙ ap (slice_set s.flows l) (arrivals_both n k one.link one.flow))
          ∙ sym (set_twice s.flows l first (after_arrival n one.link first))));
    }

-- more tokens arrive behind those that wait
front_more : {A : Type 0} (n m : ℕ) (xs : List A) → n ≤ m → IsPrefix (take n xs) (take m xs)
front_more zero m xs low = (take m xs, refl)
front_more (suc n) zero xs low = absurd (omega arith)
front_more (suc n) (suc m) [] low = ([], refl)
front_more (suc n) (suc m) (x ∷ xs) low =
    let shorter = front_more n m xs (omega arith) in (shorter.0, ap (λ w. x ∷ w) shorter.1)

back_more : {A : Type 0} (n : ℕ) (xs rest : List A) → IsPrefix (drop n xs) (drop n (xs ++ rest))
back_more zero xs rest = (rest, refl)
back_more (suc n) [] rest = (drop (suc n) rest, refl)
back_more (suc n) (x ∷ xs) rest = back_more n xs rest

waiting_more : (k : ℕ) (link : Link) (flow : Flow) → is_output link ≡ false
    → IsPrefix (waiting flow) (waiting (after_arrival k link flow))
waiting_more k link flow inner =
    let more = front_more flow.arrived (flow.arrived + k) flow.sent (omega arith) in
    let taken : (if is_output link then flow.taken + k else flow.taken) ≡ flow.taken = rw inner in
    rw (taken, more.1) (back_more flow.taken (take flow.arrived flow.sent) more.0)

leads_inside : (i p : ℕ) (link : Link) (end : End) → link.to ≡ end → is_leaf_port i p end ≡ true → is_output link ≡ false
leads_inside i p link (AtLeaf inst port) to here = rw to
leads_inside i p link (AtNet port) to here = cc

prefix_if : {A : Type 0} (b : Bool) (x x' y y' : List A) → (b ≡ true → IsPrefix x x') → IsPrefix y y'
    → IsPrefix (if b then x else y) (if b then x' else y')
prefix_if true x x' y y' p q = p refl
prefix_if false x x' y y' p q = q

inbox_more : (i p k : ℕ) (links : List Link) (flows : List Flow) (l : ℕ) (link : Link) (flow : Flow)
    → slice_get links l ≡ Some link → slice_get flows l ≡ Some flow
    → IsPrefix (inbox i p links flows) (inbox i p links (slice_set flows l (after_arrival k link flow)))
inbox_more i p k [] flows l link flow at_link at_flow = cc
inbox_more i p k (head ∷ links) [] l link flow at_link at_flow = cc
inbox_more i p k (head ∷ links) (first ∷ flows) zero link flow at_link at_flow =
    let same : head ≡ link = some_same head link at_link in
    let same_first : first ≡ flow = some_same first flow at_flow in
    prefix_if (is_leaf_port i p head.to) (waiting first) (waiting (after_arrival k link flow)) _ _
    (λ here. subst (λ f. IsPrefix (waiting f) (waiting (after_arrival k link flow))) (sym same_first)
    (waiting_more k link flow (leads_inside i p link link.to refl (ap (λ w. is_leaf_port i p w.to) (sym same) ∙ here))))
    ([], sym (append-nil (inbox i p links flows)))
inbox_more i p k (head ∷ links) (first ∷ flows) (suc l) link flow at_link at_flow =
    prefix_if (is_leaf_port i p head.to) (waiting first) (waiting first) _ _
    (λ here. ([], sym (append-nil (waiting first)))) (inbox_more i p k links flows l link flow at_link at_flow)

inboxes_more : (i ins k : ℕ) (links : List Link) (flows : List Flow) (l : ℕ) (link : Link) (flow : Flow)
    → slice_get links l ≡ Some link → slice_get flows l ≡ Some flow
    → BeginWith ins (inboxes i ins links flows) (inboxes i ins links (slice_set flows l (after_arrival k link flow)))
inboxes_more i ins k links flows l link flow at_link at_flow p low =
    let before : slice_index_or (inboxes i ins links flows) p [] ≡ inbox i p links flows =
    get_or-map-range_with_len (λ q. inbox i q links flows) 0 ins p p [] low (omega arith) in
    let new : List Flow = slice_set flows l (after_arrival k link flow) in
    let after : slice_index_or (inboxes i ins links new) p [] ≡ inbox i p links new =
    get_or-map-range_with_len (λ q. inbox i q links new) 0 ins p p [] low (omega arith) in
    rw (before, after) (inbox_more i p k links flows l link flow at_link at_flow)

-- a stable actor does with more tokens what it does
pub effect_keeps : {X : Type 0} (i a k : ℕ) (links : List Link) (flows : List Flow) (l : ℕ) (link : Link) (flow : Flow)
    (leaf : Option (Leaf X)) (x : Option X) (e : Effect X)
    → slice_get links l ≡ Some link → slice_get flows l ≡ Some flow
    → ((that : Leaf X) → leaf ≡ Some that → IsStable that.behaviour)
    → effect_of links flows i a leaf x ≡ Some e
    → effect_of links (slice_set flows l (after_arrival k link flow)) i a leaf x ≡ Some e
effect_keeps i a k links flows l link flow None x e at_link at_flow stable h = cc
effect_keeps i a k links flows l link flow (Some leaf) None e at_link at_flow stable h = cc
effect_keeps i a k links flows l link flow (Some leaf) (Some x) e at_link at_flow stable h =
    (stable leaf refl).same x _ _ a e (inboxes_more i leaf.behaviour.ins k links flows l link flow at_link at_flow) h

pub each_get : (change : Link → Flow → Flow) (links : List Link) (flows : List Flow) (l : ℕ) (link : Link) (flow : Flow)
    → slice_get links l ≡ Some link → slice_get flows l ≡ Some flow
    → slice_get (each_flow change links flows) l ≡ Some (change link flow)
each_get change [] flows l link flow at_link at_flow = cc
each_get change (head ∷ links) [] l link flow at_link at_flow = cc
each_get change (head ∷ links) (first ∷ flows) zero link flow at_link at_flow =
    rw (some_same head link at_link, some_same first flow at_flow)
each_get change (head ∷ links) (first ∷ flows) (suc l) link flow at_link at_flow = each_get change links flows l link flow at_link at_flow

each_set : (change : Link → Flow → Flow) (links : List Link) (flows : List Flow) (l : ℕ) (link : Link) (new : Flow)
    → slice_get links l ≡ Some link
    → each_flow change links (slice_set flows l new) ≡ slice_set (each_flow change links flows) l (change link new)
each_set change [] flows l link new at_link = cc
each_set change (head ∷ links) [] l link new at_link = refl
each_set change (head ∷ links) (first ∷ flows) zero link new at_link = rw (some_same head link at_link)
each_set change (head ∷ links) (first ∷ flows) (suc l) link new at_link = ap (λ w. change head first ∷ w) (each_set change links flows l link new at_link)

taken_so : (out : Bool) (taken m k : ℕ) → (if out then (taken + m) + k else taken + m) ≡ (if out then taken + k else taken) + m
taken_so true taken m k = omega arith
taken_so false taken m k = refl

arrival_firing : (i k : ℕ) (needs : ℕ → ℕ) (sent : List (List ℤ)) (link : Link) (flow : Flow)
    → after_arrival k link (after_firing i needs sent link flow) ≡ after_firing i needs sent link (after_arrival k link flow)
arrival_firing i k needs sent link flow = rw (taken_so (is_output link) flow.taken (taken_from i needs link.to) k)

longer : (flow : Flow) (k : ℕ) (more : List ℤ) → flow.arrived + k ≤ length flow.sent → flow.arrived + k ≤ length (flow.sent ++ more)
longer flow k more fits = rw length-append (omega arith)

pub deliveries_keep_firings : {X : Type 0} (net : Network X) (s t u : State X) (i a l k : ℕ) → AreStable net
    → happens net s (Fire i a) ≡ Some t → happens net s (Deliver l k) ≡ Some u → Meets net t (Deliver l k) u (Fire i a)
deliveries_keep_firings {X = X} net s t u i a l k stable p q =
    let one : Fired net s t i a = fired_unless net s t i a s.trapped refl p in
    let two : Arrived net s u l k = arrived_unless net s u l k s.trapped refl q in
    let change : Link → Flow → Flow = after_firing i (need_of (slice_get net.leaves i) a) one.sent in
    let with_more : State X = arrived s l k two.link two.flow in
    record {
      last = fired net with_more i a one.to one.sent;
      one_way = from_other net _ t _ (Deliver l k) one.is
          (arrives_so net (fired net s i a one.to one.sent) l k two.link (change two.link two.flow) one.untrapped two.at_link
          (each_get change net.links s.flows l two.link two.flow two.at_link two.at_flow)
          (longer two.flow k (sent_on i one.sent two.link two.link.from) two.fits)
          ∙ ap (λ fs. Some (record { actors = slice_set s.actors i one.to; flows = fs; trapped = s.trapped }))
          (ap (slice_set (each_flow change net.links s.flows) l) (arrival_firing i k _ one.sent two.link two.flow)
          ∙ sym (each_set change net.links s.flows l two.link (after_arrival k two.link two.flow) two.at_link)));
      other_way = from_other net _ u _ (Fire i a) two.is
          (fires_so net with_more i a one.to one.sent (effect_at net with_more i a) one.untrapped
          (effect_keeps i a k net.links s.flows l two.link two.flow (slice_get net.leaves i) (slice_get s.actors i) (Fires one.to one.sent)
          two.at_link two.at_flow (stable i) one.effect));
    }
