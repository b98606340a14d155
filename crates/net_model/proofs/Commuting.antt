-- Firings of different leaves lead to one state in either order.
use Rattle.std.proofs.Common.{◌≡◌, ◌≢◌, ℕ, zero, suc, ◌+◌, ◌≤◌, Bool, true, false, List, [], ◌∷◌, ◌++◌, ℤ, length, map, refl, sym, ap, ◌∙◌, subst, arith, append-nil}
use Rattle.std.specs.Prelude.{Option, None, Some, slice_get, slice_set, if◌then◌else◌, ◌==◌, ◌&&◌}
use Rattle.std.specs.List.{range_with_len}
use Rattle.std.proofs.lemmas.Bool.{eqb-true}
use Rattle.std.proofs.lemmas.List.{take-append-le}
use Rattle.rvc_base.specs.Behaviour.{Effect, Fires, TrapsInGuard, TrapsInBody}
use Rattle.net_model.specs.declared.wiring.End.{End}
use Rattle.net_model.specs.declared.wiring.End.TheVariants.{Leaf as AtLeaf, Net as AtNet}
use Rattle.net_model.specs.declared.wiring.Link.{Link}
use Rattle.net_model.specs.Network.{Leaf, Network, is_leaf_port}
use Rattle.net_model.specs.State.{Flow, State, waiting, inbox, inboxes, effect_of, effect_at, need_of}
use Rattle.net_model.specs.Event.{Event, Fire, each_flow, sent_on, taken_from, after_firing, fire, happens}
use Rattle.net_model.specs.Laws.{AreOrdered, Meets}

pub chosen_else : {A : Type 0} (b : Bool) (x y : A) → (b ≡ true → ⊥) → (if b then x else y) ≡ y
chosen_else true x y h = absurd (h refl)
chosen_else false x y h = refl

-- a test of two numbers that differ
pub apart : {A : Type 0} (i j : ℕ) (x y : A) → i ≢ j → (if i == j then x else y) ≡ y
apart i j x y differ = chosen_else (i == j) x y (λ same. differ (eqb-true i j same))

pub map_same : {A B : Type 0} (f g : A → B) → ((x : A) → f x ≡ g x) → (xs : List A) → map f xs ≡ map g xs
map_same f g same [] = refl
map_same f g same (x ∷ xs) = rw (same x, map_same f g same xs)

same_branches : {A : Type 0} (b : Bool) (x x' y y' : A) → (b ≡ true → x ≡ x') → y ≡ y' → (if b then x else y) ≡ (if b then x' else y')
same_branches true x x' y y' p q = p refl
same_branches false x x' y y' p q = q

pub by_test : {P : Type 0} (b : Bool) → (b ≡ true → P) → (b ≡ false → P) → P
by_test true p q = p refl
by_test false p q = q refl

first_true : (a b : Bool) → (a && b) ≡ true → a ≡ true
first_true true b h = refl
first_true false b h = cc

-- a leaf takes nothing from a link to another
pub none_taken : (i j p : ℕ) (needs : ℕ → ℕ) (end : End) → i ≢ j → is_leaf_port i p end ≡ true → taken_from j needs end ≡ 0
none_taken i j p needs (AtLeaf inst port) differ here =
    apart j inst.0 (needs port) 0 (λ same. differ (eqb-true i inst.0 (first_true (i == inst.0) (p == port) here) ∙ sym same))
none_taken i j p needs (AtNet port) differ here = refl

-- so what waits there stays
waiting_stays : (flow : Flow) (sent : List ℤ) (taken : ℕ) → taken ≡ 0 → flow.arrived ≤ length flow.sent
    → waiting (record { sent = flow.sent ++ sent; arrived = flow.arrived; taken = flow.taken + taken; capacity = flow.capacity }) ≡ waiting flow
waiting_stays flow sent taken none fits =
    let same : flow.taken + taken ≡ flow.taken = omega arith in
    rw (same, take-append-le flow.arrived flow.sent sent fits)

inbox_stays : (i j p : ℕ) (needs : ℕ → ℕ) (sent : List (List ℤ)) → i ≢ j → (links : List Link) (flows : List Flow)
    → ((l : ℕ) (flow : Flow) → slice_get flows l ≡ Some flow → flow.arrived ≤ length flow.sent)
    → inbox i p links (each_flow (after_firing j needs sent) links flows) ≡ inbox i p links flows
inbox_stays i j p needs sent differ [] flows fits = refl
inbox_stays i j p needs sent differ (link ∷ links) [] fits = refl
inbox_stays i j p needs sent differ (link ∷ links) (flow ∷ flows) fits =
    same_branches (is_leaf_port i p link.to) _ _ _ _
    (λ here. waiting_stays flow (sent_on j sent link link.from) (taken_from j needs link.to)
    (none_taken i j p needs link.to differ here) (fits 0 flow refl))
    (inbox_stays i j p needs sent differ links flows (λ l. fits (suc l)))

inboxes_stay : (i j ins : ℕ) (needs : ℕ → ℕ) (sent : List (List ℤ)) → i ≢ j → (links : List Link) (flows : List Flow)
    → ((l : ℕ) (flow : Flow) → slice_get flows l ≡ Some flow → flow.arrived ≤ length flow.sent)
    → inboxes i ins links (each_flow (after_firing j needs sent) links flows) ≡ inboxes i ins links flows
inboxes_stay i j ins needs sent differ links flows fits =
    map_same _ _ (λ p. inbox_stays i j p needs sent differ links flows fits) (range_with_len 0 ins)

pub effect_stays : {X : Type 0} (i j a : ℕ) (needs : ℕ → ℕ) (sent : List (List ℤ)) → i ≢ j → (links : List Link) (flows : List Flow)
    → ((l : ℕ) (flow : Flow) → slice_get flows l ≡ Some flow → flow.arrived ≤ length flow.sent)
    → (leaf : Option (Leaf X)) (x : Option X)
    → effect_of links (each_flow (after_firing j needs sent) links flows) i a leaf x ≡ effect_of links flows i a leaf x
effect_stays i j a needs sent differ links flows fits None x = refl
effect_stays i j a needs sent differ links flows fits (Some leaf) None = refl
effect_stays i j a needs sent differ links flows fits (Some leaf) (Some x) =
    ap (λ u. leaf.behaviour.effect x u a) (inboxes_stay i j leaf.behaviour.ins needs sent differ links flows fits)

pub get_other : {A : Type 0} (xs : List A) (i j : ℕ) (x : A) → i ≢ j → slice_get (slice_set xs j x) i ≡ slice_get xs i
get_other [] i j x differ = refl
get_other (y ∷ xs) zero zero x differ = absurd (differ refl)
get_other (y ∷ xs) zero (suc j) x differ = refl
get_other (y ∷ xs) (suc i) zero x differ = refl
get_other (y ∷ xs) (suc i) (suc j) x differ = get_other xs i j x (λ same. differ (ap suc same))

pub set_both : {A : Type 0} (xs : List A) (i j : ℕ) (x y : A) → i ≢ j → slice_set (slice_set xs i x) j y ≡ slice_set (slice_set xs j y) i x
set_both [] i j x y differ = refl
set_both (z ∷ xs) zero zero x y differ = absurd (differ refl)
set_both (z ∷ xs) zero (suc j) x y differ = refl
set_both (z ∷ xs) (suc i) zero x y differ = refl
set_both (z ∷ xs) (suc i) (suc j) x y differ = ap (λ w. z ∷ w) (set_both xs i j x y (λ same. differ (ap suc same)))

each_both : (f g : Link → Flow → Flow) → ((link : Link) (flow : Flow) → f link (g link flow) ≡ g link (f link flow))
    → (links : List Link) (flows : List Flow) → each_flow f links (each_flow g links flows) ≡ each_flow g links (each_flow f links flows)
each_both f g same [] flows = refl
each_both f g same (link ∷ links) [] = refl
each_both f g same (link ∷ links) (flow ∷ flows) = rw (same link flow, each_both f g same links flows)

-- one of two leaves sends nothing on a link
sent_both : (i j : ℕ) (si sj : List (List ℤ)) (link : Link) (end : End) (before : List ℤ) → i ≢ j
    → (before ++ sent_on i si link end) ++ sent_on j sj link end ≡ (before ++ sent_on j sj link end) ++ sent_on i si link end
sent_both i j si sj link (AtNet port) before differ = refl
sent_both i j si sj link (AtLeaf inst port) before differ =
    by_test (i == inst.0)
    (λ here.
    let none : sent_on j sj link (AtLeaf inst port) ≡ [] =
    apart j inst.0 _ [] (λ same. differ (eqb-true i inst.0 here ∙ sym same)) in
    rw (none, append-nil (before ++ sent_on i si link (AtLeaf inst port)), append-nil before))
    (λ elsewhere.
    let none : sent_on i si link (AtLeaf inst port) ≡ [] = rw elsewhere in
    rw (none, append-nil before, append-nil (before ++ sent_on j sj link (AtLeaf inst port))))

firing_both : (i j : ℕ) (ni nj : ℕ → ℕ) (si sj : List (List ℤ)) → i ≢ j → (link : Link) (flow : Flow)
    → after_firing i ni si link (after_firing j nj sj link flow) ≡ after_firing j nj sj link (after_firing i ni si link flow)
firing_both i j ni nj si sj differ link flow =
    let taken : (flow.taken + taken_from j nj link.to) + taken_from i ni link.to ≡ (flow.taken + taken_from i ni link.to) + taken_from j nj link.to = omega arith in
    rw (sent_both j i sj si link link.from flow.sent (λ same. differ (sym same)), taken)

same_some : {A : Type 0} (x y : A) → Some x ≡ Some y → x ≡ y
same_some x y h = cc

-- the state after a firing
abbrev pub fired : {X : Type 0} → Network X → State X → ℕ → ℕ → X → List (List ℤ) → State X
fired net s i a x sent = record {
  actors = slice_set s.actors i x;
  flows = each_flow (after_firing i (need_of (slice_get net.leaves i) a) sent) net.links s.flows;
  trapped = s.trapped;
}

-- a firing that happens, with its effect
pub record Fired {X : Type 0} (net : Network X) (s t : State X) (i a : ℕ) : Type 0 where
  pub to : X
  pub sent : List (List ℤ)
  pub untrapped : s.trapped ≡ false
  pub effect : effect_at net s i a ≡ Some (Fires to sent)
  pub is : fired net s i a to sent ≡ t

fired_by : {X : Type 0} (net : Network X) (s t : State X) (i a : ℕ) (e : Option (Effect X)) → s.trapped ≡ false
    → effect_at net s i a ≡ e → fire net s i a e ≡ Some t → Fired net s t i a
fired_by net s t i a (Some (Fires x sent)) untrapped effect h =
    record { to = x; sent = sent; untrapped = untrapped; effect = effect; is = same_some (fired net s i a x sent) t h }
fired_by net s t i a (Some (TrapsInGuard c)) untrapped effect h = cc
fired_by net s t i a (Some (TrapsInBody c)) untrapped effect h = cc
fired_by net s t i a None untrapped effect h = cc

pub fired_unless : {X : Type 0} (net : Network X) (s t : State X) (i a : ℕ) (trapped : Bool) → s.trapped ≡ trapped
    → (if trapped then None else fire net s i a (effect_at net s i a)) ≡ Some t → Fired net s t i a
fired_unless net s t i a true is h = cc
fired_unless net s t i a false is h = fired_by net s t i a _ is refl h

pub fires_so : {X : Type 0} (net : Network X) (s : State X) (i a : ℕ) (x : X) (sent : List (List ℤ)) (e : Option (Effect X))
    → s.trapped ≡ false → e ≡ Some (Fires x sent)
    → (if s.trapped then None else fire net s i a e) ≡ Some (fired net s i a x sent)
fires_so net s i a x sent e untrapped effect =
    subst (λ w. (if s.trapped then None else fire net s i a w) ≡ Some (fired net s i a x sent)) (sym effect)
    (chosen_else s.trapped None (Some (fired net s i a x sent)) (λ trapped. let no : false ≡ true = sym untrapped ∙ trapped in cc))

-- a firing stays possible, with the same effect, if another leaf fires
still_fires : {X : Type 0} (net : Network X) (s : State X) (i a j b : ℕ) (x y : X) (xs ys : List (List ℤ))
    → AreOrdered s → i ≢ j → s.trapped ≡ false → effect_at net s i a ≡ Some (Fires x xs)
    → happens net (fired net s j b y ys) (Fire i a) ≡ Some (fired net (fired net s j b y ys) i a x xs)
still_fires net s i a j b x y xs ys ordered differ untrapped effect =
    fires_so net (fired net s j b y ys) i a x xs (effect_at net (fired net s j b y ys) i a) untrapped
    ((ap (effect_of net.links (fired net s j b y ys).flows i a (slice_get net.leaves i)) (get_other s.actors i j y differ)
    ∙ effect_stays i j a (need_of (slice_get net.leaves j) b) ys differ net.links s.flows (λ l flow at. (ordered l flow at).1)
    (slice_get net.leaves i) (slice_get s.actors i))
    ∙ effect)

-- both orders lead to one state
fired_both : {X : Type 0} (net : Network X) (s : State X) (i a j b : ℕ) (x y : X) (xs ys : List (List ℤ)) → i ≢ j
    → fired net (fired net s j b y ys) i a x xs ≡ fired net (fired net s i a x xs) j b y ys
fired_both net s i a j b x y xs ys differ =
    rw (
      set_both s.actors i j x y differ,
      each_both (after_firing i (need_of (slice_get net.leaves i) a) xs) (after_firing j (need_of (slice_get net.leaves j) b) ys)
          (firing_both i j _ _ xs ys differ) net.links s.flows,
    )

pub from_other : {X : Type 0} (net : Network X) (s t u : State X) (event : Event) → s ≡ t → happens net s event ≡ Some u → happens net t event ≡ Some u
from_other net s t u event same h = subst (λ w. happens net w event ≡ Some u) same h

pub firings_commute : {X : Type 0} (net : Network X) (s t u : State X) (i a j b : ℕ) → AreOrdered s → i ≢ j
    → happens net s (Fire i a) ≡ Some t → happens net s (Fire j b) ≡ Some u → Meets net t (Fire j b) u (Fire i a)
firings_commute net s t u i a j b ordered differ p q =
    let one : Fired net s t i a = fired_unless net s t i a s.trapped refl p in
    let two : Fired net s u j b = fired_unless net s u j b s.trapped refl q in
    record {
      last = fired net (fired net s i a one.to one.sent) j b two.to two.sent;
      one_way = from_other net _ t _ (Fire j b) one.is
          (still_fires net s j b i a two.to one.to two.sent one.sent ordered (λ same. differ (sym same)) one.untrapped two.effect);
      other_way = from_other net _ u _ (Fire i a) two.is
          (still_fires net s i a j b one.to two.to one.sent two.sent ordered differ one.untrapped one.effect
          ∙ ap (λ w. Some w) (fired_both net s i a j b one.to two.to one.sent two.sent differ));
    }
