-- A run of a network of stable actors can always go on to where another run ends, in the steps that are left of it.
use Rattle.std.proofs.Common.{◌≡◌, ◌≢◌, ℕ, suc, ◌⊎◌, inl, inr, Bool, true, false, List, [], ◌∷◌, ◌++◌, ℤ, length, refl, sym, ap, ◌∙◌, subst, append-nil}
use Rattle.std.specs.Prelude.{Option, None, Some, slice_get, if◌then◌else◌, ◌==◌}
use Rattle.std.proofs.lemmas.Bool.{eqb-true, eq-eqb}
use Rattle.rvc_base.specs.Behaviour.{Effect, Fires}
use Rattle.net_model.specs.declared.wiring.Link.{Link}
use Rattle.net_model.specs.Network.{Leaf, Network}
use Rattle.net_model.specs.State.{Flow, State, inboxes, effect_of, effect_at}
use Rattle.net_model.specs.Event.{Event, Fire, Deliver, Trap, happens, run}
use Rattle.net_model.specs.Stable.{IsStable, AreStable, BeginWith}
use Rattle.net_model.specs.Laws.{AreOrdered, Meets, firings_in}
use Rattle.net_model.proofs.Commuting.{by_test, Fired, fired_unless, firings_commute}
use Rattle.net_model.proofs.Arriving.{deliveries_commute, deliveries_keep_firings}
use Rattle.net_model.proofs.Bounds.{happens_ordered}
use Rattle.determinacy_cert.specs.Determinacy.{firings_of, IsDeterminate}
use Rattle.determinacy_cert.proofs.Splitting.{Stepped, stepped, step_then, IsSingle, AreSingle}

-- ---- one firing a leaf

begin_same : (ins : ℕ) (u : List (List ℤ)) → BeginWith ins u u
begin_same ins u p low = ([], sym (append-nil (Rattle.std.specs.Prelude.slice_index_or u p [])))

-- if one action of a stable actor has an effect no other one has
pub none_besides : {X : Type 0} (links : List Link) (flows : List Flow) (i a b : ℕ) (leaf : Option (Leaf X)) (x : Option X) (e : Effect X)
    → ((that : Leaf X) → leaf ≡ Some that → IsStable that.behaviour) → b ≢ a
    → effect_of links flows i a leaf x ≡ Some e → effect_of links flows i b leaf x ≡ None
none_besides links flows i a b None x e stable differ h = cc
none_besides links flows i a b (Some leaf) None e stable differ h = cc
none_besides links flows i a b (Some leaf) (Some x) e stable differ h =
    (stable leaf refl).alone x _ _ a e (begin_same leaf.behaviour.ins (inboxes i leaf.behaviour.ins links flows)) h b differ

-- two effects of a leaf are those of one action
pub one_action : {X : Type 0} (net : Network X) (s : State X) (i a b : ℕ) (e f : Effect X) → AreStable net
    → effect_at net s i a ≡ Some e → effect_at net s i b ≡ Some f → b ≡ a
one_action net s i a b e f stable p q =
    by_test (b == a) (λ same. eqb-true b a same)
    (λ apart.
    let differ : b ≢ a = (λ same. let yes : (b == a) ≡ true = eq-eqb b a same in let no : true ≡ false = sym yes ∙ apart in cc) in
    let none = none_besides net.links s.flows i a b (slice_get net.leaves i) (slice_get s.actors i) e (stable i) differ p in
    let no : Some f ≡ None = sym q ∙ none in cc)

-- ---- two steps from one state

-- they lead to one state in either order, and each leaf's firings are the same
pub record Apart {X : Type 0} (net : Network X) (t u : State X) (e f : Event) : Type 0 where
  pub meets : Meets net t f u e
  pub swap : (i : ℕ) (events : List Event) → firings_of i (e ∷ f ∷ events) ≡ firings_of i (f ∷ e ∷ events)
  pub as_many : (events : List Event) → length (firings_in (e ∷ f ∷ events)) ≡ length (firings_in (f ∷ e ∷ events))

not_both : (k i j : ℕ) → i ≢ j → (k == i) ≡ true → (k == j) ≡ false
not_both k i j differ here = by_test (k == j) (λ there. absurd (differ (sym (eqb-true k i here) ∙ eqb-true k j there))) (λ other. other)

swap_if : (b c : Bool) (x y : ℕ) (zs : List ℕ) → (b ≡ true → c ≡ false)
    → (if b then x ∷ (if c then y ∷ zs else zs) else (if c then y ∷ zs else zs)) ≡ (if c then y ∷ (if b then x ∷ zs else zs) else (if b then x ∷ zs else zs))
swap_if true true x y zs h = let no = h refl in cc
swap_if true false x y zs h = refl
swap_if false true x y zs h = refl
swap_if false false x y zs h = refl

swap_firings : (i a j b : ℕ) → i ≢ j → (k : ℕ) (events : List Event)
    → firings_of k (Fire i a ∷ Fire j b ∷ events) ≡ firings_of k (Fire j b ∷ Fire i a ∷ events)
swap_firings i a j b differ k events = swap_if (k == i) (k == j) a b (firings_of k events) (not_both k i j differ)

flipped : {X : Type 0} (net : Network X) (t u : State X) (e f : Event) → Meets net u e t f → Meets net t f u e
flipped net t u e f m = record { last = m.last; one_way = m.other_way; other_way = m.one_way }

is_not : (a b : ℕ) → (a == b) ≡ false → a ≢ b
is_not a b apart same = let yes : (a == b) ≡ true = eq-eqb a b same in let no : true ≡ false = sym yes ∙ apart in cc

two_fires : {X : Type 0} (net : Network X) (s t u : State X) (i a j b : ℕ) → AreStable net → AreOrdered s
    → happens net s (Fire i a) ≡ Some t → happens net s (Fire j b) ≡ Some u
    → (◌≡◌ {A = Event} (Fire i a) (Fire j b)) ⊎ Apart net t u (Fire i a) (Fire j b)
two_fires net s t u i a j b stable ordered p q =
    by_test (i == j)
    (λ same.
    let leaf : i ≡ j = eqb-true i j same in
    let one : Fired net s t i a = fired_unless net s t i a s.trapped refl p in
    let two : Fired net s u j b = fired_unless net s u j b s.trapped refl q in
    let there : effect_at net s i b ≡ Some (Fires two.to two.sent) = ap (λ k. effect_at net s k b) leaf ∙ two.effect in
    let action : b ≡ a = one_action net s i a b _ _ stable one.effect there in
    inl (ap (λ k. Fire k a) leaf ∙ ap (λ c. Fire j c) (sym action)))
    (λ apart.
    let differ : i ≢ j = is_not i j apart in
    inr (record { meets = firings_commute net s t u i a j b ordered differ p q; swap = swap_firings i a j b differ; as_many = λ events. refl }))

two_deliveries : {X : Type 0} (net : Network X) (s t u : State X) (l m : ℕ)
    → happens net s (Deliver l 1) ≡ Some t → happens net s (Deliver m 1) ≡ Some u
    → (◌≡◌ {A = Event} (Deliver l 1) (Deliver m 1)) ⊎ Apart net t u (Deliver l 1) (Deliver m 1)
two_deliveries net s t u l m p q =
    by_test (l == m) (λ same. inl (ap (λ k. Deliver k 1) (eqb-true l m same)))
    (λ apart. inr (record { meets = deliveries_commute net s t u l 1 m 1 (is_not l m apart) p q; swap = λ i events. refl; as_many = λ events. refl }))

-- two single steps are the same or lead to one state in either order
pub compared : {X : Type 0} (net : Network X) (s t u : State X) (e f : Event) → AreStable net → AreOrdered s → IsSingle e → IsSingle f
    → happens net s e ≡ Some t → happens net s f ≡ Some u → (e ≡ f) ⊎ Apart net t u e f
compared net s t u (Fire i a) (Fire j b) stable ordered se sf p q = two_fires net s t u i a j b stable ordered p q
compared net s t u (Fire i a) (Deliver l k) stable ordered se sf p q =
    inr (record { meets = deliveries_keep_firings net s t u i a l k stable p q; swap = λ j events. refl; as_many = λ events. refl })
compared net s t u (Deliver l k) (Fire i a) stable ordered se sf p q =
    inr (record { meets = flipped net t u _ _ (deliveries_keep_firings net s u t i a l k stable q p); swap = λ j events. refl; as_many = λ events. refl })
compared net s t u (Deliver l k) (Deliver m n) stable ordered se sf p q =
    let one : happens net s (Deliver l 1) ≡ Some t = subst (λ w. happens net s (Deliver l w) ≡ Some t) se p in
    let two : happens net s (Deliver m 1) ≡ Some u = subst (λ w. happens net s (Deliver m w) ≡ Some u) sf q in
    subst (λ w. (Deliver l w ≡ Deliver m n) ⊎ Apart net t u (Deliver l w) (Deliver m n)) (sym se)
    (subst (λ w. (Deliver l 1 ≡ Deliver m w) ⊎ Apart net t u (Deliver l 1) (Deliver m w)) (sym sf)
    (two_deliveries net s t u l m one two))
compared net s t u (Trap i a c) f stable ordered se sf p q = absurd se
compared net s t u (Fire i a) (Trap j b c) stable ordered se sf p q = absurd sf
compared net s t u (Deliver l k) (Trap j b c) stable ordered se sf p q = absurd sf

-- ---- a step and a whole run

-- no single step may come
abbrev pub IsFinal : {X : Type 0} → Network X → State X → Type 0
IsFinal {X} net q = (event : Event) (t : State X) → IsSingle event → happens net q event ≡ Some t → ⊥

-- what is left of a run behind an event that was brought forward
pub record Left {X : Type 0} (net : Network X) (t q : State X) (event : Event) (events : List Event) : Type 0 where
  pub others : List Event
  pub leads : run net t others ≡ Some q
  pub single : AreSingle others
  pub same : (i : ℕ) → firings_of i (event ∷ others) ≡ firings_of i events
  pub as_many : length (firings_in (event ∷ others)) ≡ length (firings_in events)

if_both : {A : Type 0} (b : Bool) (x x' y y' : A) → x ≡ x' → y ≡ y' → (if b then x else y) ≡ (if b then x' else y')
if_both true x x' y y' p q = p
if_both false x x' y y' p q = q

-- the firings behind one event
pub behind : (i : ℕ) (event : Event) (xs ys : List Event) → firings_of i xs ≡ firings_of i ys → firings_of i (event ∷ xs) ≡ firings_of i (event ∷ ys)
behind i (Fire j a) xs ys h = if_both (i == j) _ _ _ _ (ap (λ w. a ∷ w) h) h
behind i (Deliver l k) xs ys h = h
behind i (Trap j a c) xs ys h = h

counted_behind : (event : Event) (xs ys : List Event) → length (firings_in xs) ≡ length (firings_in ys)
    → length (firings_in (event ∷ xs)) ≡ length (firings_in (event ∷ ys))
counted_behind (Fire j a) xs ys h = ap suc h
counted_behind (Deliver l k) xs ys h = h
counted_behind (Trap j a c) xs ys h = h

same_next : {X : Type 0} (net : Network X) (s t u : State X) (e f : Event) → e ≡ f → happens net s e ≡ Some t → happens net s f ≡ Some u → t ≡ u
same_next net s t u e f same p q =
    let both : Some t ≡ Some u = sym p ∙ ap (happens net s) same ∙ q in cc

pub brought_forward : {X : Type 0} (net : Network X) (events : List Event) (s t q : State X) (event : Event) → IsDeterminate net → AreOrdered s
    → IsSingle event → AreSingle events → run net s events ≡ Some q → happens net s event ≡ Some t → IsFinal net q → Left net t q event events
brought_forward net [] s t q event det ordered single singles leads h final =
    let same : s ≡ q = (let e : Some s ≡ Some q = leads in cc) in
    absurd (final event t single (ap (λ w. happens net w event) (sym same) ∙ h))
brought_forward {X = X} net (first ∷ events) s t q event det ordered single singles leads h final =
    let step : Stepped net s first events q = stepped net s first events q leads in
    elim (compared net s t step.next event first det.stable ordered single singles.0 h step.first) [
      | inl same ↦ record {
        others = events;
        leads = subst (λ w. run net w events ≡ Some q) (sym (same_next net s t step.next event first same h step.first)) step.others;
        single = singles.1;
        same = λ i. ap (λ w. firings_of i (w ∷ events)) same;
        as_many = ap (λ w. length (firings_in (w ∷ events))) same;
      }
      | inr apart ↦
          let meets : Meets net t first step.next event = apart.meets in
          let rest : Left net meets.last q event events =
          brought_forward net events step.next meets.last q event det
          (happens_ordered net s step.next first det.wired det.lawful ordered step.first)
          single singles.1 step.others meets.other_way final in
          record {
            others = first ∷ rest.others;
            leads = step_then net t meets.last q first rest.others meets.one_way rest.leads;
            single = (singles.0, rest.single);
            same = λ i. apart.swap i rest.others ∙ behind i first (event ∷ rest.others) events (rest.same i);
            as_many = apart.as_many rest.others ∙ counted_behind first (event ∷ rest.others) events rest.as_many;
          }
    ]

-- ---- two runs

pub record Joined {X : Type 0} (net : Network X) (t q : State X) (events all : List Event) : Type 0 where
  pub others : List Event
  pub leads : run net t others ≡ Some q
  pub single : AreSingle others
  pub same : (i : ℕ) → firings_of i (events ++ others) ≡ firings_of i all
  pub as_many : length (firings_in (events ++ others)) ≡ length (firings_in all)

-- a run goes on to where another one ends
pub joined : {X : Type 0} (net : Network X) (events all : List Event) (s t q : State X) → IsDeterminate net → AreOrdered s
    → AreSingle events → AreSingle all → run net s events ≡ Some t → run net s all ≡ Some q → IsFinal net q → Joined net t q events all
joined net [] all s t q det ordered single singles leads ends final =
    let same : s ≡ t = (let e : Some s ≡ Some t = leads in cc) in
    record { others = all; leads = subst (λ w. run net w all ≡ Some q) same ends; single = singles; same = λ i. refl; as_many = refl }
joined net (event ∷ events) all s t q det ordered single singles leads ends final =
    let step : Stepped net s event events t = stepped net s event events t leads in
    let left : Left net step.next q event all = brought_forward net all s step.next q event det ordered single.0 singles ends step.first final in
    let after : Joined net t q events left.others =
    joined net events left.others step.next t q det
    (happens_ordered net s step.next event det.wired det.lawful ordered step.first)
    single.1 left.single step.others left.leads final in
    record {
      others = after.others;
      leads = after.leads;
      single = after.single;
      same = λ i. behind i event (events ++ after.others) left.others (after.same i) ∙ left.same i;
      as_many = counted_behind event (events ++ after.others) left.others after.as_many ∙ left.as_many;
    }
