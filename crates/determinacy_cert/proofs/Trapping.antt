-- A trap ends a run, and what traps does so whatever else happens.
use Rattle.std.proofs.Common.{◌≡◌, ◌≢◌, ℕ, zero, suc, Bool, true, false, List, [], ◌∷◌, ◌++◌, refl, sym, ap, ◌∙◌, subst}
use Rattle.std.specs.Prelude.{Option, None, Some, slice_get, if◌then◌else◌, ◌==◌}
use Rattle.std.proofs.lemmas.Bool.{eqb-true}
use Rattle.rvc_base.specs.declared.trap.Trap.{Trap as TrapName}
use Rattle.rvc_base.specs.Behaviour.{Effect, Fires, TrapsInGuard, TrapsInBody}
use Rattle.net_model.specs.Network.{Network}
use Rattle.net_model.specs.State.{State, effect_of, effect_at, need_of}
use Rattle.net_model.specs.Event.{Event, Fire, Deliver, Trap, trap, number_of_trap, happens, run}
use Rattle.net_model.specs.Stable.{AreStable}
use Rattle.net_model.specs.Laws.{AreOrdered}
use Rattle.net_model.proofs.Commuting.{by_test, get_other, effect_stays, Fired, fired, fired_unless}
use Rattle.net_model.proofs.Arriving.{Arrived, arrived_unless, effect_keeps}
use Rattle.net_model.proofs.Bounds.{happens_ordered}
use Rattle.determinacy_cert.specs.Determinacy.{IsDeterminate}
use Rattle.determinacy_cert.proofs.Splitting.{Stepped, stepped, step_then, AreSingle, ones, singles}
use Rattle.determinacy_cert.proofs.Confluence.{one_action}

abbrev pub IsTrap : {X : Type 0} → Effect X → Type 0
IsTrap (Fires x sent) = ⊥
IsTrap (TrapsInGuard c) = Unit {0}
IsTrap (TrapsInBody c) = Unit {0}

-- a trap that happens, with its effect
pub record Trapped {X : Type 0} (net : Network X) (s t : State X) (i a : ℕ) : Type 0 where
  pub effect : Effect X
  pub is_trap : IsTrap effect
  pub there : effect_at net s i a ≡ Some effect
  pub mark : t.trapped ≡ true
  pub flows : t.flows ≡ s.flows

flows_same : {X : Type 0} (s t : State X) (test : Bool) → (if test then Some (record s { trapped = true }) else None) ≡ Some t → t.flows ≡ s.flows
flows_same s t true h = let same : record s { trapped = true } ≡ t = cc in ap (λ w. w.flows) (sym same)
flows_same s t false h = cc

marked : {X : Type 0} (s t : State X) (test : Bool) → (if test then Some (record s { trapped = true }) else None) ≡ Some t → t.trapped ≡ true
marked s t true h = let same : record s { trapped = true } ≡ t = cc in ap (λ w. w.trapped) (sym same)
marked s t false h = cc

trapped_by : {X : Type 0} (net : Network X) (s t : State X) (i a : ℕ) (c : TrapName) (e : Option (Effect X))
    → effect_at net s i a ≡ e → trap s c e ≡ Some t → Trapped net s t i a
trapped_by net s t i a c (Some (Fires x sent)) is h = cc
trapped_by net s t i a c (Some (TrapsInGuard d)) is h =
    record { effect = TrapsInGuard d; is_trap = tt; there = is; mark = marked s t (number_of_trap c == number_of_trap d) h; flows = flows_same s t (number_of_trap c == number_of_trap d) h }
trapped_by net s t i a c (Some (TrapsInBody d)) is h =
    record { effect = TrapsInBody d; is_trap = tt; there = is; mark = marked s t (number_of_trap c == number_of_trap d) h; flows = flows_same s t (number_of_trap c == number_of_trap d) h }
trapped_by net s t i a c None is h = cc

trapped_unless : {X : Type 0} (net : Network X) (s t : State X) (i a : ℕ) (c : TrapName) (mark : Bool)
    → (if mark then None else trap s c (effect_at net s i a)) ≡ Some t → Trapped net s t i a
trapped_unless net s t i a c true h = cc
trapped_unless net s t i a c false h = trapped_by net s t i a c _ refl h

pub trapped : {X : Type 0} (net : Network X) (s t : State X) (i a : ℕ) (c : TrapName) → happens net s (Trap i a c) ≡ Some t → Trapped net s t i a
trapped net s t i a c h = trapped_unless net s t i a c s.trapped h

-- behind a trap nothing happens
no_more : {X : Type 0} (s t : State X) (o : Option (State X)) → s.trapped ≡ true → (if s.trapped then None else o) ≡ Some t → ⊥
no_more s t o mark h =
    let none : None ≡ Some t = subst (λ b. (if b then None else o) ≡ Some t) mark h in cc

ends_there : {X : Type 0} (net : Network X) (s t : State X) (events : List Event) → s.trapped ≡ true → run net s events ≡ Some t → events ≡ []
ends_there net s t [] mark h = refl
ends_there net s t (event ∷ events) mark h =
    let step : Stepped net s event events t = stepped net s event events t h in
    absurd (no_more s step.next _ mark step.first)

-- a firing or a delivery sets no mark
unmarked_fire : {X : Type 0} (net : Network X) (s t : State X) (i a : ℕ) → happens net s (Fire i a) ≡ Some t → t.trapped ≡ s.trapped
unmarked_fire net s t i a h =
    let one : Fired net s t i a = fired_unless net s t i a s.trapped refl h in ap (λ w. w.trapped) (sym one.is)

unmarked_delivery : {X : Type 0} (net : Network X) (s t : State X) (l k : ℕ) → happens net s (Deliver l k) ≡ Some t → t.trapped ≡ s.trapped
unmarked_delivery net s t l k h =
    let one : Arrived net s t l k = arrived_unless net s t l k s.trapped refl h in ap (λ w. w.trapped) (sym one.is)

single_ones : (l k : ℕ) (events : List Event) → AreSingle events → AreSingle (ones l k ++ events)
single_ones l zero events h = h
single_ones l (suc k) events h = (refl, single_ones l k events h)

-- a run whose end isn't trapped has no trap
pub are_single : {X : Type 0} (net : Network X) (s t : State X) (events : List Event) → t.trapped ≡ false → run net s events ≡ Some t → AreSingle (singles events)
are_single net s t [] mark h = tt
are_single net s t (Fire i a ∷ events) mark h =
    let step : Stepped net s (Fire i a) events t = stepped net s (Fire i a) events t h in
    (tt, are_single net step.next t events mark step.others)
are_single net s t (Deliver l k ∷ events) mark h =
    let step : Stepped net s (Deliver l k) events t = stepped net s (Deliver l k) events t h in
    single_ones l k (singles events) (are_single net step.next t events mark step.others)
are_single net s t (Trap i a c ∷ events) mark h =
    let step : Stepped net s (Trap i a c) events t = stepped net s (Trap i a c) events t h in
    let none : events ≡ [] = ends_there net step.next t events (trapped net s step.next i a c step.first).mark step.others in
    let at_end : run net step.next [] ≡ Some t = subst (λ es. run net step.next es ≡ Some t) none step.others in
    let same : step.next ≡ t = (let e : Some step.next ≡ Some t = at_end in cc) in
    let both : true ≡ false = sym (trapped net s step.next i a c step.first).mark ∙ ap (λ w. w.trapped) same ∙ mark in
    absurd (cc)

-- a run that ends in a trap, up to it
pub record UpToTrap {X : Type 0} (net : Network X) (s : State X) : Type 0 where
  pub before : List Event
  pub last : State X
  pub leads : run net s before ≡ Some last
  pub untrapped : last.trapped ≡ false
  pub leaf : ℕ
  pub action : ℕ
  pub effect : Effect X
  pub is_trap : IsTrap effect
  pub there : effect_at net last leaf action ≡ Some effect

one_more : {X : Type 0} (net : Network X) (s u : State X) (event : Event) → happens net s event ≡ Some u → UpToTrap net u → UpToTrap net s
one_more net s u event h up = record {
  before = event ∷ up.before;
  last = up.last;
  leads = step_then net s u up.last event up.before h up.leads;
  untrapped = up.untrapped;
  leaf = up.leaf;
  action = up.action;
  effect = up.effect;
  is_trap = up.is_trap;
  there = up.there;
}

pub up_to_trap : {X : Type 0} (net : Network X) (s t : State X) (events : List Event) → s.trapped ≡ false → t.trapped ≡ true
    → run net s events ≡ Some t → UpToTrap net s
up_to_trap net s t [] clear mark h =
    let same : s ≡ t = (let e : Some s ≡ Some t = h in cc) in
    let both : false ≡ true = sym clear ∙ ap (λ w. w.trapped) same ∙ mark in absurd (cc)
up_to_trap net s t (Fire i a ∷ events) clear mark h =
    let step : Stepped net s (Fire i a) events t = stepped net s (Fire i a) events t h in
    one_more net s step.next (Fire i a) step.first
    (up_to_trap net step.next t events (unmarked_fire net s step.next i a step.first ∙ clear) mark step.others)
up_to_trap net s t (Deliver l k ∷ events) clear mark h =
    let step : Stepped net s (Deliver l k) events t = stepped net s (Deliver l k) events t h in
    one_more net s step.next (Deliver l k) step.first
    (up_to_trap net step.next t events (unmarked_delivery net s step.next l k step.first ∙ clear) mark step.others)
up_to_trap net s t (Trap i a c ∷ events) clear mark h =
    let step : Stepped net s (Trap i a c) events t = stepped net s (Trap i a c) events t h in
    let here : Trapped net s step.next i a = trapped net s step.next i a c step.first in
    record {
      before = [];
      last = s;
      leads = refl;
      untrapped = clear;
      leaf = i;
      action = a;
      effect = here.effect;
      is_trap = here.is_trap;
      there = here.there;
    }

-- ---- what traps does so whatever else happens

not_fires : {X : Type 0} (e : Effect X) (x : X) (sent : List (List Rattle.std.specs.Prelude.ℤ)) → IsTrap e → e ≡ Fires x sent → ⊥
not_fires e x sent h same = subst (λ f. IsTrap f) same h

some_same : {A : Type 0} (x y : A) → Some x ≡ Some y → x ≡ y
some_same x y h = cc

stays_by_fire : {X : Type 0} (net : Network X) (s t : State X) (i a j b : ℕ) (e : Effect X) → AreStable net → AreOrdered s → IsTrap e
    → effect_at net s i a ≡ Some e → happens net s (Fire j b) ≡ Some t → effect_at net t i a ≡ Some e
stays_by_fire net s t i a j b e stable ordered is_trap there h =
    let one : Fired net s t j b = fired_unless net s t j b s.trapped refl h in
    by_test (i == j)
    (λ same.
    let leaf : i ≡ j = eqb-true i j same in
    let fires : effect_at net s i b ≡ Some (Fires one.to one.sent) = ap (λ k. effect_at net s k b) leaf ∙ one.effect in
    let action : b ≡ a = one_action net s i a b e (Fires one.to one.sent) stable there fires in
    let both : e ≡ Fires one.to one.sent = some_same _ _ (sym there ∙ ap (λ c. effect_at net s i c) (sym action) ∙ fires) in
    absurd (not_fires e one.to one.sent is_trap both))
    (λ apart.
    let differ : i ≢ j = (λ same. let yes : (i == j) ≡ true = Rattle.std.proofs.lemmas.Bool.eq-eqb i j same in let no : true ≡ false = sym yes ∙ apart in cc) in
    subst (λ w. effect_at net w i a ≡ Some e) one.is
    ((ap (effect_of net.links (fired net s j b one.to one.sent).flows i a (slice_get net.leaves i)) (get_other s.actors i j one.to differ)
    ∙ effect_stays i j a (need_of (slice_get net.leaves j) b) one.sent differ net.links s.flows (λ l flow at. (ordered l flow at).1)
    (slice_get net.leaves i) (slice_get s.actors i))
    ∙ there))

stays_by_delivery : {X : Type 0} (net : Network X) (s t : State X) (i a l k : ℕ) (e : Effect X) → AreStable net
    → effect_at net s i a ≡ Some e → happens net s (Deliver l k) ≡ Some t → effect_at net t i a ≡ Some e
stays_by_delivery net s t i a l k e stable there h =
    let one : Arrived net s t l k = arrived_unless net s t l k s.trapped refl h in
    subst (λ w. effect_at net w i a ≡ Some e) one.is
    (effect_keeps i a k net.links s.flows l one.link one.flow (slice_get net.leaves i) (slice_get s.actors i) e one.at_link one.at_flow (stable i) there)

pub trap_stays : {X : Type 0} (net : Network X) (s t : State X) (events : List Event) (i a : ℕ) (e : Effect X) → IsDeterminate net → AreOrdered s
    → AreSingle events → IsTrap e → effect_at net s i a ≡ Some e → run net s events ≡ Some t → effect_at net t i a ≡ Some e
trap_stays net s t [] i a e det ordered single is_trap there h =
    let same : s ≡ t = (let o : Some s ≡ Some t = h in cc) in subst (λ w. effect_at net w i a ≡ Some e) same there
trap_stays net s t (Fire j b ∷ events) i a e det ordered single is_trap there h =
    let step : Stepped net s (Fire j b) events t = stepped net s (Fire j b) events t h in
    trap_stays net step.next t events i a e det (happens_ordered net s step.next (Fire j b) det.wired det.lawful ordered step.first) single.1 is_trap
    (stays_by_fire net s step.next i a j b e det.stable ordered is_trap there step.first) step.others
trap_stays net s t (Deliver l k ∷ events) i a e det ordered single is_trap there h =
    let step : Stepped net s (Deliver l k) events t = stepped net s (Deliver l k) events t h in
    trap_stays net step.next t events i a e det (happens_ordered net s step.next (Deliver l k) det.wired det.lawful ordered step.first) single.1 is_trap
    (stays_by_delivery net s step.next i a l k e det.stable there step.first) step.others
trap_stays net s t (Trap j b c ∷ events) i a e det ordered single is_trap there h = absurd single.0
