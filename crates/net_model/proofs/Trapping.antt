-- A trap stays possible whatever else happens, and each leaf has one firing or trap.
use Rattle.std.proofs.Common.{◌≡◌, ◌≢◌, ℕ, Bool, true, false, List, [], refl, sym, ap, ◌∙◌, subst, arith, append-nil}
use Rattle.std.specs.Prelude.{Option, None, Some, slice_get, if◌then◌else◌, ◌==◌}
use Rattle.std.proofs.lemmas.Bool.{eqb-true, cases_lt}
use Rattle.rvc_base.specs.declared.trap.Trap.{Trap as TrapName}
use Rattle.rvc_base.specs.declared.trap.Trap.TheVariants.{Overflow, DivideByZero, IndexRange, ShiftRange, TurnLimit}
use Rattle.rvc_base.specs.Behaviour.{Effect, Fires, TrapsInGuard, TrapsInBody}
use Rattle.net_model.specs.declared.wiring.Link.{Link}
use Rattle.net_model.specs.Network.{Leaf, Network}
use Rattle.net_model.specs.State.{Flow, State, inboxes, effect_of, effect_at, need_of}
use Rattle.net_model.specs.Event.{Fire, Deliver, Trap, trap, happens, number_of_trap}
use Rattle.net_model.specs.Stable.{BeginWith, IsStable, AreStable}
use Rattle.net_model.specs.Laws.{AreOrdered, MayHappen}
use Rattle.net_model.proofs.Commuting.{Fired, fired_unless, get_other, effect_stays}
use Rattle.net_model.proofs.Arriving.{Arrived, arrived_unless, effect_keeps}

-- the effect by which an action traps
record TrapsBy {X : Type 0} (net : Network X) (s : State X) (i a : ℕ) (c : TrapName) : Type 0 where
  effect : Effect X
  untrapped : s.trapped ≡ false
  is : effect_at net s i a ≡ Some effect
  sets : (u : State X) → (t : State X) × (trap u c (Some effect) ≡ Some t)

test_sets : {X : Type 0} (s : State X) (test : Bool) (t : State X) → (if test then Some (record s { trapped = true }) else None) ≡ Some t
    → (u : State X) → (v : State X) × ((if test then Some (record u { trapped = true }) else None) ≡ Some v)
test_sets s true t h u = (record u { trapped = true }, refl)
test_sets s false t h u = cc

traps_by : {X : Type 0} (net : Network X) (s t : State X) (i a : ℕ) (c : TrapName) (e : Option (Effect X)) → s.trapped ≡ false
    → effect_at net s i a ≡ e → trap s c e ≡ Some t → TrapsBy net s i a c
traps_by net s t i a c (Some (Fires next sent)) untrapped is h = cc
traps_by net s t i a c (Some (TrapsInGuard d)) untrapped is h =
    record { effect = TrapsInGuard d; untrapped = untrapped; is = is; sets = test_sets s (number_of_trap c == number_of_trap d) t h }
traps_by net s t i a c (Some (TrapsInBody d)) untrapped is h =
    record { effect = TrapsInBody d; untrapped = untrapped; is = is; sets = test_sets s (number_of_trap c == number_of_trap d) t h }
traps_by net s t i a c None untrapped is h = cc

traps_unless : {X : Type 0} (net : Network X) (s t : State X) (i a : ℕ) (c : TrapName) (trapped : Bool) → s.trapped ≡ trapped
    → (if trapped then None else trap s c (effect_at net s i a)) ≡ Some t → TrapsBy net s i a c
traps_unless net s t i a c true is h = cc
traps_unless net s t i a c false is h = traps_by net s t i a c _ is refl h

traps_there : {X : Type 0} (net : Network X) (s u : State X) (i a : ℕ) (c : TrapName) (by : TrapsBy net s i a c) → u.trapped ≡ false
    → effect_at net u i a ≡ Some by.effect → MayHappen net u (Trap i a c)
traps_there net s u i a c by untrapped is =
    let set = by.sets u in (
      set.0,
      subst (λ b. (if b then None else trap u c (effect_at net u i a)) ≡ Some set.0) (sym untrapped)
          (subst (λ e. trap u c e ≡ Some set.0) (sym is) set.1),
    )

pub traps_outlast_deliveries : {X : Type 0} (net : Network X) (s u : State X) (i a l k : ℕ) (c : TrapName) → AreStable net
    → MayHappen net s (Trap i a c) → happens net s (Deliver l k) ≡ Some u → MayHappen net u (Trap i a c)
traps_outlast_deliveries net s u i a l k c stable may h =
    let by = traps_unless net s may.0 i a c s.trapped refl may.1 in
    let one : Arrived net s u l k = arrived_unless net s u l k s.trapped refl h in
    traps_there net s u i a c by (ap (λ w. w.trapped) (sym one.is) ∙ one.untrapped)
    (ap (λ w. effect_at net w i a) (sym one.is)
    ∙ effect_keeps i a k net.links s.flows l one.link one.flow (slice_get net.leaves i) (slice_get s.actors i) by.effect
    one.at_link one.at_flow (stable i) by.is)

pub traps_outlast_firings : {X : Type 0} (net : Network X) (s u : State X) (i a j b : ℕ) (c : TrapName) → AreOrdered s → i ≢ j
    → MayHappen net s (Trap i a c) → happens net s (Fire j b) ≡ Some u → MayHappen net u (Trap i a c)
traps_outlast_firings net s u i a j b c ordered differ may h =
    let by = traps_unless net s may.0 i a c s.trapped refl may.1 in
    let one : Fired net s u j b = fired_unless net s u j b s.trapped refl h in
    traps_there net s u i a c by (ap (λ w. w.trapped) (sym one.is) ∙ one.untrapped)
    (ap (λ w. effect_at net w i a) (sym one.is)
    ∙ ((ap (effect_of net.links _ i a (slice_get net.leaves i)) (get_other s.actors i j one.to differ)
    ∙ effect_stays i j a (need_of (slice_get net.leaves j) b) one.sent differ net.links s.flows (λ l flow at. (ordered l flow at).1)
    (slice_get net.leaves i) (slice_get s.actors i))
    ∙ by.is))

begin_same : (ins : ℕ) (tokens : List (List Rattle.std.specs.Prelude.ℤ)) → BeginWith ins tokens tokens
begin_same ins tokens p low = ([], sym (append-nil _))

one_leaf : {X : Type 0} (links : List Link) (flows : List Flow) (i a b : ℕ) (leaf : Option (Leaf X)) (state : Option X) (this that : Effect X)
    → ((it : Leaf X) → leaf ≡ Some it → IsStable it.behaviour)
    → effect_of links flows i a leaf state ≡ Some this → effect_of links flows i b leaf state ≡ Some that → (a ≢ b) → ⊥
one_leaf links flows i a b None state this that stable p q differ = cc
one_leaf links flows i a b (Some leaf) None this that stable p q differ = cc
one_leaf links flows i a b (Some leaf) (Some state) this that stable p q differ =
    let none = (stable leaf refl).alone state (inboxes i leaf.behaviour.ins links flows) (inboxes i leaf.behaviour.ins links flows) a this
    (begin_same leaf.behaviour.ins _) p b (λ same. differ (sym same)) in
    cc

same_number : (a b : ℕ) → ((a ≢ b) → ⊥) → a ≡ b
same_number a b h = of_test (a == b) refl
  where
    of_test : (t : Bool) → (a == b) ≡ t → a ≡ b
    of_test true e = eqb-true a b e
    of_test false e = absurd (h (λ same. let no : (a == b) ≡ true = Rattle.std.proofs.lemmas.Bool.eq-eqb a b same in cc))

some_same : {A : Type 0} (x y : A) → Some x ≡ Some y → x ≡ y
some_same x y h = cc

pub acts_once : {X : Type 0} (net : Network X) (s : State X) (i a b : ℕ) (this that : Effect X) → AreStable net
    → effect_at net s i a ≡ Some this → effect_at net s i b ≡ Some that → (a ≡ b) × (this ≡ that)
acts_once net s i a b this that stable p q =
    let same : a ≡ b = same_number a b (one_leaf net.links s.flows i a b (slice_get net.leaves i) (slice_get s.actors i) this that (stable i) p q) in
    let other : effect_at net s i a ≡ Some that = subst (λ n. effect_at net s i n ≡ Some that) (sym same) q in
    (same, some_same this that (sym p ∙ other))

-- one cause
name_is : (c d : TrapName) → (number_of_trap c == number_of_trap d) ≡ true → c ≡ d
name_is Overflow Overflow e = refl
name_is DivideByZero DivideByZero e = refl
name_is IndexRange IndexRange e = refl
name_is ShiftRange ShiftRange e = refl
name_is TurnLimit TurnLimit e = refl
name_is c d e = absurd (let same : number_of_trap c ≡ number_of_trap d = eqb-true (number_of_trap c) (number_of_trap d) e in omega arith)

test_true : {A : Type 0} (test : Bool) (x t : A) → (if test then Some x else None) ≡ Some t → test ≡ true
test_true true x t h = refl
test_true false x t h = cc

cause_is : {X : Type 0} (s t u : State X) (c d : TrapName) (e : Option (Effect X)) → trap s c e ≡ Some t → trap s d e ≡ Some u → c ≡ d
cause_is s t u c d (Some (Fires next sent)) p q = cc
cause_is s t u c d (Some (TrapsInGuard f)) p q =
    name_is c f (test_true _ (record s { trapped = true }) t p) ∙ sym (name_is d f (test_true _ (record s { trapped = true }) u q))
cause_is s t u c d (Some (TrapsInBody f)) p q =
    name_is c f (test_true _ (record s { trapped = true }) t p) ∙ sym (name_is d f (test_true _ (record s { trapped = true }) u q))
cause_is s t u c d None p q = cc

pub traps_by_one_cause : {X : Type 0} (net : Network X) (s t u : State X) (i a : ℕ) (c d : TrapName)
    → happens net s (Trap i a c) ≡ Some t → happens net s (Trap i a d) ≡ Some u → c ≡ d
traps_by_one_cause net s t u i a c d p q = unless_two s.trapped p q
  where
    unless_two : (b : Bool) → (if b then None else trap s c (effect_at net s i a)) ≡ Some t
        → (if b then None else trap s d (effect_at net s i a)) ≡ Some u → c ≡ d
    unless_two true p q = cc
    unless_two false p q = cause_is s t u c d (effect_at net s i a) p q
