-- Runs step by step: a delivery of several tokens is as many deliveries of one.
use Rattle.std.proofs.Common.{◌≡◌, ℕ, zero, suc, ◌+◌, ◌≤◌, Bool, true, false, List, [], ◌∷◌, ◌++◌, length, refl, sym, ap, ◌∙◌, subst, arith}
use Rattle.std.specs.Prelude.{Option, None, Some, slice_get, slice_set, if◌then◌else◌, ◌==◌}
use Rattle.net_model.specs.declared.wiring.Link.{Link}
use Rattle.net_model.specs.Network.{Network, is_output}
use Rattle.net_model.specs.State.{Flow, State}
use Rattle.net_model.specs.Event.{Event, Fire, Deliver, Trap, after_arrival, happens, and_then, run}
use Rattle.net_model.proofs.Arriving.{arrived, Arrived, arrived_unless, arrives_so, get_same, set_twice}
use Rattle.net_model.proofs.Lines.{run_then, after_none}
use Rattle.net_model.specs.Laws.{firings_in}
use Rattle.determinacy_cert.specs.Determinacy.{firings_of}

-- ---- runs

-- the first step of a run, and the others
pub record Stepped {X : Type 0} (net : Network X) (s : State X) (event : Event) (events : List Event) (t : State X) : Type 0 where
  pub next : State X
  pub first : happens net s event ≡ Some next
  pub others : run net next events ≡ Some t

stepped_by : {X : Type 0} (net : Network X) (s : State X) (event : Event) (events : List Event) (t : State X) (o : Option (State X))
    → happens net s event ≡ o → and_then o (λ next. run net next events) ≡ Some t → Stepped net s event events t
stepped_by net s event events t None is h = cc
stepped_by net s event events t (Some u) is h = record { next = u; first = is; others = h }

pub stepped : {X : Type 0} (net : Network X) (s : State X) (event : Event) (events : List Event) (t : State X)
    → run net s (event ∷ events) ≡ Some t → Stepped net s event events t
stepped net s event events t h = stepped_by net s event events t _ refl h

pub step_then : {X : Type 0} (net : Network X) (s u t : State X) (event : Event) (events : List Event)
    → happens net s event ≡ Some u → run net u events ≡ Some t → run net s (event ∷ events) ≡ Some t
step_then net s u t event events p q = subst (λ o. and_then o (λ next. run net next events) ≡ Some t) (sym p) q

-- ---- single steps

-- an event that is no trap, and delivers one token at most
abbrev pub IsSingle : Event → Type 0
IsSingle (Fire i a) = Unit {0}
IsSingle (Deliver l k) = k ≡ 1
IsSingle (Trap i a c) = ⊥

abbrev pub AreSingle : List Event → Type 0
AreSingle [] = Unit {0}
AreSingle (event ∷ events) = IsSingle event × AreSingle events

-- k tokens of a link, one at a time
abbrev pub ones : ℕ → ℕ → List Event
ones l zero = []
ones l (suc k) = Deliver l 1 ∷ ones l k

abbrev pub singles : List Event → List Event
singles [] = []
singles (Fire i a ∷ events) = Fire i a ∷ singles events
singles (Deliver l k ∷ events) = ones l k ++ singles events
singles (Trap i a c ∷ events) = Trap i a c ∷ singles events

set_same : {A : Type 0} (xs : List A) (l : ℕ) (x : A) → slice_get xs l ≡ Some x → slice_set xs l x ≡ xs
set_same [] l x h = cc
set_same (y ∷ xs) zero x h = let same : y ≡ x = cc in ap (λ w. w ∷ xs) (sym same)
set_same (y ∷ xs) (suc l) x h = ap (λ w. y ∷ w) (set_same xs l x h)

-- if nothing arrives, nothing changes
nothing_arrives : {X : Type 0} (net : Network X) (s t : State X) (l : ℕ) → happens net s (Deliver l 0) ≡ Some t → s ≡ t
nothing_arrives net s t l h =
    let one : Arrived net s t l 0 = arrived_unless net s t l 0 s.trapped refl h in
    let flow : after_arrival 0 one.link one.flow ≡ one.flow = after_none one.link one.flow in
    let flows : slice_set s.flows l (after_arrival 0 one.link one.flow) ≡ s.flows =
    ap (slice_set s.flows l) flow ∙ set_same s.flows l one.flow one.at_flow in
    ap (λ fs. record s { flows = fs }) (sym flows) ∙ one.is

taken_more : (out : Bool) (taken k : ℕ) → (if out then (if out then taken + 1 else taken) + k else (if out then taken + 1 else taken)) ≡ (if out then taken + suc k else taken)
taken_more true taken k = omega arith
taken_more false taken k = refl

one_more : (k : ℕ) (link : Link) (flow : Flow) → after_arrival k link (after_arrival 1 link flow) ≡ after_arrival (suc k) link flow
one_more k link flow =
    let same : (flow.arrived + 1) + k ≡ flow.arrived + suc k = omega arith in
    rw (same, taken_more (is_output link) flow.taken k)

-- one token, and then the others
one_first : {X : Type 0} (net : Network X) (s t : State X) (l k : ℕ) → happens net s (Deliver l (suc k)) ≡ Some t
    → (u : State X) × (happens net s (Deliver l 1) ≡ Some u) × (happens net u (Deliver l k) ≡ Some t)
one_first net s t l k h =
    let all : Arrived net s t l (suc k) = arrived_unless net s t l (suc k) s.trapped refl h in
    let first : Flow = after_arrival 1 all.link all.flow in
    let fits : all.flow.arrived + suc k ≤ length all.flow.sent = all.fits in (
      arrived s l 1 all.link all.flow,
      arrives_so net s l 1 all.link all.flow all.untrapped all.at_link all.at_flow (omega arith),
      arrives_so net (arrived s l 1 all.link all.flow) l k all.link first all.untrapped all.at_link
          (get_same s.flows l all.flow first all.at_flow) (omega arith)
          ∙ ap (λ fs. Some (record s { flows = fs }))
          (set_twice s.flows l first (after_arrival k all.link first) ∙ ap (slice_set s.flows l) (one_more k all.link all.flow))
          ∙ ap (λ w. Some w) all.is,
    )

run_ones : {X : Type 0} (net : Network X) (s t : State X) (l k : ℕ) → happens net s (Deliver l k) ≡ Some t → run net s (ones l k) ≡ Some t
run_ones net s t l zero h = ap (λ w. Some w) (nothing_arrives net s t l h)
run_ones net s t l (suc k) h =
    let parts = one_first net s t l k h in
    step_then net s parts.0 t (Deliver l 1) (ones l k) parts.1 (run_ones net parts.0 t l k parts.2)

-- a run leads to the same state token by token
pub run_singles : {X : Type 0} (net : Network X) (s t : State X) (events : List Event) → run net s events ≡ Some t → run net s (singles events) ≡ Some t
run_singles net s t [] h = h
run_singles net s t (Fire i a ∷ events) h =
    let step = stepped net s (Fire i a) events t h in
    step_then net s step.next t (Fire i a) (singles events) step.first (run_singles net step.next t events step.others)
run_singles net s t (Deliver l k ∷ events) h =
    let step = stepped net s (Deliver l k) events t h in
    run_then net s step.next t (ones l k) (singles events) (run_ones net s step.next l k step.first) (run_singles net step.next t events step.others)
run_singles net s t (Trap i a c ∷ events) h =
    let step = stepped net s (Trap i a c) events t h in
    step_then net s step.next t (Trap i a c) (singles events) step.first (run_singles net step.next t events step.others)

-- with the same firings
firings_ones : (i l k : ℕ) (events : List Event) → firings_of i (ones l k ++ events) ≡ firings_of i events
firings_ones i l zero events = refl
firings_ones i l (suc k) events = firings_ones i l k events

if_same : {A : Type 0} (b : Bool) (x x' y y' : A) → x ≡ x' → y ≡ y' → (if b then x else y) ≡ (if b then x' else y')
if_same true x x' y y' p q = p
if_same false x x' y y' p q = q

pub firings_singles : (i : ℕ) (events : List Event) → firings_of i (singles events) ≡ firings_of i events
firings_singles i [] = refl
firings_singles i (Fire j a ∷ events) =
    if_same (i == j) _ _ _ _ (ap (λ w. a ∷ w) (firings_singles i events)) (firings_singles i events)
firings_singles i (Deliver l k ∷ events) = firings_ones i l k (singles events) ∙ firings_singles i events
firings_singles i (Trap j a c ∷ events) = firings_singles i events

counted_ones : (l k : ℕ) (events : List Event) → length (firings_in (ones l k ++ events)) ≡ length (firings_in events)
counted_ones l zero events = refl
counted_ones l (suc k) events = counted_ones l k events

pub counted_singles : (events : List Event) → length (firings_in (singles events)) ≡ length (firings_in events)
counted_singles [] = refl
counted_singles (Fire j a ∷ events) = ap suc (counted_singles events)
counted_singles (Deliver l k ∷ events) = counted_ones l k (singles events) ∙ counted_singles events
counted_singles (Trap j a c ∷ events) = counted_singles events
