-- Events know no capacity: states that differ in capacities alone have the same runs.
use Rattle.std.proofs.Common.{◌≡◌, ℕ, zero, suc, Bool, true, false, List, [], ◌∷◌, length, map, refl, sym, ap, ◌∙◌}
use Rattle.std.specs.Prelude.{Option, None, Some, slice_get, slice_set, if◌then◌else◌, nat_le, ◌+◌}
use Rattle.std.specs.List.{range_with_len}
use Rattle.rvc_base.specs.declared.trap.Trap.{Trap as TrapName}
use Rattle.rvc_base.specs.Behaviour.{Effect, Fires, TrapsInGuard, TrapsInBody}
use Rattle.net_model.specs.declared.wiring.Link.{Link}
use Rattle.net_model.specs.Network.{Leaf, Network, is_leaf_port}
use Rattle.net_model.specs.State.{Flow, State, waiting, inbox, inboxes, effect_of, effect_at, need_of}
use Rattle.net_model.specs.Event.{Event, Fire, Deliver, Trap, each_flow, after_firing, after_arrival, fire, deliver, trap, permitted, happens, and_then, run}
use Rattle.net_model.specs.Laws.{without_capacity, without_capacities}
use Rattle.net_model.proofs.Commuting.{map_same}

-- a state in an option
abbrev bare : {X : Type 0} → Option (State X) → Option (State X)
bare None = None
bare (Some s) = Some (without_capacities s)

abbrev pub bare_flow : Option Flow → Option Flow
bare_flow None = None
bare_flow (Some flow) = Some (without_capacity flow)

same_branch : {A : Type 0} (b : Bool) (x x' y : A) → x ≡ x' → (if b then x else y) ≡ (if b then x' else y)
same_branch true x x' y e = e
same_branch false x x' y e = refl

inbox_bare : (i p : ℕ) (links : List Link) (flows : List Flow) → inbox i p links (map without_capacity flows) ≡ inbox i p links flows
inbox_bare i p [] flows = refl
inbox_bare i p (link ∷ links) [] = refl
inbox_bare i p (link ∷ links) (flow ∷ flows) =
    ap (λ w. if is_leaf_port i p link.to then waiting flow else w) (inbox_bare i p links flows)

inboxes_bare : (i ins : ℕ) (links : List Link) (flows : List Flow) → inboxes i ins links (map without_capacity flows) ≡ inboxes i ins links flows
inboxes_bare i ins links flows = map_same _ _ (λ p. inbox_bare i p links flows) (range_with_len 0 ins)

effect_bare : {X : Type 0} (links : List Link) (flows : List Flow) (i a : ℕ) (leaf : Option (Leaf X)) (state : Option X)
    → effect_of links (map without_capacity flows) i a leaf state ≡ effect_of links flows i a leaf state
effect_bare links flows i a None state = refl
effect_bare links flows i a (Some leaf) None = refl
effect_bare links flows i a (Some leaf) (Some state) =
    ap (λ tokens. leaf.behaviour.effect state tokens a) (inboxes_bare i leaf.behaviour.ins links flows)

each_bare : (change : Link → Flow → Flow)
    → ((link : Link) (flow : Flow) → change link (without_capacity flow) ≡ without_capacity (change link flow))
    → (links : List Link) (flows : List Flow)
    → each_flow change links (map without_capacity flows) ≡ map without_capacity (each_flow change links flows)
each_bare change same [] flows = refl
each_bare change same (link ∷ links) [] = refl
each_bare change same (link ∷ links) (flow ∷ flows) = rw (same link flow, each_bare change same links flows)

pub get_bare : (flows : List Flow) (l : ℕ) → slice_get (map without_capacity flows) l ≡ bare_flow (slice_get flows l)
get_bare [] l = refl
get_bare (flow ∷ flows) zero = refl
get_bare (flow ∷ flows) (suc l) = get_bare flows l

set_bare : (flows : List Flow) (l : ℕ) (flow : Flow)
    → slice_set (map without_capacity flows) l (without_capacity flow) ≡ map without_capacity (slice_set flows l flow)
set_bare [] l flow = refl
set_bare (first ∷ flows) zero flow = refl
set_bare (first ∷ flows) (suc l) flow = ap (λ w. without_capacity first ∷ w) (set_bare flows l flow)

fire_bare : {X : Type 0} (net : Network X) (s : State X) (i a : ℕ) (e : Option (Effect X))
    → fire net (without_capacities s) i a e ≡ bare (fire net s i a e)
fire_bare net s i a (Some (Fires next sent)) =
    ap (λ fs. Some (record { actors = slice_set s.actors i next; flows = fs; trapped = s.trapped }))
    (each_bare (after_firing i (need_of (slice_get net.leaves i) a) sent) (λ link flow. refl) net.links s.flows)
fire_bare net s i a (Some (TrapsInGuard c)) = refl
fire_bare net s i a (Some (TrapsInBody c)) = refl
fire_bare net s i a None = refl

in_branch : {X : Type 0} (b : Bool) (s : State X) → bare (if b then Some s else None) ≡ (if b then Some (without_capacities s) else None)
in_branch true s = refl
in_branch false s = refl

deliver_bare : {X : Type 0} (s : State X) (l k : ℕ) (link : Option Link) (flow : Option Flow)
    → deliver (without_capacities s) l k link (bare_flow flow) ≡ bare (deliver s l k link flow)
deliver_bare s l k (Some link) (Some flow) =
    same_branch (nat_le (flow.arrived + k) (length flow.sent)) _ _ None
    (ap (λ fs. Some (record { actors = s.actors; flows = fs; trapped = s.trapped })) (set_bare s.flows l (after_arrival k link flow)))
    ∙ sym (in_branch (nat_le (flow.arrived + k) (length flow.sent)) (record s { flows = slice_set s.flows l (after_arrival k link flow) }))
deliver_bare s l k (Some link) None = refl
deliver_bare s l k None flow = refl

trap_bare : {X : Type 0} (s : State X) (c : TrapName) (e : Option (Effect X)) → trap (without_capacities s) c e ≡ bare (trap s c e)
trap_bare s c (Some (Fires next sent)) = refl
trap_bare s c (Some (TrapsInGuard d)) = sym (in_branch _ (record s { trapped = true }))
trap_bare s c (Some (TrapsInBody d)) = sym (in_branch _ (record s { trapped = true }))
trap_bare s c None = refl

permitted_bare : {X : Type 0} (net : Network X) (s : State X) (event : Event)
    → permitted net (without_capacities s) event ≡ bare (permitted net s event)
permitted_bare net s (Fire i a) =
    ap (fire net (without_capacities s) i a) (effect_bare net.links s.flows i a (slice_get net.leaves i) (slice_get s.actors i))
    ∙ fire_bare net s i a (effect_at net s i a)
permitted_bare net s (Deliver l k) =
    ap (deliver (without_capacities s) l k (slice_get net.links l)) (get_bare s.flows l)
    ∙ deliver_bare s l k (slice_get net.links l) (slice_get s.flows l)
permitted_bare net s (Trap i a c) =
    ap (trap (without_capacities s) c) (effect_bare net.links s.flows i a (slice_get net.leaves i) (slice_get s.actors i))
    ∙ trap_bare s c (effect_at net s i a)

unless_bare : {X : Type 0} (trapped : Bool) (o p : Option (State X)) → o ≡ bare p
    → (if trapped then None else o) ≡ bare (if trapped then None else p)
unless_bare true o p e = refl
unless_bare false o p e = e

happens_bare : {X : Type 0} (net : Network X) (s : State X) (event : Event)
    → happens net (without_capacities s) event ≡ bare (happens net s event)
happens_bare net s event = unless_bare s.trapped _ _ (permitted_bare net s event)

-- a state that is this one but for the capacities, and to which the same leads
pub record Alike {X : Type 0} (o : Option (State X)) (t : State X) : Type 0 where
  pub other : State X
  pub is : o ≡ Some other
  pub same : without_capacities other ≡ without_capacities t

alike_some : {X : Type 0} (o : Option (State X)) (t : State X) → bare o ≡ Some (without_capacities t) → Alike o t
alike_some None t e = cc
alike_some (Some other) t e =
    let same : without_capacities other ≡ without_capacities t = cc in
    record { other = other; is = refl; same = same }

happens_alike : {X : Type 0} (net : Network X) (r s t : State X) (event : Event)
    → without_capacities r ≡ without_capacities s → happens net s event ≡ Some t → Alike (happens net r event) t
happens_alike net r s t event same h =
    alike_some (happens net r event) t
    (sym (happens_bare net r event) ∙ (ap (λ w. happens net w event) same ∙ (happens_bare net s event ∙ ap bare h)))

step_alike : {X : Type 0} (o p : Option (State X)) (f : State X → Option (State X)) (t : State X)
    → ((u : State X) → o ≡ Some u → Alike p u)
    → ((u v : State X) → without_capacities v ≡ without_capacities u → f u ≡ Some t → Alike (f v) t)
    → and_then o f ≡ Some t → Alike (and_then p f) t
step_alike None p f t first then_ h = cc
step_alike (Some u) p f t first then_ h =
    let one : Alike p u = first u refl in
    let rest : Alike (f one.other) t = then_ u one.other one.same h in
    record { other = rest.other; is = ap (λ w. and_then w f) one.is ∙ rest.is; same = rest.same }

pub run_alike : {X : Type 0} (net : Network X) (r s t : State X) (events : List Event)
    → without_capacities r ≡ without_capacities s → run net s events ≡ Some t → Alike (run net r events) t
run_alike net r s t [] same h =
    let is : s ≡ t = cc in
    record { other = r; is = refl; same = same ∙ ap without_capacities is }
run_alike net r s t (event ∷ events) same h =
    step_alike (happens net s event) (happens net r event) (λ u. run net u events) t
    (λ u. happens_alike net r s u event same) (λ u v alike. run_alike net v u t events alike) h
