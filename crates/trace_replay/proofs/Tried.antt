-- What came of an action that a line names.
use Rattle.std.proofs.Common.{◌≡◌, ℕ, zero, suc, ◌<◌, ◌≤◌, ◌⊎◌, false, List, [], ◌∷◌, length, map, refl, sym, ap, subst, ◌∙◌, inl, inr, ⊎_elim, arith}
use Rattle.std.specs.Prelude.{Option, None, Some, slice_get}
use Rattle.std.proofs.lemmas.Bool.{cases_eq}
use Rattle.std.proofs.lemmas.List.{length-map}
use Rattle.rvc_base.specs.declared.trap.Trap.{Trap as TrapName}
use Rattle.rvc_base.specs.Behaviour.{Effect, Fires, TrapsInGuard, TrapsInBody}
use Rattle.net_model.specs.declared.firing.Tried.TheVariants as tried
use Rattle.net_model.specs.Network.{Network}
use Rattle.net_model.specs.State.{State, effect_of, effect_at}
use Rattle.net_model.specs.Event.{Fire, happens}
use Rattle.net_model.specs.Trace.{OnNext}
use Rattle.net_model.specs.Cell.{Cell, IsEnabled}
use Rattle.net_model.specs.Ready.{OnCell}
use Rattle.net_model.specs.Paced.{HasRoomIn}
use Rattle.net_model.proofs.Commuting.{Fired, fired_unless}
use Rattle.net_state.specs.Held.{Held}
use Rattle.net_state.specs.Working.{MayWork, TriesAt}
use Rattle.trace_replay.specs.Judging.{FiringFails, LacksRoomIn, TrapComes}
use Rattle.trace_replay.specs.Trying.{AllWork, FailsToFire, TrapsNotSo, TrapsSo}
use Rattle.trace_replay.specs.declared.why.Why.TheVariants.{NotExposed, NoRoom, Trap}

-- a cell that is there may work
pub may_work : {X : Type 0} (cells : List (Cell X)) (i : ℕ) → i < length cells → AllWork cells → MayWork cells i
may_work {X} cells i low work = of_cell (slice_get cells i) refl
  where
    some_there : {A : Type 0} (xs : List A) (k : ℕ) → k < length xs → slice_get xs k ≡ None → ⊥
    some_there [] k less h = omega (arith, less)
    some_there (x ∷ xs) zero less h = cc
    some_there (x ∷ xs) (suc k) less h = some_there xs k (omega (arith, less)) h

    of_cell : (o : Option (Cell X)) → slice_get cells i ≡ o → OnCell o (λ cell. cell.trapped ≡ false)
    of_cell None at = some_there cells i low at
    of_cell (Some cell) at = work i cell at

-- beyond the leaves nothing is done
none_beyond : {A : Type 0} (xs : List A) (k : ℕ) → length xs ≤ k → slice_get xs k ≡ None
none_beyond [] k high = refl
none_beyond (x ∷ xs) zero high = absurd (omega (arith, high))
none_beyond (x ∷ xs) (suc k) high = none_beyond xs k (omega (arith, high))

pub no_effect : {X : Type 0} (net : Network X) (cells : List (Cell X)) (s : State X) (i a : ℕ) → map (λ leaf. leaf.behaviour) net.leaves ≡ map (λ cell. cell.actor) cells → length cells ≤ i
    → effect_at net s i a ≡ None
no_effect net cells s i a same high =
    let count : length net.leaves ≡ length cells = sym (length-map net.leaves (λ leaf. leaf.behaviour)) ∙ ap length same ∙ length-map cells (λ cell. cell.actor) in
    ap (λ o. effect_of net.links s.flows i a o (slice_get s.actors i)) (none_beyond net.leaves i (omega (arith, count, high)))

-- why it didn't fire
fails_trap : {X : Type 0} (net : Network X) (opened s : State X) (i a : ℕ) (e : Option (Effect X)) (cause : TrapName)
    → (e ≡ Some (TrapsInGuard cause)) ⊎ (HasRoomIn net opened s i a × (e ≡ Some (TrapsInBody cause))) → FiringFails net opened s i a e Trap
fails_trap net opened s i a e cause so = ⊎_elim
    (λ guard. subst (λ o. FiringFails net opened s i a o Trap) (sym guard) refl)
    (λ body. subst (λ o. FiringFails net opened s i a o Trap) (sym body.1) (inr (refl, body.0)))
    so

fails_room : {X : Type 0} (net : Network X) (opened s : State X) (i a : ℕ) (e : Option (Effect X)) → IsEnabled e → LacksRoomIn net opened s i a → FiringFails net opened s i a e NoRoom
fails_room net opened s i a None enabled lacks = absurd enabled
fails_room net opened s i a (Some (Fires next sent)) enabled lacks = (refl, lacks)
fails_room net opened s i a (Some (TrapsInBody cause)) enabled lacks = inl (refl, lacks)
fails_room net opened s i a (Some (TrapsInGuard cause)) enabled lacks = absurd enabled

pub none_fails : {X : Type 0} (net : Network X) (opened s : State X) (i a : ℕ) → effect_at net s i a ≡ None → FiringFails net opened s i a (effect_at net s i a) NotExposed
none_fails net opened s i a none = subst (λ o. FiringFails net opened s i a o NotExposed) (sym none) refl

pub beyond_fails : {X : Type 0} (held : Held (Cell X)) (i a : ℕ) → length held.cells ≤ i → FailsToFire i a held NotExposed
beyond_fails held i a high net opened s stands = none_fails net opened s i a (no_effect net held.cells s i a stands.now.is_of.actors high)

pub trap_fails : {X : Type 0} (old new : Held (Cell X)) (i a : ℕ) (cause : TrapName) → TriesAt i a (tried.Trap cause) old new → FailsToFire i a old Trap
trap_fails old new i a cause tries net opened s stands = fails_trap net opened s i a (effect_at net s i a) cause (tries.states net opened s stands).0

pub none_is_fails : {X : Type 0} (old new : Held (Cell X)) (i a : ℕ) → TriesAt i a tried.NotExposed old new → FailsToFire i a old NotExposed
none_is_fails old new i a tries net opened s stands = none_fails net opened s i a (tries.states net opened s stands).0

pub room_fails : {X : Type 0} (old new : Held (Cell X)) (i a port : ℕ) → TriesAt i a (tried.NoRoom port) old new → FailsToFire i a old NoRoom
room_fails old new i a port tries net opened s stands =
    let is = tries.states net opened s stands in
    fails_room net opened s i a (effect_at net s i a) is.0 is.1

-- the others work on
pub still_work : {X : Type 0} (old new : Held (Cell X)) (i a : ℕ) → AllWork old.cells → TriesAt i a tried.Fired old new → AllWork new.cells
still_work {X} old new i a work tries k cell at = ⊎_elim
    (λ same. of_cell (slice_get new.cells i) (ap (slice_get new.cells) (sym same) ∙ at) tries.marked)
    (λ other. work k cell (sym (tries.elsewhere k other) ∙ at))
    (cases_eq k i)
  where
    of_cell : (o : Option (Cell X)) → o ≡ Some cell → OnCell o (λ c. c.trapped ≡ false) → cell.trapped ≡ false
    of_cell None is on = cc
    of_cell (Some c) is on = let one : c ≡ cell = cc in ap (λ d. d.trapped) (sym one) ∙ on

-- whether a trap comes
comes_so : {X : Type 0} (net : Network X) (opened s : State X) (i a : ℕ) (e : Option (Effect X)) (cause : TrapName)
    → (e ≡ Some (TrapsInGuard cause)) ⊎ (HasRoomIn net opened s i a × (e ≡ Some (TrapsInBody cause))) → TrapComes net opened s i a e cause
comes_so net opened s i a e cause so = ⊎_elim
    (λ guard. subst (λ o. TrapComes net opened s i a o cause) (sym guard) refl)
    (λ body. subst (λ o. TrapComes net opened s i a o cause) (sym body.1) (refl, body.0))
    so

comes_once : {X : Type 0} (net : Network X) (opened s : State X) (i a : ℕ) (e : Option (Effect X)) (cause c : TrapName)
    → (e ≡ Some (TrapsInGuard cause)) ⊎ (HasRoomIn net opened s i a × (e ≡ Some (TrapsInBody cause))) → TrapComes net opened s i a e c → cause ≡ c
comes_once net opened s i a e cause c so comes = ⊎_elim
    (λ guard. of_guard (subst (λ o. TrapComes net opened s i a o c) guard comes))
    (λ body. of_body (subst (λ o. TrapComes net opened s i a o c) body.1 comes))
    so
  where
    of_guard : TrapComes net opened s i a (Some (TrapsInGuard cause)) c → cause ≡ c
    of_guard h = h

    of_body : TrapComes net opened s i a (Some (TrapsInBody cause)) c → cause ≡ c
    of_body h = h.0

pub traps_so : {X : Type 0} (old new : Held (Cell X)) (i a : ℕ) (cause c : TrapName) → TriesAt i a (tried.Trap cause) old new → cause ≡ c → TrapsSo i a c old
traps_so old new i a cause c tries same net opened s stands =
    subst (λ d. TrapComes net opened s i a (effect_at net s i a) d) same
    (comes_so net opened s i a (effect_at net s i a) cause (tries.states net opened s stands).0)

pub traps_other : {X : Type 0} (old new : Held (Cell X)) (i a : ℕ) (cause c : TrapName) → TriesAt i a (tried.Trap cause) old new → (cause ≡ c → ⊥) → TrapsNotSo i a c old
traps_other old new i a cause c tries differ net opened s stands comes =
    differ (comes_once net opened s i a (effect_at net s i a) cause c (tries.states net opened s stands).0 comes)

none_comes : {X : Type 0} (net : Network X) (opened s : State X) (i a : ℕ) (e : Option (Effect X)) (c : TrapName) → e ≡ None → TrapComes net opened s i a e c → ⊥
none_comes net opened s i a e c none comes = let no_trap : TrapComes net opened s i a None c = subst (λ o. TrapComes net opened s i a o c) none comes in no_trap

pub beyond_no_trap : {X : Type 0} (held : Held (Cell X)) (i a : ℕ) (c : TrapName) → length held.cells ≤ i → TrapsNotSo i a c held
beyond_no_trap held i a c high net opened s stands comes =
    none_comes net opened s i a (effect_at net s i a) c (no_effect net held.cells s i a stands.now.is_of.actors high) comes

pub none_no_trap : {X : Type 0} (old new : Held (Cell X)) (i a : ℕ) (c : TrapName) → TriesAt i a tried.NotExposed old new → TrapsNotSo i a c old
none_no_trap old new i a c tries net opened s stands comes = none_comes net opened s i a (effect_at net s i a) c (tries.states net opened s stands).0 comes

room_no_trap_of : {X : Type 0} (net : Network X) (opened s : State X) (i a : ℕ) (e : Option (Effect X)) (c : TrapName) → IsEnabled e → LacksRoomIn net opened s i a
    → TrapComes net opened s i a e c → ⊥
room_no_trap_of net opened s i a None c enabled lacks comes = comes
room_no_trap_of net opened s i a (Some (Fires next sent)) c enabled lacks comes = comes
room_no_trap_of net opened s i a (Some (TrapsInBody cause)) c enabled lacks comes = comes.1 lacks.0 lacks.1
room_no_trap_of net opened s i a (Some (TrapsInGuard cause)) c enabled lacks comes = enabled

pub room_no_trap : {X : Type 0} (old new : Held (Cell X)) (i a port : ℕ) (c : TrapName) → TriesAt i a (tried.NoRoom port) old new → TrapsNotSo i a c old
room_no_trap old new i a port c tries net opened s stands comes =
    let is = tries.states net opened s stands in
    room_no_trap_of net opened s i a (effect_at net s i a) c is.0 is.1 comes

-- an action that fires doesn't trap
fires_is : {X : Type 0} (R : Type 0) (o : Option (State X)) (P : State X → Type 0) → ((u : State X) → o ≡ Some u → R) → OnNext o P → R
fires_is R None P f h = absurd h
fires_is R (Some u) P f h = f u refl

fired_no_trap_of : {X : Type 0} (net : Network X) (opened s : State X) (i a : ℕ) (e : Option (Effect X)) (next : X) (sent : List (List Rattle.std.specs.Prelude.ℤ)) (c : TrapName)
    → e ≡ Some (Fires next sent) → TrapComes net opened s i a e c → ⊥
fired_no_trap_of net opened s i a e next sent c is comes =
    let no_trap : TrapComes net opened s i a (Some (Fires next sent)) c = subst (λ o. TrapComes net opened s i a o c) is comes in no_trap

pub fired_no_trap : {X : Type 0} (old new : Held (Cell X)) (i a : ℕ) (c : TrapName) → TriesAt i a tried.Fired old new → TrapsNotSo i a c old
fired_no_trap old new i a c tries net opened s stands comes =
    let is = tries.states net opened s stands in
    fires_is ⊥ (happens net s (Fire i a)) _
    (λ u h. let one : Fired net s u i a = fired_unless net s u i a s.trapped refl h in
    fired_no_trap_of net opened s i a (effect_at net s i a) one.to one.sent c one.effect comes)
    is.1
