-- What a line that names an action of a leaf says of the network, and whether it is so.
-- Not trusted: no promise is read with it.
use Rattle.std.specs.Prelude.{◌≡◌, ℕ, false, List, slice_get, Some}
use Rattle.rvc_base.specs.declared.trap.Trap.{Trap as TrapName}
use Rattle.net_model.specs.Network.{Network}
use Rattle.net_model.specs.State.{State, effect_at}
use Rattle.net_model.specs.Event.{Fire, happens}
use Rattle.net_model.specs.Trace.{OnNext}
use Rattle.net_model.specs.Cell.{Cell}
use Rattle.net_model.specs.Paced.{HasRoomIn}
use Rattle.net_state.specs.Held.{Held}
use Rattle.net_state.specs.Standing.{StandsSince}
use Rattle.trace_replay.specs.Judging.{FiringFails, TrapComes}
use Rattle.trace_replay.specs.declared.why.Why.{Why}

-- no cell has trapped
abbrev pub AllWork : {X : Type 0} → List (Cell X) → Type 0
AllWork {X} cells = (i : ℕ) (cell : Cell X) → slice_get cells i ≡ Some cell → cell.trapped ≡ false

-- action a of leaf i had room and fired: each state goes on by the firing
abbrev pub FiresOn : {X : Type 0} → ℕ → ℕ → Held (Cell X) → Held (Cell X) → Type 0
FiresOn {X} i a old new = (net : Network X) (opened s : State X) → StandsSince net old opened s
    → HasRoomIn net opened s i a × OnNext (happens net s (Fire i a))
    (λ next. StandsSince net new opened next)

-- it didn't, for this cause
abbrev pub FailsToFire : {X : Type 0} → ℕ → ℕ → Held (Cell X) → Why → Type 0
FailsToFire {X} i a old why = (net : Network X) (opened s : State X) → StandsSince net old opened s
    → FiringFails net opened s i a (effect_at net s i a) why

-- it traps so
abbrev pub TrapsSo : {X : Type 0} → ℕ → ℕ → TrapName → Held (Cell X) → Type 0
TrapsSo {X} i a c old = (net : Network X) (opened s : State X) → StandsSince net old opened s
    → TrapComes net opened s i a (effect_at net s i a) c

abbrev pub TrapsNotSo : {X : Type 0} → ℕ → ℕ → TrapName → Held (Cell X) → Type 0
TrapsNotSo {X} i a c old = (net : Network X) (opened s : State X) → StandsSince net old opened s
    → TrapComes net opened s i a (effect_at net s i a) c → ⊥
