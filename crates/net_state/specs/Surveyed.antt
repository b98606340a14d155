-- Whether a network at rest can go on: what is found of its leaves, one after another.
-- Trusted: part of what a promise means.
use Rattle.std.specs.Prelude.{◌≡◌, ℕ, ◌<◌, ◌⊎◌, false, List, slice_get, Some}
use Rattle.rvc_base.specs.declared.ids.InstId.{InstId}
use Rattle.rvc_base.specs.declared.trap.Trap.{Trap as TrapName}
use Rattle.net_model.specs.declared.firing.Look.{Look}
use Rattle.net_model.specs.declared.firing.Look.TheVariants as look
use Rattle.net_model.specs.Network.{Network}
use Rattle.net_model.specs.State.{State}
use Rattle.net_model.specs.Cell.{Cell}
use Rattle.net_model.specs.Ends.{IsQuiet, IsSettled, IsStalled, LacksRoom, all_fed}
use Rattle.net_model.specs.Wired.{IsWired}
use Rattle.net_state.specs.declared.outlook.Outlook.{Outlook}
use Rattle.net_state.specs.declared.outlook.Outlook.TheVariants as outlook
use Rattle.net_state.specs.declared.outlook.Survey.{Survey}
use Rattle.net_state.specs.declared.outlook.Survey.TheVariants as survey
use Rattle.net_state.specs.Held.{Held}
use Rattle.net_state.specs.Standing.{StandsIn, StandsSince}
use Rattle.net_state.specs.Working.{AreFed, HasAction, LooksFed}

-- no cell has trapped
abbrev pub AreUntrapped : {X : Type 0} → List (Cell X) → Type 0
AreUntrapped {X} cells = (i : ℕ) (cell : Cell X) → slice_get cells i ≡ Some cell
    → cell.trapped ≡ false

-- each state that stands is settled
abbrev pub AreSettled : {X : Type 0} → Held (Cell X) → Type 0
AreSettled {X} held = (net : Network X) (s : State X) → StandsIn net held s → IsSettled net s

-- leaf i lacks room for action a; it fires, or its guards trap
abbrev pub LacksNow : {X : Type 0} → Network X → State X → ℕ → ℕ → Type 0
LacksNow net s i a =
    (port : ℕ) × LooksFed net s i (look.NoRoom (record { 0 = a }) port)

abbrev pub ActsNow : {X : Type 0} → Network X → State X → ℕ → Type 0
ActsNow net s i =
    ((a : ℕ) × LooksFed net s i (look.Ready (record { 0 = a })))
    ⊎ ((a : ℕ) × (cause : TrapName) × LooksFed net s i (look.GuardTrap (record { 0 = a }) cause))

-- of the first n leaves each waits or lacks room, and i is the lowest that lacks it, for action a
pub record LacksFirst {X : Type 0} (n : ℕ) (net : Network X) (s : State X) (i a : ℕ) :
    Type 0 where
  pub low : i < n
  pub lacks : LacksNow net s i a
  pub below : (k : ℕ) → k < i → LooksFed net s k look.Waits
  pub each : (k : ℕ) → k < n → LooksFed net s k look.Waits ⊎ ((b : ℕ) × LacksNow net s k b)

-- what was found of the first n leaves
abbrev pub Told : {X : Type 0} → ℕ → Network X → State X → Survey → Type 0
Told n net s survey.AllWait = (k : ℕ) → k < n → LooksFed net s k look.Waits
Told n net s (survey.Lacks inst action) = LacksFirst n net s inst.0 action.0
Told n net s (survey.Moves inst) = ActsNow net s inst.0

-- .. in each state of a network that is wired and whose feeds came as far as they may
abbrev pub Tells : {X : Type 0} → ℕ → Survey → Held (Cell X) → Type 0
Tells {X} n found held = (net : Network X) (s : State X) → StandsIn net held s → IsWired net
    → AreFed net s → Told n net s found

-- an action that is named is one of the cell's
abbrev pub NamesFound : {X : Type 0} → List (Cell X) → Survey → Type 0
NamesFound cells survey.AllWait = Unit {0}
NamesFound cells (survey.Lacks inst action) = HasAction cells inst.0 action.0
NamesFound cells (survey.Moves inst) = Unit {0}

abbrev inst_of : ℕ → InstId
inst_of i = record { 0 = i }

-- what is found once leaf i was looked at too
abbrev pub after : Survey → ℕ → Look → Survey
after survey.AllWait i look.Waits = survey.AllWait
after survey.AllWait i (look.NoRoom action port) = survey.Lacks (inst_of i) action
after survey.AllWait i (look.Ready action) = survey.Moves (inst_of i)
after survey.AllWait i (look.GuardTrap action cause) = survey.Moves (inst_of i)
after (survey.Lacks inst first) i look.Waits = survey.Lacks inst first
after (survey.Lacks inst first) i (look.NoRoom action port) = survey.Lacks inst first
after (survey.Lacks inst first) i (look.Ready action) = survey.Moves (inst_of i)
after (survey.Lacks inst first) i (look.GuardTrap action cause) = survey.Moves (inst_of i)
after (survey.Moves inst) i o = survey.Moves inst

-- the network is quiet, stalled there, or neither
abbrev pub OutlookIn : {X : Type 0} → Network X → State X → Outlook → Type 0
OutlookIn net s outlook.Quiet = IsQuiet net s
OutlookIn net s (outlook.Stalled inst action link) = IsStalled net s inst.0 action.0 link.0
OutlookIn net s outlook.Going = (IsQuiet net s → ⊥)
    × ((i a l : ℕ) → IsStalled net s i a l → ⊥)

-- a link that is named is one of so many
abbrev pub NamesLink : ℕ → Outlook → Type 0
NamesLink count outlook.Quiet = Unit {0}
NamesLink count (outlook.Stalled inst action link) = link.0 < count
NamesLink count outlook.Going = Unit {0}

-- .. in each state that stands, if the network is wired and its feeds came as far as they may
abbrev pub IsOutlook : {X : Type 0} → Outlook → Held (Cell X) → Type 0
IsOutlook {X} what held = (net : Network X) (s : State X) → StandsIn net held s → IsWired net
    → AreFed net s → OutlookIn net s what

-- l is the lowest link on which action a of leaf i lacks room
pub record LacksFirstOn {X : Type 0} (net : Network X) (s : State X) (i a l : ℕ) : Type 0 where
  pub lacks : LacksRoom net (all_fed net s) i a l
  pub lowest : (m : ℕ) → m < l → LacksRoom net (all_fed net s) i a m → ⊥

-- stalled at action a of leaf i, on the lowest link on which it lacks room; or it has room on each
abbrev pub StallsIn : {X : Type 0} → Network X → State X → ℕ → ℕ → Outlook → Type 0
StallsIn net s i a outlook.Quiet = ⊥
StallsIn net s i a (outlook.Stalled inst action link) =
    (inst.0 ≡ i) × (action.0 ≡ a) × LacksFirstOn net s i a link.0
StallsIn net s i a outlook.Going = (l : ℕ) → LacksRoom net (all_fed net s) i a l → ⊥

abbrev pub StallsAt : {X : Type 0} → ℕ → ℕ → Outlook → Held (Cell X) → Type 0
StallsAt {X} i a what held = (net : Network X) (s : State X) → StandsIn net held s
    → StallsIn net s i a what

-- each state that stood stands still
pub record StillStand {X : Type 0} (old new : Held (Cell X)) : Type 0 where
  pub stays : (net : Network X) (s : State X) → StandsIn net old s → StandsIn net new s
  pub since : (net : Network X) (opened s : State X) → StandsSince net old opened s
      → StandsSince net new opened s
