-- What the work of one cell does to the network.
-- Trusted: part of what a promise means.
use Rattle.std.specs.Prelude.{◌≡◌, ◌≢◌, ℕ, ◌+◌, ◌-◌, ◌≤◌, ◌<◌, ◌⊎◌, ◌↔◌, Bool, true, false, List, [], ◌++◌, length, slice_get, slice_set, slice_index_or, Option, None, Some}
use Rattle.rvc_base.specs.Behaviour.{Faults, Picks, TrapsInBody, TrapsInGuard, Waits}
use Rattle.rvc_base.specs.Lawful.{IsLawful}
use Rattle.rvc_base.specs.declared.ids.LinkId.{LinkId}
use Rattle.net_model.specs.declared.firing.BurstEnd.{BurstEnd}
use Rattle.net_model.specs.declared.firing.BurstEnd.TheVariants as burst
use Rattle.net_model.specs.declared.firing.Look.{Look}
use Rattle.net_model.specs.declared.firing.Look.TheVariants as look
use Rattle.net_model.specs.declared.firing.Tried.{Tried}
use Rattle.net_model.specs.declared.firing.Tried.TheVariants as tried
use Rattle.net_model.specs.declared.wiring.End.{End}
use Rattle.net_model.specs.declared.wiring.End.TheVariants.{Leaf as AtLeaf, Net as AtNet}
use Rattle.net_model.specs.declared.wiring.Link.{Link}
use Rattle.net_model.specs.Network.{Network, is_input}
use Rattle.net_model.specs.State.{Flow, State, choice_at, effect_at, untaken}
use Rattle.net_model.specs.Ends.{IsSettled, LacksRoom, all_fed}
use Rattle.net_model.specs.Wired.{IsWired}
use Rattle.net_model.specs.Event.{Fire, happens}
use Rattle.net_model.specs.Trace.{OnNext, grown}
use Rattle.net_model.specs.Cell.{AreRooms, Bursts, Cell, FitsQueues, IsEnabled, IsSame, Looks, Tries}
use Rattle.net_model.specs.Ready.{InboxHolds, OnCell, OutboxHolds, waiting_at}
use Rattle.net_model.specs.Paced.{Halt, HasRoomIn, IsBurst, PassesLink, NoRoom, Spent, Trapping, Waiting}
use Rattle.net_state.specs.Held.{Held, held_of}
use Rattle.net_state.specs.Standing.{AreAllOut, StandsIn, StandsSince}

-- cell i is there and hasn't trapped
abbrev pub MayWork : {X : Type 0} → List (Cell X) → ℕ → Type 0
MayWork cells i = OnCell (slice_get cells i) (λ cell. cell.trapped ≡ false)

-- .. and its journal has room for so many firings more
abbrev pub MayBurst : {X : Type 0} → List (Cell X) → ℕ → ℕ → Type 0
MayBurst cells i limit = OnCell (slice_get cells i)
    (λ cell. (cell.trapped ≡ false) × (length cell.journal + limit ≤ cell.journal_room))

abbrev pub HasRoomRow : {X : Type 0} → List (Cell X) → ℕ → List ℕ → Type 0
HasRoomRow cells i rooms = OnCell (slice_get cells i) (λ cell. AreRooms cell rooms)

-- cell i made a burst, and the others stayed
pub record BurstsAt {X : Type 0} (i limit : ℕ) (rooms : List ℕ) (old : List (Cell X))
    (end : BurstEnd) (new : List (Cell X)) : Type 0 where
  pub before : Cell X
  pub after : Cell X
  pub at : slice_get old i ≡ Some before
  pub is : new ≡ slice_set old i after
  pub lawful : IsLawful before.actor
  pub fits : FitsQueues before
  pub bursts : Bursts rooms limit before end after

-- the actions that a cell fired since its journal was emptied
abbrev pub journal_of : {X : Type 0} → Option (Cell X) → List ℕ
journal_of None = []
journal_of (Some cell) = cell.journal

-- why a leaf fires no more, by how its cell's burst ended
abbrev pub halt_of : BurstEnd → Halt
halt_of burst.Spent = Spent
halt_of burst.Waits = Waiting
halt_of (burst.NoRoom action port) = NoRoom
halt_of (burst.Trap action cause) = Trapping action.0 cause

abbrev pub traps : BurstEnd → Bool
traps burst.Spent = false
traps burst.Waits = false
traps (burst.NoRoom action port) = false
traps (burst.Trap action cause) = true

-- A state goes on by the firings of leaf i, to one that stands; `opened` is the state after the last delivery.
pub record GoesOn {X : Type 0} (net : Network X) (opened : State X) (i limit : ℕ) (s : State X)
    (actions : List ℕ) (halt : Halt) (new : Held (Cell X)) : Type 0 where
  pub last : State X
  pub bursts : IsBurst net opened i limit s actions halt last
  pub stands : StandsSince net new opened last

-- nothing that was sent inside waits to leave, and before inner links wait as many tokens as after the last delivery
pub record IsAtRest {X : Type 0} (held : Held (Cell X)) : Type 0 where
  pub all_out : AreAllOut held.cells
  pub counted : (l : ℕ) (link : Link) → slice_get held.links l ≡ Some link → is_input link ≡ false
      → slice_index_or held.waited l 0 ≡ length (waiting_at held.cells link.to)

-- What ends judge.

-- a link leads from port p of leaf i, and what is given there passes its room
abbrev pub LacksFrom : (ℕ → ℕ) → ℕ → ℕ → End → Type 0
LacksFrom gives i room (AtLeaf inst port) = (i ≡ inst.0) × (room < gives port)
LacksFrom gives i room (AtNet port) = ⊥

-- each input link holds its capacity, or all of its feed has arrived
abbrev pub AreFed : {X : Type 0} → Network X → State X → Type 0
AreFed net s = (l : ℕ) (link : Link) (flow : Flow) → slice_get net.links l ≡ Some link
    → slice_get s.flows l ≡ Some flow
    → is_input link ≡ true → (untaken flow ≡ flow.capacity) ⊎ (flow.arrived ≡ length flow.sent)

-- the action fires or traps
abbrev pub DoesSome : {X : Type 0} → Network X → State X → ℕ → ℕ → Type 0
DoesSome net s i a = effect_at net s i a ≢ None

-- what leaf i would do next, with the rest of the feeds counted as arrived
abbrev pub LooksFed : {X : Type 0} → Network X → State X → ℕ → Look → Type 0
LooksFed net s i look.Waits =
    (choice_at net (all_fed net s) i ≡ Waits) × ((a : ℕ) → effect_at net (all_fed net s) i a ≡ None)
LooksFed net s i (look.Ready action) =
    (choice_at net (all_fed net s) i ≡ Picks action.0)
    × ((l : ℕ) → LacksRoom net (all_fed net s) i action.0 l → ⊥)
    × DoesSome net (all_fed net s) i action.0
LooksFed net s i (look.NoRoom action port) =
    (choice_at net (all_fed net s) i ≡ Picks action.0)
    × ((l : ℕ) × LacksRoom net (all_fed net s) i action.0 l)
LooksFed net s i (look.GuardTrap action cause) =
    (choice_at net (all_fed net s) i ≡ Faults action.0 cause)
    × DoesSome net (all_fed net s) i action.0

-- what the ends of a run say of leaf i, in each state of a network that is wired and whose feeds came as far as they may
abbrev pub EndsSee : {X : Type 0} → ℕ → Look → Held (Cell X) → Type 0
EndsSee {X} i look held = (net : Network X) (s : State X) → StandsIn net held s → IsWired net
    → AreFed net s
    → IsSettled net s × LooksFed net s i look

-- what an action of a cell gives by port
abbrev pub gives_of : {X : Type 0} → Option (Cell X) → ℕ → ℕ → ℕ
gives_of None a p = 0
gives_of (Some cell) a p = cell.actor.give a p

-- action a of cell i lacks room on this link
abbrev pub LacksOnLink : {X : Type 0} → List (Cell X) → ℕ → ℕ → ℕ → Option Link → Type 0
LacksOnLink cells i a room None = ⊥
LacksOnLink cells i a room (Some link) = LacksFrom (gives_of (slice_get cells i) a) i room link.from

-- .. and so on a link with this writing end
abbrev pub LacksOnEnd : {X : Type 0} → List (Cell X) → ℕ → ℕ → ℕ → End → Type 0
LacksOnEnd cells i a room from = LacksFrom (gives_of (slice_get cells i) a) i room from

-- .. and so on link l of those that are held
abbrev pub LacksAt : {X : Type 0} → Held (Cell X) → ℕ → ℕ → ℕ → Type 0
LacksAt held i a l =
    LacksOnLink held.cells i a (slice_index_or held.capacities l 0 - slice_index_or held.waited l 0)
    (slice_get held.links l)

-- On links where this is told it is as the ends of a run have it, in each state that stands.
abbrev pub LacksAsEnds : {X : Type 0} → Held (Cell X) → ℕ → ℕ → Type 0
LacksAsEnds {X} held i a = (net : Network X) (s : State X) (l : ℕ) → StandsIn net held s
    → LacksRoom net (all_fed net s) i a l ↔ LacksAt held i a l

-- the lowest link on which action a of cell i lacks room
pub record IsLowestLacking {X : Type 0} (held : Held (Cell X)) (i a l : ℕ) : Type 0 where
  pub lacks : LacksAt held i a l
  pub first : (m : ℕ) → m < l → LacksAt held i a m → ⊥

-- the same of cells and links and what they hold: this is the lowest one, and there is none
abbrev pub LowestOf : {X : Type 0} → List (Cell X) → List Link → List ℕ → List ℕ → ℕ → ℕ → LinkId
    → Type 0
LowestOf cells links capacities waited i a link =
    IsLowestLacking (held_of cells links capacities waited) i a link.0

abbrev pub NoneLacks : {X : Type 0} → List (Cell X) → List Link → List ℕ → List ℕ → ℕ → ℕ → Type 0
NoneLacks cells links capacities waited i a = (l : ℕ)
    → LacksAt (held_of cells links capacities waited) i a l → ⊥

-- cell i is there, and has action a
abbrev pub HasAction : {X : Type 0} → List (Cell X) → ℕ → ℕ → Type 0
HasAction cells i a = OnCell (slice_get cells i) (λ cell. a < cell.actor.actions)

-- an action that is named is one of the cell's
abbrev pub NamesAction : {X : Type 0} → List (Cell X) → ℕ → Look → Type 0
NamesAction cells i look.Waits = Unit {0}
NamesAction cells i (look.Ready action) = HasAction cells i action.0
NamesAction cells i (look.NoRoom action port) = HasAction cells i action.0
NamesAction cells i (look.GuardTrap action cause) = HasAction cells i action.0

-- Bursts.

-- what the ends of a run say of leaf i if its burst ended so without a firing
abbrev pub EndsSeeHalt : {X : Type 0} → ℕ → BurstEnd → Held (Cell X) → Type 0
EndsSeeHalt i burst.Spent held = Unit {0}
EndsSeeHalt i burst.Waits held = EndsSee i look.Waits held
EndsSeeHalt i (burst.NoRoom action port) held = EndsSee i (look.NoRoom action port) held
EndsSeeHalt i (burst.Trap action cause) held = Unit {0}

-- an action that lacks room is one of the cell's
abbrev pub NamesLacking : {X : Type 0} → List (Cell X) → ℕ → BurstEnd → Type 0
NamesLacking cells i burst.Spent = Unit {0}
NamesLacking cells i burst.Waits = Unit {0}
NamesLacking cells i (burst.NoRoom action port) = HasAction cells i action.0
NamesLacking cells i (burst.Trap action cause) = Unit {0}

-- Cell i fired `actions`, at most `limit` of them, and its journal names them; the other cells stayed.
pub record WorksAt {X : Type 0} (i limit : ℕ) (end : BurstEnd) (old new : Held (Cell X)) :
    Type 0 where
  pub actions : List ℕ
  pub few : length actions ≤ limit
  pub noted : journal_of (slice_get new.cells i) ≡ journal_of (slice_get old.cells i) ++ actions
  pub states : (net : Network X) (opened s : State X) → StandsSince net old opened s
      → GoesOn net opened i limit s actions (halt_of end) new
  pub elsewhere : (k : ℕ) → k ≢ i → slice_get new.cells k ≡ slice_get old.cells k
  pub marked : OnCell (slice_get new.cells i) (λ cell. cell.trapped ≡ traps end)
  -- if nothing fired, the network is at rest as before, and the end says what ends judge
  pub rests : actions ≡ [] → IsAtRest old → IsAtRest new
  pub ends : actions ≡ [] → IsAtRest old → EndsSeeHalt i end old
  pub named : NamesLacking old.cells i end

-- Looking, and actions that are tried.

-- cell i was looked at, and nothing that is seen of the cells changed
pub record LookedAt {X : Type 0} (i : ℕ) (rooms : List ℕ) (old : List (Cell X)) (look : Look)
    (new : List (Cell X)) : Type 0 where
  pub before : Cell X
  pub after : Cell X
  pub at : slice_get old i ≡ Some before
  pub is : new ≡ slice_set old i after
  pub lawful : IsLawful before.actor
  pub fits : FitsQueues before
  pub looks : Looks rooms before look
  pub same : IsSame before after

-- an action of cell i was tried, and the other cells stayed
pub record TriedAt {X : Type 0} (i : ℕ) (rooms : List ℕ) (a : ℕ) (old : List (Cell X))
    (tried : Tried) (new : List (Cell X)) : Type 0 where
  pub before : Cell X
  pub after : Cell X
  pub at : slice_get old i ≡ Some before
  pub is : new ≡ slice_set old i after
  pub lawful : IsLawful before.actor
  pub fits : FitsQueues before
  pub tries : Tries rooms a before tried after

-- what leaf i would do next in a state
abbrev pub LooksIn : {X : Type 0} → Network X → State X → State X → ℕ → Look → Type 0
LooksIn net opened s i look.Waits = choice_at net s i ≡ Waits
LooksIn net opened s i (look.Ready action) = (choice_at net s i ≡ Picks action.0)
    × HasRoomIn net opened s i action.0
LooksIn net opened s i (look.NoRoom action port) =
    (choice_at net s i ≡ Picks action.0) × ((l : ℕ) × PassesLink net opened s i action.0 l)
LooksIn net opened s i (look.GuardTrap action cause) = choice_at net s i ≡ Faults action.0 cause

pub record LooksAt {X : Type 0} (i : ℕ) (look : Look) (old new : Held (Cell X)) : Type 0 where
  pub states : (net : Network X) (opened s : State X) → StandsSince net old opened s
      → LooksIn net opened s i look × StandsSince net new opened s
  pub stays : (net : Network X) (s : State X) → StandsIn net old s → StandsIn net new s
  pub ends : IsAtRest old → EndsSee i look old
  pub named : NamesAction old.cells i look
  pub journal : journal_of (slice_get new.cells i) ≡ journal_of (slice_get old.cells i)
  pub elsewhere : (k : ℕ) → k ≢ i → slice_get new.cells k ≡ slice_get old.cells k
  pub rests : IsAtRest old → IsAtRest new

-- What came of action a of leaf i: a firing leads to the next state; else the state stays, also by a trap.
abbrev pub TriesIn : {X : Type 0} → Network X → State X → State X → ℕ → ℕ → Tried → Held (Cell X)
    → Type 0
TriesIn net opened s i a tried.Fired new =
    HasRoomIn net opened s i a × OnNext (happens net s (Fire i a))
    (λ next. StandsSince net new opened next)
TriesIn net opened s i a (tried.Trap cause) new =
    ((effect_at net s i a ≡ Some (TrapsInGuard cause))
    ⊎ (HasRoomIn net opened s i a × (effect_at net s i a ≡ Some (TrapsInBody cause))))
    × StandsSince net new opened s
TriesIn net opened s i a tried.NotExposed new = (effect_at net s i a ≡ None)
    × StandsSince net new opened s
TriesIn net opened s i a (tried.NoRoom port) new =
    IsEnabled (effect_at net s i a) × ((l : ℕ) × PassesLink net opened s i a l)
    × StandsSince net new opened s

abbrev pub tried_traps : Tried → Bool
tried_traps tried.Fired = false
tried_traps (tried.Trap cause) = true
tried_traps tried.NotExposed = false
tried_traps (tried.NoRoom port) = false

pub record TriesAt {X : Type 0} (i a : ℕ) (tried : Tried) (old new : Held (Cell X)) : Type 0 where
  pub states : (net : Network X) (opened s : State X) → StandsSince net old opened s
      → TriesIn net opened s i a tried new
  pub journal : journal_of (slice_get new.cells i) ≡ journal_of (slice_get old.cells i)
  pub elsewhere : (k : ℕ) → k ≢ i → slice_get new.cells k ≡ slice_get old.cells k
  pub marked : OnCell (slice_get new.cells i) (λ cell. cell.trapped ≡ tried_traps tried)

-- Growth.

-- the queues of a link can hold so many tokens
abbrev pub CanHold : {X : Type 0} → List (Cell X) → ℕ → Option Link → Type 0
CanHold cells n None = ⊥
CanHold cells n (Some link) = OutboxHolds cells n link.from × InboxHolds cells n link.to

-- link l grew to this capacity: each state goes on by its growth
abbrev pub GrewTo : {X : Type 0} → ℕ → ℕ → Held (Cell X) → Held (Cell X) → Type 0
GrewTo {X} l capacity old new = (net : Network X) (opened s : State X)
    → StandsSince net old opened s
    → OnNext (grown s l capacity (slice_get s.flows l)) (λ next. StandsSince net new opened next)

-- the same of cells and links, whose capacities alone change
abbrev pub GrewFrom : {X : Type 0} → ℕ → ℕ → List (Cell X) → List Link → List ℕ → List ℕ → List ℕ
    → Type 0
GrewFrom l capacity cells links waited old new =
    GrewTo l capacity (held_of cells links old waited) (held_of cells links new waited)
