-- An actor at work: what is seen of it, and what each call on it does.
-- Trusted: part of what a promise means.
use Rattle.std.specs.Prelude.{◌≡◌, ◌≢◌, ℕ, ◌+◌, ◌≤◌, ◌<◌, ◌⊎◌, Bool, true, List, [], ◌∷◌, ◌++◌, ℤ, length, drop, slice_index_or, Option, None, Some}
use Rattle.rvc_base.specs.declared.trap.Trap.{Trap as TrapName}
use Rattle.rvc_base.specs.Behaviour.{Behaviour, Effect, Choice, Fires, TrapsInGuard, TrapsInBody, Waits, Picks, Faults}
use Rattle.rvc_base.specs.Lawful.{tokens_on}
use Rattle.net_model.specs.declared.firing.BurstEnd.{BurstEnd}
use Rattle.net_model.specs.declared.firing.BurstEnd.TheVariants as burst
use Rattle.net_model.specs.declared.firing.Look.{Look}
use Rattle.net_model.specs.declared.firing.Look.TheVariants as look
use Rattle.net_model.specs.declared.firing.Tried.{Tried}
use Rattle.net_model.specs.declared.firing.Tried.TheVariants as tried

pub record Cell (X : Type 0) : Type 0 where
  pub actor : Behaviour X
  pub state : X
  -- the tokens before each input port, and those sent on each output port that haven't left yet
  pub inboxes : List (List ℤ)
  pub outboxes : List (List ℤ)
  -- how many tokens each of these can hold; an output port without reader has an outbox for none
  pub inbox_capacities : List ℕ
  pub outbox_capacities : List ℕ
  -- the actions that fired since the journal was cleared, in order, and how many it has room for
  pub journal : List ℕ
  pub journal_room : ℕ
  pub trapped : Bool

-- the number for port p
abbrev pub number_on : List ℕ → ℕ → ℕ
number_on numbers p = slice_index_or numbers p 0

-- what an action would do now, and which action is to fire
abbrev pub effect_of : {X : Type 0} → Cell X → ℕ → Option (Effect X)
effect_of cell a = cell.actor.effect cell.state cell.inboxes a

abbrev pub choice_of : {X : Type 0} → Cell X → Choice
choice_of cell = cell.actor.choice cell.state cell.inboxes

-- Room.

-- the room of a port that nobody reads
abbrev pub unread_room : ℕ
unread_room = 4294967295

-- one number for each output port: at most what its outbox can hold, or the room of a port that nobody reads
pub record AreRooms {X : Type 0} (cell : Cell X) (rooms : List ℕ) : Type 0 where
  pub count : length rooms ≡ cell.actor.outs
  pub read : (p : ℕ) → p < cell.actor.outs → 0 < number_on cell.outbox_capacities p
      → number_on rooms p ≤ number_on cell.outbox_capacities p
  pub unread : (p : ℕ) → p < cell.actor.outs → number_on cell.outbox_capacities p ≡ 0
      → number_on rooms p ≡ unread_room

-- what the outbox of port p holds once action a has fired
abbrev pub held_after : {X : Type 0} → Cell X → ℕ → ℕ → ℕ
held_after cell a p = length (tokens_on cell.outboxes p) + cell.actor.give a p

-- action a has room on each output port
abbrev pub HasRoom : {X : Type 0} → Cell X → List ℕ → ℕ → Type 0
HasRoom cell rooms a = (p : ℕ) → p < cell.actor.outs → held_after cell a p ≤ number_on rooms p

-- p is the first output port whose room is too small for action a
pub record LacksRoomOn {X : Type 0} (cell : Cell X) (rooms : List ℕ) (a p : ℕ) : Type 0 where
  pub there : p < cell.actor.outs
  pub lacks : number_on rooms p < held_after cell a p
  pub first : (q : ℕ) → q < p → held_after cell a q ≤ number_on rooms q

-- What stays.

-- what no call changes
pub record IsSameActor {X : Type 0} (old new : Cell X) : Type 0 where
  pub same_actor : new.actor ≡ old.actor
  pub same_inbox_capacities : (p : ℕ) → p < old.actor.ins
      → number_on new.inbox_capacities p ≡ number_on old.inbox_capacities p
  pub same_outbox_capacities : (p : ℕ) → p < old.actor.outs
      → number_on new.outbox_capacities p ≡ number_on old.outbox_capacities p
  pub same_journal_room : new.journal_room ≡ old.journal_room

abbrev pub SameInboxes : {X : Type 0} → Cell X → Cell X → Type 0
SameInboxes old new = (p : ℕ) → p < old.actor.ins
    → tokens_on new.inboxes p ≡ tokens_on old.inboxes p

abbrev pub SameOutboxes : {X : Type 0} → Cell X → Cell X → Type 0
SameOutboxes old new = (p : ℕ) → p < old.actor.outs
    → tokens_on new.outboxes p ≡ tokens_on old.outboxes p

-- nothing that is seen changes
pub record IsSame {X : Type 0} (old new : Cell X) : Type 0 where
  pub actor : IsSameActor old new
  pub state : new.state ≡ old.state
  pub inboxes : SameInboxes old new
  pub outboxes : SameOutboxes old new
  pub journal : new.journal ≡ old.journal
  pub trapped : new.trapped ≡ old.trapped

-- What fires.

-- action a fires: it takes exactly what it needs and sends exactly what its effect says; what is sent on a
-- port that nobody reads is dropped
pub record FiresTo {X : Type 0} (old : Cell X) (a : ℕ) (new : Cell X) : Type 0 where
  pub next : X
  pub sent : List (List ℤ)
  pub effect : effect_of old a ≡ Some (Fires next sent)
  pub actor : IsSameActor old new
  pub state : new.state ≡ next
  pub taken : (p : ℕ) → p < old.actor.ins
      → tokens_on new.inboxes p ≡ drop (old.actor.need a p) (tokens_on old.inboxes p)
  pub read : (p : ℕ) → p < old.actor.outs → 0 < number_on old.outbox_capacities p
      → tokens_on new.outboxes p ≡ tokens_on old.outboxes p ++ tokens_on sent p
  pub unread : (p : ℕ) → p < old.actor.outs → number_on old.outbox_capacities p ≡ 0
      → tokens_on new.outboxes p ≡ tokens_on old.outboxes p
  pub trapped : new.trapped ≡ old.trapped

-- An action trapped: the mark is set, and what was sent before and waits stays. The state is any.
pub record IsLeftByTrap {X : Type 0} (old new : Cell X) : Type 0 where
  pub actor : IsSameActor old new
  pub inboxes : SameInboxes old new
  pub outboxes : SameOutboxes old new
  pub journal : new.journal ≡ old.journal
  pub trapped : new.trapped ≡ true

-- one firing of a burst: the selected action, which has room; the journal names it
pub record FiresChoice {X : Type 0} (rooms : List ℕ) (old : Cell X) (a : ℕ) (new : Cell X) :
    Type 0 where
  pub chosen : choice_of old ≡ Picks a
  pub room : HasRoom old rooms a
  pub fired : FiresTo old a new
  pub noted : new.journal ≡ old.journal ++ a ∷ []

-- selected firings one after another
abbrev pub FireInTurn : {X : Type 0} → List ℕ → Cell X → List ℕ → Cell X → Type 0
FireInTurn rooms old [] last = old ≡ last
FireInTurn {X} rooms old (a ∷ actions) last =
    (next : Cell X) × FiresChoice rooms old a next × FireInTurn rooms next actions last

-- selection gives an action whose guards trap, or one that has room and then traps
abbrev pub TrapsNow : {X : Type 0} → List ℕ → Cell X → ℕ → TrapName → Type 0
TrapsNow rooms cell a cause = (choice_of cell ≡ Faults a cause)
    ⊎ ((choice_of cell ≡ Picks a) × HasRoom cell rooms a
    × (effect_of cell a ≡ Some (TrapsInBody cause)))

-- Where and why a burst ends, after so many of at most `limit` firings: its number is spent, or of the action
-- that selection gives then.
abbrev pub EndsBurst : {X : Type 0} → List ℕ → ℕ → ℕ → Cell X → BurstEnd → Cell X → Type 0
EndsBurst rooms limit fired last burst.Spent new = (fired ≡ limit) × IsSame last new
EndsBurst rooms limit fired last burst.Waits new = (fired < limit) × (choice_of last ≡ Waits)
    × IsSame last new
EndsBurst rooms limit fired last (burst.NoRoom action port) new =
    (fired < limit) × (choice_of last ≡ Picks action.0) × LacksRoomOn last rooms action.0 port
    × IsSame last new
EndsBurst rooms limit fired last (burst.Trap action cause) new =
    (fired < limit) × TrapsNow rooms last action.0 cause × IsLeftByTrap last new

-- at most `limit` selected firings
pub record Bursts {X : Type 0} (rooms : List ℕ) (limit : ℕ) (old : Cell X) (end : BurstEnd)
    (new : Cell X) : Type 0 where
  pub actions : List ℕ
  pub last : Cell X
  pub few : length actions ≤ limit
  pub fired : FireInTurn rooms old actions last
  pub ends : EndsBurst rooms limit (length actions) last end new

-- what selection gives, and whether it has room
abbrev pub Looks : {X : Type 0} → List ℕ → Cell X → Look → Type 0
Looks rooms cell look.Waits = choice_of cell ≡ Waits
Looks rooms cell (look.Ready action) = (choice_of cell ≡ Picks action.0)
    × HasRoom cell rooms action.0
Looks rooms cell (look.NoRoom action port) =
    (choice_of cell ≡ Picks action.0) × LacksRoomOn cell rooms action.0 port
Looks rooms cell (look.GuardTrap action cause) = choice_of cell ≡ Faults action.0 cause

-- the action is exposed and enabled
abbrev pub IsEnabled : {X : Type 0} → Option (Effect X) → Type 0
IsEnabled (Some (Fires next sent)) = Unit {0}
IsEnabled (Some (TrapsInBody cause)) = Unit {0}
IsEnabled (Some (TrapsInGuard cause)) = ⊥
IsEnabled None = ⊥

-- what a named action does
abbrev pub Tries : {X : Type 0} → List ℕ → ℕ → Cell X → Tried → Cell X → Type 0
Tries rooms a old tried.Fired new = HasRoom old rooms a × FiresTo old a new
    × (new.journal ≡ old.journal)
Tries rooms a old (tried.Trap cause) new =
    ((effect_of old a ≡ Some (TrapsInGuard cause))
    ⊎ (HasRoom old rooms a × (effect_of old a ≡ Some (TrapsInBody cause))))
    × IsLeftByTrap old new
Tries rooms a old tried.NotExposed new = (effect_of old a ≡ None) × IsSame old new
Tries rooms a old (tried.NoRoom port) new =
    IsEnabled (effect_of old a) × LacksRoomOn old rooms a port × IsSame old new

-- What comes in and goes out.

-- a token comes in behind those before port p
pub record Accepts {X : Type 0} (old : Cell X) (p : ℕ) (token : ℤ) (new : Cell X) : Type 0 where
  pub actor : IsSameActor old new
  pub state : new.state ≡ old.state
  pub there : tokens_on new.inboxes p ≡ tokens_on old.inboxes p ++ token ∷ []
  pub elsewhere : (q : ℕ) → q < old.actor.ins → q ≢ p
      → tokens_on new.inboxes q ≡ tokens_on old.inboxes q
  pub outboxes : SameOutboxes old new
  pub journal : new.journal ≡ old.journal
  pub trapped : new.trapped ≡ old.trapped

-- the outboxes and the journal are empty
abbrev pub HasNothingOut : {X : Type 0} → Cell X → Type 0
HasNothingOut cell =
    ((p : ℕ) → p < cell.actor.outs → tokens_on cell.outboxes p ≡ []) × (cell.journal ≡ [])

pub record Clears {X : Type 0} (old new : Cell X) : Type 0 where
  pub actor : IsSameActor old new
  pub state : new.state ≡ old.state
  pub inboxes : SameInboxes old new
  pub empty : HasNothingOut new
  pub trapped : new.trapped ≡ old.trapped

-- each queue holds at most what it can, and an outbox that nobody reads nothing
pub record FitsQueues {X : Type 0} (cell : Cell X) : Type 0 where
  pub inboxes : (p : ℕ) → p < cell.actor.ins
      → length (tokens_on cell.inboxes p) ≤ number_on cell.inbox_capacities p
  pub outboxes : (p : ℕ) → p < cell.actor.outs
      → length (tokens_on cell.outboxes p) ≤ number_on cell.outbox_capacities p
