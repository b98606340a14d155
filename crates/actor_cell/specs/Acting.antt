-- One firing of a cell.
-- Not trusted: no promise is read with it.
use Rattle.std.specs.Prelude.{◌≡◌, ℕ, ◌<◌, true, List, [], ℤ, None, Some, slice_get}
use Rattle.rvc_base.specs.declared.trap.Trap.{Trap as TrapName}
use Rattle.rvc_base.specs.Behaviour.{Fires, TrapsInBody, TrapsInGuard}
use Rattle.lowered_actor.specs.Actor.{Action, Actor}
use Rattle.lowered_actor.specs.Meaning.{ActorState, is_eligible, has_its_tokens, sent_from, effect_of_body, next, give}
use Rattle.guard_select.specs.Selecting.{state_of}
use Rattle.guard_select.specs.declared.guards.Ready.{Ready}
use Rattle.guard_select.specs.declared.guards.Ready.TheVariants as ready
use Rattle.net_model.specs.declared.firing.BurstEnd.{BurstEnd}
use Rattle.net_model.specs.Cell.{Cell, effect_of, IsEnabled, IsLeftByTrap, FiresChoice, EndsBurst}
use Rattle.actor_cell.specs.Queues.{HasRoomFor, queue_on, tokens_before}
use Rattle.actor_cell.specs.Core.{Core, seen, state_in}

-- what an action leaves in its cells to be sent, port by port
abbrev pub sent_of : Actor → ℕ → List ℤ → List (List ℤ)
sent_of actor a cells = elim (slice_get actor.actions a) [
  | None ↦ []
  | Some action ↦ sent_from action cells 0 actor.outs
]

-- an action that is there, is eligible in the state and has its tokens
pub record IsAble (actor : Actor) (at : ℕ) (tokens : ℕ → List ℤ) (a : ℕ) : Type 0 where
  pub action : Action
  pub there : slice_get actor.actions a ≡ Some action
  pub eligible : is_eligible actor at a ≡ true
  pub has : has_its_tokens actor tokens a ≡ true

-- its locals, body and outputs were evaluated: the cells hold the new state and the tokens to send
abbrev pub IsDone : Actor → ℕ → ℕ → (ℕ → List ℤ) → List ℤ → List ℤ → Type 0
IsDone actor at a tokens old new =
    effect_of_body actor (state_of actor at old) tokens a
    ≡ Some (Fires (state_of actor (next actor at a) new) (sent_of actor a new))

-- they trap
abbrev pub IsCutOff : Actor → ℕ → ℕ → (ℕ → List ℤ) → List ℤ → TrapName → Type 0
IsCutOff actor at a tokens old cause =
    effect_of_body actor (state_of actor at old) tokens a ≡ Some (TrapsInBody cause)

-- An action of a cell that is exposed and enabled: what it does is what its locals, body and outputs come to.
pub record IsToFire (core : Core) (a : ℕ) : Type 0 where
  pub able : IsAble core.actor core.at (tokens_before core.inboxes) a
  pub effect : effect_of (seen core) a
      ≡ effect_of_body core.actor (state_in core) (tokens_before core.inboxes) a
  pub acts : IsEnabled (effect_of (seen core) a)

-- what is known of a named action by what its guards say; one that isn't exposed counts as false
abbrev pub IsAsked : Core → ℕ → Ready → Type 0
IsAsked core a ready.True = IsToFire core a
IsAsked core a ready.False = effect_of (seen core) a ≡ None
IsAsked core a (ready.Trap cause) = effect_of (seen core) a ≡ Some (TrapsInGuard cause)

-- an output port has room for what action a gives
abbrev pub HasRoomToSend : Core → ℕ → Type 0
HasRoomToSend core a = (p : ℕ) → p < core.actor.outs
    → HasRoomFor (queue_on core.outboxes p) (give core.actor a p)

-- a turn of a burst: the selected action fires, and the journal names it
abbrev pub HasTurned : List ℕ → Cell ActorState → Cell ActorState → Type 0
HasTurned rooms old new = (a : ℕ) × FiresChoice rooms old a new

-- no action fires any more
abbrev pub HasEnded : List ℕ → Cell ActorState → BurstEnd → Cell ActorState → Type 0
HasEnded rooms old end new = EndsBurst rooms 1 0 old end new

-- the body of action a traps
abbrev pub TrapsInside : Core → ℕ → TrapName → Core → Type 0
TrapsInside old a cause new = (effect_of (seen old) a ≡ Some (TrapsInBody cause))
    × IsLeftByTrap (seen old) (seen new)
