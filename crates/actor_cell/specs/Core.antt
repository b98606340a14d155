-- What a cell keeps, and what networks see of it.
-- Trusted but for `IsUntouched`: part of what a promise means.
use Rattle.std.specs.Prelude.{◌≡◌, ℕ, ◌<◌, Bool, false, List, [], length}
use Rattle.rvc_base.specs.Lawful.{tokens_on}
use Rattle.action_machine.specs.Kept.{Kept, IsMadeFor}
use Rattle.token_ring.specs.Queue.{Queue}
use Rattle.lowered_actor.specs.Actor.{Actor}
use Rattle.lowered_actor.specs.Meaning.{ActorState, behaviour, start_of}
use Rattle.guard_select.specs.Selecting.{state_of}
use Rattle.net_model.specs.Cell.{Cell, number_on}
use Rattle.actor_cell.specs.Queues.{tokens_of, capacities_of, AreWithin}

pub record Core : Type 0 where
  pub actor : Actor
  -- the state of the schedule, and the cells of its code
  pub at : ℕ
  pub cells : Kept
  -- the queues before its inputs and behind its outputs; one for no token behind an output that nobody reads
  pub inboxes : List Queue
  pub outboxes : List Queue
  pub journal : List ℕ
  pub journal_room : ℕ
  pub trapped : Bool

abbrev pub state_in : Core → ActorState
state_in core = state_of core.actor core.at core.cells.numbers

-- what networks see: the meaning of the lowered actor, its state, its queues and its journal
abbrev pub seen : Core → Cell ActorState
seen core = record {
  actor = behaviour core.actor;
  state = state_in core;
  inboxes = tokens_of core.inboxes;
  outboxes = tokens_of core.outboxes;
  inbox_capacities = capacities_of core.inboxes;
  outbox_capacities = capacities_of core.outboxes;
  journal = core.journal;
  journal_room = core.journal_room;
  trapped = core.trapped;
}

-- what holds of every cell
pub record IsSound (core : Core) : Type 0 where
  pub made : IsMadeFor core.actor.code core.cells
  pub state : core.at < core.actor.fsm.states
  pub ins : length core.inboxes ≡ core.actor.ins
  pub outs : length core.outboxes ≡ core.actor.outs
  pub waiting : AreWithin core.inboxes
  pub sent : AreWithin core.outboxes

-- A cell of this actor before its first firing, as networks see it: in its first state, with empty queues of these
-- capacities, and with an empty journal that has room for so many firings.
pub record IsAtStart (actor : Actor) (ins outs : List ℕ) (burst : ℕ) (cell : Cell ActorState) :
    Type 0 where
  pub is_of : cell.actor ≡ behaviour actor
  pub state : cell.state ≡ start_of actor
  pub nothing_in : (p : ℕ) → p < actor.ins → tokens_on cell.inboxes p ≡ []
  pub nothing_out : (p : ℕ) → p < actor.outs → tokens_on cell.outboxes p ≡ []
  pub inbox_capacities : (p : ℕ) → p < actor.ins
      → number_on cell.inbox_capacities p ≡ number_on ins p
  pub outbox_capacities : (p : ℕ) → p < actor.outs
      → number_on cell.outbox_capacities p ≡ number_on outs p
  pub journal : cell.journal ≡ []
  pub journal_room : cell.journal_room ≡ burst
  pub untrapped : cell.trapped ≡ false

-- Nothing but cells behind the state cells changed.
pub record IsUntouched (old new : Core) : Type 0 where
  pub parts : new ≡ record old { cells = new.cells }
  pub state : state_in new ≡ state_in old
