-- A lowered actor, as contracts see it.
-- Trusted: part of what a promise means.
use Rattle.std.specs.Prelude.{ℕ, ℤ, List, map, slice_index_or}
use Rattle.code_ir.specs.Code.{Code}
use Rattle.schedule_fsm.specs.Automaton.{Automaton}
use Rattle.priority_order.specs.Ranking.{Ranking}
use Rattle.lowered_actor.specs.declared.parts.ActionCode.{ActionCode}
use Rattle.lowered_actor.specs.declared.parts.StateCell.{StateCell}
use Rattle.lowered_actor.specs.declared.parts.Parts.{Parts}

pub record Action : Type 0 where
  -- how many tokens it takes from each input port, and sends on each output port
  pub needs : List ℕ
  pub gives : List ℕ
  -- the entries of its guards, in the order in which they are asked, and that of its firing
  pub guards : List ℕ
  pub fire : ℕ
  -- for each output port the first of the cells that hold the tokens to send, once the firing is done
  pub sends : List ℕ

pub record Actor : Type 0 where
  pub code : Code
  pub fsm : Automaton
  pub order : Ranking
  pub actions : List Action
  -- what each cell holds at first, and how many of them, from cell 0 on, are state cells
  pub first : List ℤ
  pub kept : ℕ
  -- the first state of the schedule
  pub start : ℕ
  -- the state cells that a firing may change
  pub saved : List StateCell
  pub ins : ℕ
  pub outs : ℕ

abbrev pub action_of : ActionCode → Action
action_of action = record {
  needs = action.needs.items;
  gives = action.gives.items;
  guards = action.guards.items;
  fire = action.fire;
  sends = action.sends.items;
}

abbrev pub actor_of : Parts → Actor
actor_of parts = record {
  code = parts.code;
  fsm = parts.fsm;
  order = parts.order;
  actions = map action_of parts.actions.items;
  first = parts.first.items;
  kept = parts.kept;
  start = parts.start;
  saved = parts.saved.items;
  ins = parts.ins;
  outs = parts.outs;
}

-- the number for port p
abbrev pub number_on : List ℕ → ℕ → ℕ
number_on numbers p = slice_index_or numbers p 0
