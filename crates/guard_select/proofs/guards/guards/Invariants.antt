use Rattle.std.proofs.Common.{◌≡◌, take, drop}
use Rattle.action_machine.specs.Kept.{IsMadeFor}
use Rattle.lowered_actor.specs.Meaning.{guards_say, cells_of, taken}
use Rattle.guard_select.specs.Selecting.{state_of}
use Rattle.guard_select.proofs.guards.guards.Given as goal

-- the guards so far are true, and the state cells hold what they did
abbrev pub invariant-loop-entry : goal.invariant-loop-entry
invariant-loop-entry g l = record {
  made : IsMadeFor l.actor.code l.cells;
  state : take l.actor.kept l.cells.numbers ≡ take l.actor.kept l.initial.cells.numbers;
  says : guards_say l.actor.code (cells_of l.actor (state_of l.actor l.state l.initial.cells.numbers)) (taken l.actor (g.T.Tokens.tokens l.tokens) l.a) (drop l.entry-index l.entry-items)
      ≡ guards_say l.actor.code (cells_of l.actor (state_of l.actor l.state l.initial.cells.numbers)) (taken l.actor (g.T.Tokens.tokens l.tokens) l.a) l.entry-items;
}
