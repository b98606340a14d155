use Rattle.std.proofs.Common.{◌≡◌, drop}
use Rattle.lowered_actor.specs.Meaning.{readiness, choice_among}
use Rattle.guard_select.specs.Selecting.{state_of, KeepsState}
use Rattle.lowered_actor.specs.Candidates.{eligible_among}
use Rattle.guard_select.proofs.choosing.select.Given as goal

-- the actions so far have false guards, and the state cells hold what they did
abbrev pub invariant-loop-a : goal.invariant-loop-a
invariant-loop-a g l = record {
  keeps : KeepsState l.actor l.initial.cells l.cells;
  chosen : choice_among (readiness l.actor (state_of l.actor l.state l.initial.cells.numbers) (g.T.Tokens.tokens l.tokens)) (drop l.a-index (eligible_among l.actor.fsm l.state l.actor.order.line))
      ≡ choice_among (readiness l.actor (state_of l.actor l.state l.initial.cells.numbers) (g.T.Tokens.tokens l.tokens)) (eligible_among l.actor.fsm l.state l.actor.order.line);
}
