use Rattle.std.proofs.Common.{◌≡◌, drop}
use Rattle.lowered_actor.specs.Meaning.{readiness, is_outranked}
use Rattle.guard_select.specs.Selecting.{state_of, KeepsState}
use Rattle.lowered_actor.specs.Candidates.{eligible_among}
use Rattle.guard_select.proofs.exposing.is_exposed.Given as goal

-- none of the actions so far is above this one and enabled, and the state cells hold what they did
abbrev pub invariant-loop-b : goal.invariant-loop-b
invariant-loop-b g l = record {
  keeps : KeepsState l.actor l.initial.cells l.cells;
  outranked : is_outranked l.actor (readiness l.actor (state_of l.actor l.state l.initial.cells.numbers) (g.T.Tokens.tokens l.tokens)) l.a (drop l.b-index (eligible_among l.actor.fsm l.state l.actor.order.line))
      ≡ is_outranked l.actor (readiness l.actor (state_of l.actor l.state l.initial.cells.numbers) (g.T.Tokens.tokens l.tokens)) l.a (eligible_among l.actor.fsm l.state l.actor.order.line);
}
