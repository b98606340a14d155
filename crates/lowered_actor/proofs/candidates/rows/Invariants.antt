use Rattle.lowered_actor.specs.Candidates.{AreRows}
use Rattle.lowered_actor.proofs.candidates.rows.Given as goal

abbrev pub invariant-loop-state : goal.invariant-loop-state
invariant-loop-state l = AreRows l.fsm l.line l.state l.rows.items
