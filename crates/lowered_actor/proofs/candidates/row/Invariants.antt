use Rattle.std.proofs.Common.{◌≡◌, take}
use Rattle.lowered_actor.specs.Candidates.{eligible_among}
use Rattle.lowered_actor.proofs.candidates.row.Given as goal

abbrev pub invariant-loop-action : goal.invariant-loop-action
invariant-loop-action l = l.row.items ≡ eligible_among l.fsm l.state (take l.action-index l.line)
