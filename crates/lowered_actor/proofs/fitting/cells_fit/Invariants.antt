use Rattle.std.proofs.Common.{ℕ, ◌<◌, ◌≤◌, ◌+◌, length}
use Rattle.lowered_actor.specs.Actor.{number_on}
use Rattle.lowered_actor.proofs.fitting.cells_fit.Given as goal

abbrev pub invariant-loop-p : goal.invariant-loop-p
invariant-loop-p l = (p : ℕ) → p < l.p → p < length l.action.sends.items
    → number_on l.action.sends.items p + number_on l.action.gives.items p ≤ l.parts.code.cells
