use Rattle.std.proofs.Common.{◌≡◌, ◌≤◌, length, take}
use Rattle.cal_model.specs.Selection.{start_of}
use Rattle.cal_model.specs.View.{actor_of}
use Rattle.action_lower.specs.Seats.{numbers_of_vars, state_cells}
use Rattle.lower_actor.proofs.code.first_numbers.Given as goal

abbrev pub invariant-loop-k : goal.invariant-loop-k
invariant-loop-k l = (take (state_cells (actor_of l.b)) l.first.items ≡ numbers_of_vars (start_of (actor_of l.b)).vars)
    × (state_cells (actor_of l.b) ≤ length l.first.items)
    × (length l.first.items ≡ l._k)
