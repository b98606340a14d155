use Rattle.std.proofs.Common.{◌≡◌, map, take}
use Rattle.cal_model.specs.Selection.{first_vars}
use Rattle.cal_model.specs.View.{var_view}
use Rattle.action_lower.specs.Seats.{numbers_of_vars}
use Rattle.action_lower.proofs.first.first_cells.Given as goal

abbrev pub invariant-loop-x : goal.invariant-loop-x
invariant-loop-x l = l.cells.items ≡ numbers_of_vars (first_vars (map var_view (take l.x-index l.x-items)))
