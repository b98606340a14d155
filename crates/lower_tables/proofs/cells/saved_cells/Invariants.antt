use Rattle.std.proofs.Common.{◌≡◌, ◌≤◌, ◌+◌, ◌++◌, drop, map}
use Rattle.cal_model.specs.Sound.{Each, max_variable_scalars, scalars_of_vars}
use Rattle.cal_model.specs.Value.{IsOf, IsType}
use Rattle.cal_model.specs.View.{var_view}
use Rattle.lower_tables.specs.Tables.{saved_from}
use Rattle.lower_tables.proofs.cells.saved_cells.Given as goal

abbrev pub invariant-loop-x : goal.invariant-loop-x
invariant-loop-x l = (l.saved.items ++ saved_from l.cell (map var_view (drop l.x-index l.vars)) ≡ saved_from 0 (map var_view l.vars))
    × (l.cell + scalars_of_vars (map var_view (drop l.x-index l.vars)) ≤ max_variable_scalars)
    × Each (λ x. IsType x.shape × IsOf x.shape x.value) (map var_view (drop l.x-index l.vars))
