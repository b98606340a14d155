use Rattle.std.proofs.Common.{◌≡◌, ◌+◌, drop, map}
use Rattle.cal_model.specs.Sound.{Each, scalars_of_vars}
use Rattle.cal_model.specs.Value.{IsOf, IsType}
use Rattle.cal_model.specs.View.{var_view}
use Rattle.lower_tables.proofs.cells.cell_count.Given as goal

abbrev pub invariant-loop-x : goal.invariant-loop-x
invariant-loop-x l = (l.count + scalars_of_vars (map var_view (drop l.x-index l.vars)) ≡ scalars_of_vars (map var_view l.vars))
    × Each (λ x. IsType x.shape × IsOf x.shape x.value) (map var_view (drop l.x-index l.vars))
