use Rattle.std.proofs.Common.{◌≡◌, ◌≤◌, ◌+◌, ◌++◌, drop, map}
use Rattle.cal_model.specs.Sound.{Each, max_variable_scalars, scalars_of_vars}
use Rattle.cal_model.specs.Value.{IsOf, IsType}
use Rattle.cal_model.specs.View.{var_view}
use Rattle.lower_base.specs.Names.{names_view}
use Rattle.action_lower.specs.Seats.{var_seats}
use Rattle.action_lower.proofs.seats.put_vars.Given as goal

abbrev pub invariant-loop-x : goal.invariant-loop-x
invariant-loop-x l = (names_view l.names.items ++ var_seats l.cell (map var_view (drop l.x-index l.vars)) ≡ names_view l.initial.names.items ++ var_seats 0 (map var_view l.vars))
    × (l.cell + scalars_of_vars (map var_view (drop l.x-index l.vars)) ≤ max_variable_scalars)
    × Each (λ x. IsType x.shape × IsOf x.shape x.value) (map var_view (drop l.x-index l.vars))
