use Rattle.std.proofs.Common.{◌≡◌, map, take}
use Rattle.cal_model.specs.Value.{stored}
use Rattle.cal_model.specs.View.{shape_view, value_view}
use Rattle.check_values.proofs.storing.+stored.Given as goal

abbrev pub invariant-stored_each-loop-value : goal.invariant-stored_each-loop-value
invariant-stored_each-loop-value l = map value_view l.items.items ≡ map (λ v. stored (shape_view l.t) (value_view v)) (take l.value-index l.values)
