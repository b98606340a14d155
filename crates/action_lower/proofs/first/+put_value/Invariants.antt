use Rattle.std.proofs.Common.{◌≡◌, ◌++◌, map, take}
use Rattle.cal_model.specs.View.{in_order, value_view}
use Rattle.lower_base.specs.Flat.{flat_all}
use Rattle.action_lower.proofs.first.+put_value.Given as goal

abbrev pub invariant-put_values-loop-value : goal.invariant-put_values-loop-value
invariant-put_values-loop-value l = l.cells.items ≡ l.initial.cells.items ++ flat_all (in_order (map value_view (take l.value-index l.value-items)))
