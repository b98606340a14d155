use Rattle.std.proofs.Common.{◌≡◌, map, take}
use Rattle.cal_model.specs.View.{value_view}
use Rattle.check_values.proofs.copied.+copy.Given as goal

abbrev pub invariant-copy_all-loop-value : goal.invariant-copy_all-loop-value
invariant-copy_all-loop-value l = map value_view l.items.items ≡ map value_view (take l.value-index l.value-items)
