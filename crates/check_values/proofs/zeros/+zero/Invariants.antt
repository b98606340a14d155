use Rattle.std.proofs.Common.{◌≡◌, map}
use Rattle.cal_model.specs.Value.{repeated, zero_of}
use Rattle.cal_model.specs.View.{in_order, shape_view, value_view}
use Rattle.check_values.proofs.zeros.+zero.Given as goal

abbrev pub invariant-zero_items-loop-place : goal.invariant-zero_items-loop-place
invariant-zero_items-loop-place l = in_order (map value_view l.items.items) ≡ repeated l._place (zero_of (shape_view l.t))
