use Rattle.std.proofs.Common.{◌≡◌, map}
use Rattle.cal_model.specs.Value.{repeated, zero_of}
use Rattle.cal_model.specs.View.{in_order, shape_view, value_view}
use Rattle.const_env.proofs.value.+zero.Given as goal

abbrev pub invariant-zeros-loop-place : goal.invariant-zeros-loop-place
invariant-zeros-loop-place l = in_order (map value_view l.items.items) ≡ repeated l._place (zero_of (shape_view l.t))
