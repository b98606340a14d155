use Rattle.std.proofs.Common.{◌≡◌, ◌≤◌, map, length}
use Rattle.cal_model.specs.View.{in_order, value_view}
use Rattle.check_leaves.specs.Equal.{are_equal}
use Rattle.check_leaves.proofs.Sizes.{value_size, values_size}
use Rattle.check_leaves.proofs.values.+equal.Given as goal

abbrev pub invariant-are_equal-items : goal.invariant-are_equal-items
invariant-are_equal-items l = record {
  same : are_equal (in_order (map value_view l.rest)) (in_order (map value_view l.left))
      ≡ are_equal (in_order (map value_view l.initial.rest)) (in_order (map value_view l.initial.left));
  smaller : values_size (in_order (map value_view l.rest)) ≤ values_size (in_order (map value_view l.initial.rest));
}

abbrev pub decreases-are_equal-items : goal.decreases-are_equal-items
decreases-are_equal-items l = length l.rest

abbrev pub decreases-is_equal : goal.decreases-is_equal
decreases-is_equal l = value_size (value_view l.value.now)

abbrev pub decreases-are_equal : goal.decreases-are_equal
decreases-are_equal l = values_size (in_order (map value_view l.values.now))
