use Rattle.std.proofs.Common.{◌≡◌, ◌≤◌, map, length}
use Rattle.cal_model.specs.View.{in_order, kind_view, value_view}
use Rattle.cal_check.specs.Constants.{are_like_values}
use Rattle.check_values.proofs.Sizes.{value_size, values_size}
use Rattle.check_values.proofs.fitting.+like.Given as goal

abbrev pub invariant-are_like_values-items : goal.invariant-are_like_values-items
invariant-are_like_values-items l = record {
  same : are_like_values (kind_view l.k) (in_order (map value_view l.rest)) ≡ are_like_values (kind_view l.k) (in_order (map value_view l.initial.rest));
  smaller : values_size (in_order (map value_view l.rest)) ≤ values_size (in_order (map value_view l.initial.rest));
}

abbrev pub decreases-are_like_values-items : goal.decreases-are_like_values-items
decreases-are_like_values-items l = length l.rest

abbrev pub decreases-is_like_value : goal.decreases-is_like_value
decreases-is_like_value l = value_size (value_view l.value.now)

abbrev pub decreases-are_like_values : goal.decreases-are_like_values
decreases-are_like_values l = values_size (in_order (map value_view l.values.now))
