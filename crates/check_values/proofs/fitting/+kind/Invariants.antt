use Rattle.std.proofs.Common.{◌≡◌, ◌≤◌, map, length}
use Rattle.cal_model.specs.View.{in_order, kind_view, value_view}
use Rattle.cal_check.specs.Constants.{have_kind}
use Rattle.check_values.proofs.Sizes.{value_size, values_size}
use Rattle.check_values.proofs.fitting.+kind.Given as goal

abbrev pub invariant-have_kind-items : goal.invariant-have_kind-items
invariant-have_kind-items l = record {
  same : have_kind (kind_view l.k) (in_order (map value_view l.rest)) ≡ have_kind (kind_view l.k) (in_order (map value_view l.initial.rest));
  smaller : values_size (in_order (map value_view l.rest)) ≤ values_size (in_order (map value_view l.initial.rest));
}

abbrev pub decreases-have_kind-items : goal.decreases-have_kind-items
decreases-have_kind-items l = length l.rest

abbrev pub decreases-has_kind : goal.decreases-has_kind
decreases-has_kind l = value_size (value_view l.value.now)

abbrev pub decreases-have_kind : goal.decreases-have_kind
decreases-have_kind l = values_size (in_order (map value_view l.values.now))
