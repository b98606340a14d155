use Rattle.std.proofs.Common.{◌≡◌, map, drop}
use Rattle.std.specs.Prelude.{option_map}
use Rattle.cal_model.specs.Certified.{all_scalars_range}
use Rattle.cal_model.specs.View.{in_order, value_view}
use Rattle.determinacy_cert.specs.Deciding.{joined}
use Rattle.determinacy_cert.specs.Viewing.{interval_view}
use Rattle.determinacy_cert.proofs.found.+scalars.Given as goal

abbrev pub invariant-all_scalars-loop-value : goal.invariant-all_scalars-loop-value
invariant-all_scalars-loop-value l =
    joined (option_map interval_view l.found) (all_scalars_range (in_order (map value_view (drop l.value-index l.value-items)))) ≡ all_scalars_range (in_order (map value_view l.value-items))
