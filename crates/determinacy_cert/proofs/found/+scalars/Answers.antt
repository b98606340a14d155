use Rattle.std.proofs.Common.{◌≡◌, ◌∙◌, arith, rules}
use Rattle.std.specs.Prelude.{option_map}
use Rattle.cal_model.specs.Certified.{all_scalars_range}
use Rattle.cal_model.specs.View.{values_view}
use Rattle.cal_model.specs.declared.value.Values as values
use Rattle.determinacy_cert.specs.Viewing.{interval_view}
use Rattle.determinacy_cert.proofs.ScalarRanges.{scalars_next, scalars_end, scalars_of}
use Rattle.determinacy_cert.proofs.found.+scalars.Goals as goal

pub all_scalars-loop-value-preserved : goal.all_scalars-loop-value-preserved
all_scalars-loop-value-preserved t c =
    scalars_next c.deref-value-items.result.now c.loop-value.value-index c.value-item.result
    (option_map interval_view c.loop-value.found) (option_map interval_view c.scalars.result) (option_map interval_view c.either-found.result) _
    (omega arith) c.value-item.is c.scalars.ensures c.either-found.ensures c.loop-value.invariant

pub all_scalars-returns : goal.all_scalars-returns
all_scalars-returns t c =
    let whole : scalars_of c.deref-value-items.result.now ≡ all_scalars_range (values_view c.args.values.now) = search (rules, values.the_lemmas) in
    scalars_end c.deref-value-items.result.now c.loop-value.value-index (option_map interval_view c.loop-value.found) _ c.loop-value-test.false c.loop-value.invariant ∙ whole
