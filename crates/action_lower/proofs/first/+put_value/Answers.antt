use Rattle.std.proofs.Common.{◌≡◌, ◌∙◌, ◌++◌, ap, map, rules, sym}
use Rattle.cal_model.specs.View.{in_order, value_view, values_view}
use Rattle.cal_model.specs.declared.value.Value as values
use Rattle.lower_base.specs.Flat.{flat_all}
use Rattle.action_lower.proofs.FirstCells.{values-all, values-more}
use Rattle.action_lower.proofs.first.+put_value.Goals as goal

pub put_values-loop-value-preserved : goal.put_values-loop-value-preserved
put_values-loop-value-preserved t c =
    values-more value_view c.deref-value-items.result.now c.value-item.result c.loop-value.value-index c.args.cells.now.items c.loop-value.cells.items c.put_value.new.cells.items
    c.loop-value-test.true c.value-item.is c.loop-value.invariant c.in_ok-put_value.ensures

pub put_values-returns : goal.put_values-returns
put_values-returns t c =
    let view : values_view c.args.values.now ≡ in_order (map value_view c.deref-value-items.result.now) = search (rules, values.the_lemmas) in
    values-all value_view c.deref-value-items.result.now c.loop-value.value-index c.args.cells.now.items c.loop-value.cells.items c.loop-value-test.false c.loop-value.invariant
    ∙ ap (λ vs. c.args.cells.now.items ++ flat_all vs) (sym view)
