use Rattle.cal_model.specs.View.{shape_view}
use Rattle.check_values.proofs.Lists.{stored_list}
use Rattle.check_values.proofs.storing.+stored.Goals as goal

pub stored_each-returns : goal.stored_each-returns
stored_each-returns t c = stored_list (shape_view c.args.t.now) c.args.values.now c.loop-value.items.items c.loop-value.value-index c.loop-value-test.false c.loop-value.invariant
