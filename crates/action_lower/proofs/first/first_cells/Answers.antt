use Rattle.std.proofs.Common.{◌≡◌, ◌∙◌, ap, map}
use Rattle.cal_model.specs.Selection.{first_vars, start_of}
use Rattle.cal_model.specs.View.{actor_of, var_view}
use Rattle.action_lower.specs.Seats.{numbers_of_vars}
use Rattle.action_lower.proofs.FirstCells.{first-hold, first-size, vars-all, vars-more}
use Rattle.action_lower.proofs.first.first_cells.Goals as goal

pub loop-x-preserved : goal.loop-x-preserved
loop-x-preserved c =
    vars-more var_view c.deref-x-items.result.now c.x-item.result c.loop-x.x-index c.loop-x.cells.items c.put_value.new.cells.items
    c.loop-x-test.true c.x-item.is c.loop-x.invariant c.in_ok-put_value.ensures

pub returns-clause-size : goal.returns-clause-size
returns-clause-size c =
    let whole : c.loop-x.cells.items ≡ numbers_of_vars (start_of (actor_of c.args.b.now)).vars =
    vars-all var_view c.deref-x-items.result.now c.loop-x.x-index c.loop-x.cells.items c.loop-x-test.false c.loop-x.invariant ∙ ap (λ xs. numbers_of_vars (first_vars (map var_view xs))) c.deref-x-items.ensures.value in
    first-size (actor_of c.args.b.now) c.loop-x.cells.items c.requires.sound whole

pub returns-clause-hold : goal.returns-clause-hold
returns-clause-hold c =
    let whole : c.loop-x.cells.items ≡ numbers_of_vars (start_of (actor_of c.args.b.now)).vars =
    vars-all var_view c.deref-x-items.result.now c.loop-x.x-index c.loop-x.cells.items c.loop-x-test.false c.loop-x.invariant ∙ ap (λ xs. numbers_of_vars (first_vars (map var_view xs))) c.deref-x-items.ensures.value in
    first-hold (actor_of c.args.b.now) c.loop-x.cells.items c.requires.sound whole
