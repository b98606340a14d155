use Rattle.std.proofs.Common.{◌≡◌, sym, ◌∙◌, rules}
use Rattle.cal_imports.specs.Walk.{Goes, step}
use Rattle.cal_imports.specs.WalkView.{graph_view, walk_view}
use Rattle.cal_imports.proofs.Walks.{step_falls, walked_goes}
use Rattle.cal_imports.proofs.walk.order_from.Goals as goal

pub steps-smaller : goal.steps-smaller
steps-smaller c =
    let goes : step (graph_view c.args.graph) (walk_view c.steps.walk) ≡ Goes (walk_view c.step.new.walk) = search rules in
    step_falls (graph_view c.args.graph) (walk_view c.steps.walk) (walk_view c.step.new.walk) goes

pub steps-preserved : goal.steps-preserved
steps-preserved c =
    let goes : step (graph_view c.args.graph) (walk_view c.steps.walk) ≡ Goes (walk_view c.step.new.walk) = search rules in
    sym (walked_goes (graph_view c.args.graph) (walk_view c.steps.walk) (walk_view c.step.new.walk) goes) ∙ c.steps.invariant
