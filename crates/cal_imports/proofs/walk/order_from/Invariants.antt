use Rattle.std.proofs.Common.{◌≡◌}
use Rattle.cal_imports.specs.Walk.{steps_left, walked}
use Rattle.cal_imports.specs.WalkView.{graph_view, walk_view}
use Rattle.cal_imports.proofs.walk.order_from.Given as goal

abbrev pub invariant-steps : goal.invariant-steps
invariant-steps l = walked (graph_view l.graph) (walk_view l.walk) ≡ walked (graph_view l.graph) (walk_view l.initial.walk)

abbrev pub decreases-steps : goal.decreases-steps
decreases-steps l = steps_left (graph_view l.graph) (walk_view l.walk)
