use Rattle.std.proofs.Common.{◌+◌}
use Rattle.cal_ast.specs.View.{expr_tree}
use Rattle.lower_base.specs.PartView.{places_of}
use Rattle.expr_lower.specs.CounterView.{gens_of}
use Rattle.expr_lower.proofs.Weights.{spread, weight}
use Rattle.expr_lower.proofs.truths.+gives.Given as goal

abbrev pub decreases-gives : goal.decreases-gives
decreases-gives l = weight (expr_tree l.e.now)

abbrev pub decreases-all_give : goal.decreases-all_give
decreases-all_give l = 2 + weight (places_of l.items.now)

abbrev pub decreases-prefix_gives : goal.decreases-prefix_gives
decreases-prefix_gives l = 10 + weight (expr_tree l.of.now)

abbrev pub decreases-binary_gives : goal.decreases-binary_gives
decreases-binary_gives l = 12 + weight (expr_tree l.left.now) + weight (expr_tree l.right.now)

abbrev pub decreases-both_give : goal.decreases-both_give
decreases-both_give l = 10 + weight (expr_tree l.left.now) + weight (expr_tree l.right.now)

abbrev pub decreases-call_gives : goal.decreases-call_gives
decreases-call_gives l = 6 + weight (places_of l.args.now)

abbrev pub decreases-list_gives : goal.decreases-list_gives
decreases-list_gives l = 6 + weight (places_of l.items.now)

abbrev pub decreases-comp_gives : goal.decreases-comp_gives
decreases-comp_gives l = 38 + weight (expr_tree l.item.now) + spread (gens_of l.gens.now)

abbrev pub decreases-under_gens : goal.decreases-under_gens
decreases-under_gens l = 30 + weight (expr_tree l.item.now) + spread (gens_of l.gens.now)

abbrev pub decreases-under_gen : goal.decreases-under_gen
decreases-under_gen l = 35 + weight (expr_tree l.item.now) + spread (gens_of l.rest.now)

abbrev pub decreases-under_counter : goal.decreases-under_counter
decreases-under_counter l = 33 + weight (expr_tree l.item.now) + spread (gens_of l.rest.now)

abbrev pub decreases-item_gives : goal.decreases-item_gives
decreases-item_gives l = 10 + weight (expr_tree l.base.now)
