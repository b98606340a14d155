use Rattle.std.proofs.Common.{◌+◌, map}
use Rattle.cal_ast.specs.Tree.{listed}
use Rattle.cal_ast.specs.View.{type_arg_tree, type_tree}
use Rattle.expr_lower.proofs.TypeWeights.{type_weight}
use Rattle.expr_lower.proofs.meanings.+shape_meant.Given as goal

abbrev pub decreases-shape_meant : goal.decreases-shape_meant
decreases-shape_meant l = type_weight (type_tree l.shape.now)

abbrev pub decreases-items_of_type : goal.decreases-items_of_type
decreases-items_of_type l = 3 + type_weight (listed (map type_arg_tree l.args.now))

abbrev pub decreases-two_args : goal.decreases-two_args
decreases-two_args l = 2 + type_weight (type_arg_tree l.first.now) + type_weight (type_arg_tree l.second.now)

abbrev pub decreases-many_meant : goal.decreases-many_meant
decreases-many_meant l = 1 + type_weight (type_tree l.items.now)
