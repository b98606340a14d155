use Rattle.std.proofs.Common.{◌≡◌, ◌≤◌, map, ◌+◌}
use Rattle.cal_ast.specs.Tree.{listed}
use Rattle.cal_ast.specs.View.{type_arg_tree, type_tree}
use Rattle.const_env.specs.Counting.{names_view}
use Rattle.cal_check.specs.Written.{written}
use Rattle.check_fold.proofs.Onto.{onto}
use Rattle.check_fold.proofs.Sizes.{size}
use Rattle.check_fold.proofs.types.+types.Given as goal

abbrev pub invariant-type_args-each : goal.invariant-type_args-each
invariant-type_args-each l =
    (onto (map type_arg_tree l.found.items) (written (listed (map type_arg_tree l.rest)) (names_view l.names)) ≡ written (listed (map type_arg_tree l.args)) (names_view l.names))
    × (size (listed (map type_arg_tree l.rest)) ≤ size (listed (map type_arg_tree l.args)))

abbrev pub decreases-type_expr : goal.decreases-type_expr
decreases-type_expr l = size (type_tree l.t.now)

abbrev pub decreases-type_args : goal.decreases-type_args
decreases-type_args l = 2 + size (listed (map type_arg_tree l.args.now))

abbrev pub decreases-type_args-each : goal.decreases-type_args-each
decreases-type_args-each l = size (listed (map type_arg_tree l.rest))

abbrev pub decreases-type_arg : goal.decreases-type_arg
decreases-type_arg l = size (type_arg_tree l.arg.now)

abbrev pub decreases-shape_arg : goal.decreases-shape_arg
decreases-shape_arg l = 4 + size (type_tree l.shape.now)
