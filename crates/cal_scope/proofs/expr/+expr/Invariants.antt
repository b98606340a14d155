use Rattle.std.proofs.Common.{map, ◌+◌}
use Rattle.cal_ast.specs.Tree.{listed}
use Rattle.cal_ast.specs.View.{expr_tree, gen_tree, type_arg_tree, type_tree}
use Rattle.cal_scope.specs.View.{names_view}
use Rattle.cal_scope.proofs.Each.{expr_part, gen_next, gen_part, stay, type_arg_part}
use Rattle.cal_scope.proofs.Loops.{IsJudgedUpTo}
use Rattle.cal_scope.proofs.Weights.{size}
use Rattle.cal_scope.proofs.expr.+expr.Given as goal

abbrev pub invariant-exprs-loop-e : goal.invariant-exprs-loop-e
invariant-exprs-loop-e l = IsJudgedUpTo expr_part stay (map expr_tree l.found.items) l.e-index l.exprs (names_view l.names) (names_view l.names)

abbrev pub invariant-generators-loop-g : goal.invariant-generators-loop-g
invariant-generators-loop-g l = IsJudgedUpTo (gen_part (names_view l.names)) gen_next (map gen_tree l.found.items) l.g-index l.gens l.here l.initial.here

abbrev pub invariant-type_args-loop-arg : goal.invariant-type_args-loop-arg
invariant-type_args-loop-arg l = IsJudgedUpTo type_arg_part stay (map type_arg_tree l.found.items) l.arg-index l.args (names_view l.names) (names_view l.names)

-- how large the parts are, and a rank among the functions

abbrev pub decreases-expr : goal.decreases-expr
decreases-expr l = size (expr_tree l.e.now)

abbrev pub decreases-if_expr : goal.decreases-if_expr
decreases-if_expr l = 4 + size (expr_tree l.test.now) + size (expr_tree l.yes.now) + size (expr_tree l.no.now)

abbrev pub decreases-index : goal.decreases-index
decreases-index l = 4 + size (expr_tree l.base.now) + size (expr_tree l.place.now)

abbrev pub decreases-binary : goal.decreases-binary
decreases-binary l = 4 + size (expr_tree l.left.now) + size (expr_tree l.right.now)

abbrev pub decreases-paren : goal.decreases-paren
decreases-paren l = 4 + size (expr_tree l.inner.now)

abbrev pub decreases-prefix : goal.decreases-prefix
decreases-prefix l = 4 + size (expr_tree l.of.now)

abbrev pub decreases-list : goal.decreases-list
decreases-list l = 4 + size (listed (map expr_tree l.items.now))

abbrev pub decreases-call : goal.decreases-call
decreases-call l = 4 + size (listed (map expr_tree l.args.now))

abbrev pub decreases-exprs : goal.decreases-exprs
decreases-exprs l = 2 + size (listed (map expr_tree l.exprs.now))

abbrev pub decreases-comp : goal.decreases-comp
decreases-comp l = 4 + size (expr_tree l.item.now) + size (listed (map gen_tree l.gens.now))

abbrev pub decreases-generators : goal.decreases-generators
decreases-generators l = 2 + size (listed (map gen_tree l.gens.now))

abbrev pub decreases-generator : goal.decreases-generator
decreases-generator l = size (gen_tree l.g.now)

abbrev pub decreases-expr_in : goal.decreases-expr_in
decreases-expr_in l = 1 + size (expr_tree l.e.now)

abbrev pub decreases-type_in : goal.decreases-type_in
decreases-type_in l = 1 + size (type_tree l.t.now)

abbrev pub decreases-type_expr : goal.decreases-type_expr
decreases-type_expr l = size (type_tree l.t.now)

abbrev pub decreases-type_args : goal.decreases-type_args
decreases-type_args l = 2 + size (listed (map type_arg_tree l.args.now))

abbrev pub decreases-type_arg : goal.decreases-type_arg
decreases-type_arg l = size (type_arg_tree l.arg.now)

abbrev pub decreases-shape_arg : goal.decreases-shape_arg
decreases-shape_arg l = 4 + size (type_tree l.shape.now)

abbrev pub decreases-value_arg : goal.decreases-value_arg
decreases-value_arg l = 4 + size (expr_tree l.value.now)
