use Rattle.std.proofs.Common.{◌≡◌, ◌≤◌, map, ◌+◌}
use Rattle.cal_ast.specs.Tree.{listed}
use Rattle.cal_ast.specs.View.{expr_tree}
use Rattle.const_env.specs.Counting.{names_view}
use Rattle.cal_check.specs.Written.{written}
use Rattle.check_fold.proofs.Onto.{onto}
use Rattle.check_fold.proofs.Sizes.{size}
use Rattle.check_fold.proofs.expression.+expr.Given as goal

abbrev pub invariant-exprs-each : goal.invariant-exprs-each
invariant-exprs-each l =
    (onto (map expr_tree l.found.items) (written (listed (map expr_tree l.rest)) (names_view l.names)) ≡ written (listed (map expr_tree l.exprs)) (names_view l.names))
    × (size (listed (map expr_tree l.rest)) ≤ size (listed (map expr_tree l.exprs)))

-- how large the parts are, and a rank among the functions

abbrev pub decreases-expr : goal.decreases-expr
decreases-expr l = size (expr_tree l.e.now)

abbrev pub decreases-exprs : goal.decreases-exprs
decreases-exprs l = 2 + size (listed (map expr_tree l.exprs.now))

abbrev pub decreases-exprs-each : goal.decreases-exprs-each
decreases-exprs-each l = size (listed (map expr_tree l.rest))

abbrev pub decreases-call : goal.decreases-call
decreases-call l = 4 + size (listed (map expr_tree l.args.now))

abbrev pub decreases-paren : goal.decreases-paren
decreases-paren l = 4 + size (expr_tree l.inner.now)

abbrev pub decreases-if_expr : goal.decreases-if_expr
decreases-if_expr l = 4 + size (expr_tree l.test.now) + size (expr_tree l.yes.now) + size (expr_tree l.no.now)

abbrev pub decreases-list : goal.decreases-list
decreases-list l = 4 + size (listed (map expr_tree l.items.now))

abbrev pub decreases-comp : goal.decreases-comp
decreases-comp l = 4 + size (expr_tree l.item.now)

abbrev pub decreases-expr_among : goal.decreases-expr_among
decreases-expr_among l = 1 + size (expr_tree l.e.now)

abbrev pub decreases-index : goal.decreases-index
decreases-index l = 4 + size (expr_tree l.base.now) + size (expr_tree l.place.now)

abbrev pub decreases-prefix : goal.decreases-prefix
decreases-prefix l = 4 + size (expr_tree l.of.now)

abbrev pub decreases-binary : goal.decreases-binary
decreases-binary l = 4 + size (expr_tree l.left.now) + size (expr_tree l.right.now)
