use Rattle.std.proofs.Common.{◌≡◌, map, length}
use Rattle.cal_ast.specs.Tree.{listed}
use Rattle.cal_ast.specs.View.{expr_tree}
use Rattle.cal_model.specs.Kinding.{kinds}
use Rattle.cal_model.specs.View.{kind_view}
use Rattle.const_env.specs.Counting.{names_view}
use Rattle.check_stmt.proofs.Walks.{kinds_left}
use Rattle.check_stmt.proofs.assign.kinds.Given as goal

abbrev pub invariant-exprs : goal.invariant-exprs
invariant-exprs l = kinds_left (map kind_view l.found.items) l.rest (names_view l.names) ≡ kinds (listed (map expr_tree l.initial.rest)) (names_view l.names)

abbrev pub decreases-exprs : goal.decreases-exprs
decreases-exprs l = length l.rest
