use Rattle.std.proofs.Common.{◌≡◌, ◌≤◌, map, ◌+◌}
use Rattle.cal_ast.specs.Tree.{listed}
use Rattle.cal_ast.specs.View.{body_tree, stmt_tree}
use Rattle.cal_model.specs.View.{proc_view}
use Rattle.const_env.specs.Counting.{names_view}
use Rattle.cal_check.specs.Statements.{statement_broken}
use Rattle.cal_check.specs.Violations.{said}
use Rattle.check_stmt.proofs.StmtWeights.{size}
use Rattle.check_stmt.proofs.stmt.+stmt.Given as goal

abbrev pub invariant-stmts-stmts : goal.invariant-stmts-stmts
invariant-stmts-stmts l =
    (said l.passes (statement_broken (listed (map stmt_tree l.rest)) (map proc_view l.procs) (names_view l.names))
    ≡ said l.passes (statement_broken (listed (map stmt_tree l.body)) (map proc_view l.procs) (names_view l.names)))
    × (size (listed (map stmt_tree l.rest)) ≤ size (listed (map stmt_tree l.body)))

-- how large the statements are, and a rank among the functions

abbrev pub decreases-stmt : goal.decreases-stmt
decreases-stmt l = size (stmt_tree l.s.now)

abbrev pub decreases-stmts : goal.decreases-stmts
decreases-stmts l = 2 + size (listed (map stmt_tree l.body.now))

abbrev pub decreases-optional_stmts : goal.decreases-optional_stmts
decreases-optional_stmts l = size (body_tree l.body.now)

abbrev pub decreases-if_stmt : goal.decreases-if_stmt
decreases-if_stmt l = 4 + size (listed (map stmt_tree l.yes.now)) + size (body_tree l.no.now)

abbrev pub decreases-branches : goal.decreases-branches
decreases-branches l = 3 + size (listed (map stmt_tree l.yes.now)) + size (body_tree l.no.now)

abbrev pub decreases-while_stmt : goal.decreases-while_stmt
decreases-while_stmt l = 4 + size (listed (map stmt_tree l.body.now))

abbrev pub decreases-foreach_stmt : goal.decreases-foreach_stmt
decreases-foreach_stmt l = 6 + size (listed (map stmt_tree l.body.now))

abbrev pub decreases-behind : goal.decreases-behind
decreases-behind l = 3 + size (listed (map stmt_tree l.body.now))

abbrev pub decreases-block : goal.decreases-block
decreases-block l = 6 + size (listed (map stmt_tree l.body.now))

abbrev pub decreases-stmts-stmts : goal.decreases-stmts-stmts
decreases-stmts-stmts l = size (listed (map stmt_tree l.rest))
