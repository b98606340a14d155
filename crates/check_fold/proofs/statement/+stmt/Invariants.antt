use Rattle.std.proofs.Common.{◌≡◌, ◌≤◌, map, ◌+◌}
use Rattle.cal_ast.specs.Tree.{listed}
use Rattle.cal_ast.specs.View.{body_tree, stmt_tree}
use Rattle.const_env.specs.Counting.{names_view}
use Rattle.cal_check.specs.Written.{statement_written}
use Rattle.check_fold.proofs.Onto.{onto}
use Rattle.check_fold.proofs.Sizes.{size}
use Rattle.check_fold.proofs.statement.+stmt.Given as goal

abbrev pub invariant-stmts-each : goal.invariant-stmts-each
invariant-stmts-each l =
    (onto (map stmt_tree l.found.items) (statement_written (listed (map stmt_tree l.rest)) (names_view l.names)) ≡ statement_written (listed (map stmt_tree l.body)) (names_view l.names))
    × (size (listed (map stmt_tree l.rest)) ≤ size (listed (map stmt_tree l.body)))

-- how large the statements are, and a rank among the functions

abbrev pub decreases-stmt : goal.decreases-stmt
decreases-stmt l = size (stmt_tree l.s.now)

abbrev pub decreases-stmts : goal.decreases-stmts
decreases-stmts l = 2 + size (listed (map stmt_tree l.body.now))

abbrev pub decreases-stmts-each : goal.decreases-stmts-each
decreases-stmts-each l = size (listed (map stmt_tree l.rest))

abbrev pub decreases-optional_stmts : goal.decreases-optional_stmts
decreases-optional_stmts l = size (body_tree l.body.now)

abbrev pub decreases-if_stmt : goal.decreases-if_stmt
decreases-if_stmt l = 4 + size (listed (map stmt_tree l.yes.now)) + size (body_tree l.no.now)

abbrev pub decreases-while_stmt : goal.decreases-while_stmt
decreases-while_stmt l = 4 + size (listed (map stmt_tree l.body.now))

abbrev pub decreases-foreach_stmt : goal.decreases-foreach_stmt
decreases-foreach_stmt l = 6 + size (listed (map stmt_tree l.body.now))

abbrev pub decreases-loop_body : goal.decreases-loop_body
decreases-loop_body l = 5 + size (listed (map stmt_tree l.body.now))

abbrev pub decreases-stmts_behind : goal.decreases-stmts_behind
decreases-stmts_behind l = 3 + size (listed (map stmt_tree l.body.now))

abbrev pub decreases-block : goal.decreases-block
decreases-block l = 6 + size (listed (map stmt_tree l.body.now))
