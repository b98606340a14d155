use Rattle.std.proofs.Common.{map, ◌+◌}
use Rattle.cal_ast.specs.Tree.{listed}
use Rattle.cal_ast.specs.View.{body_tree, stmt_tree}
use Rattle.cal_scope.specs.View.{names_view}
use Rattle.cal_scope.proofs.Each.{stay}
use Rattle.cal_scope.proofs.EachOf.{stmt_part}
use Rattle.cal_scope.proofs.Loops.{IsJudgedUpTo}
use Rattle.cal_scope.proofs.StmtWeights.{size}
use Rattle.cal_scope.proofs.stmt.+stmt.Given as goal

abbrev pub invariant-stmts-loop-s : goal.invariant-stmts-loop-s
invariant-stmts-loop-s l = IsJudgedUpTo stmt_part stay (map stmt_tree l.found.items) l.s-index l.body (names_view l.names) (names_view l.names)

-- how large the statements are, and a rank among the functions

abbrev pub decreases-stmt : goal.decreases-stmt
decreases-stmt l = size (stmt_tree l.s.now)

abbrev pub decreases-if_stmt : goal.decreases-if_stmt
decreases-if_stmt l = 4 + size (listed (map stmt_tree l.yes.now)) + size (body_tree l.no.now)

abbrev pub decreases-while_stmt : goal.decreases-while_stmt
decreases-while_stmt l = 4 + size (listed (map stmt_tree l.body.now))

abbrev pub decreases-foreach_stmt : goal.decreases-foreach_stmt
decreases-foreach_stmt l = 6 + size (listed (map stmt_tree l.body.now))

abbrev pub decreases-loop_body : goal.decreases-loop_body
decreases-loop_body l = 5 + size (listed (map stmt_tree l.body.now))

abbrev pub decreases-block : goal.decreases-block
decreases-block l = 6 + size (listed (map stmt_tree l.body.now))

abbrev pub decreases-stmts_in : goal.decreases-stmts_in
decreases-stmts_in l = 3 + size (listed (map stmt_tree l.body.now))

abbrev pub decreases-stmts : goal.decreases-stmts
decreases-stmts l = 2 + size (listed (map stmt_tree l.body.now))

abbrev pub decreases-optional_stmts : goal.decreases-optional_stmts
decreases-optional_stmts l = size (body_tree l.body.now)
