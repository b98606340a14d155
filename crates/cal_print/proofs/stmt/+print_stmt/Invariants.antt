use Rattle.std.proofs.Common.{◌+◌, ◌*◌, map, take}
use Rattle.cal_ast.specs.Tree.{listed}
use Rattle.cal_ast.specs.View.{stmt_tree}
use Rattle.cal_print.specs.Tokens.{words}
use Rattle.cal_print.specs.Writes.{Writes}
use Rattle.cal_print.proofs.stmt.+print_stmt.Given as goal

abbrev pub invariant-print_stmts-loop-stmt : goal.invariant-print_stmts-loop-stmt
invariant-print_stmts-loop-stmt l = Writes l.initial.out (words (listed (map stmt_tree (take l.stmt-index l.stmts)))) l.out

-- the depth, and a rank: a body may be as deep as its statements, and these as deep as one of them
abbrev pub decreases-print_stmt : goal.decreases-print_stmt
decreases-print_stmt l = 3 * goal.size-print_stmt l

abbrev pub decreases-print_stmts : goal.decreases-print_stmts
decreases-print_stmts l = 3 * goal.size-print_stmts l + 1

abbrev pub decreases-print_body : goal.decreases-print_body
decreases-print_body l = 3 * goal.size-print_body l + 2
