use Rattle.std.proofs.Common.{◌≡◌, map, take}
use Rattle.cal_ast.specs.View.{stmt_tree}
use Rattle.cal_ast.proofs.stmt.+copy_stmt.Given as goal

abbrev pub invariant-copy_stmts-loop-stmt : goal.invariant-copy_stmts-loop-stmt
invariant-copy_stmts-loop-stmt l = map stmt_tree l.copied.items ≡ map stmt_tree (take l.stmt-index l.stmts)
