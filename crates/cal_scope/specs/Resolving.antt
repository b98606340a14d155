-- What calls answer for a part that sees names.
-- Trusted: part of what a promise means.
use Rattle.std.specs.declared.result.Result.{Result}
use Rattle.std.specs.Prelude.{Vec}
use Rattle.std.specs.declared.alloc.Global.{Global as Heap}
use Rattle.cal_ast.specs.Tree.{Tree}
use Rattle.cal_ast.specs.View.{expr_tree, stmt_tree, type_arg_tree}
use Rattle.cal_ast.specs.declared.expr.Expr.{Expr}
use Rattle.cal_ast.specs.declared.expr.TypeArg.{TypeArg}
use Rattle.cal_ast.specs.declared.stmt.Stmt.{Stmt}
use Rattle.cal_scope.specs.declared.fault.ScopeFault.{ScopeFault}
use Rattle.cal_scope.specs.Asked.{stmt_trees}
use Rattle.cal_scope.specs.Expressions.{expr_resolved, type_arg_resolved}
use Rattle.cal_scope.specs.Judging.{Judges}
use Rattle.cal_scope.specs.Names.{Names}
use Rattle.cal_scope.specs.Statements.{stmt_resolved, stmts_resolved}

-- the answer is the judgement of this expression, statement, list of statements or argument of a type

abbrev pub ResolvesExpr : Result Expr ScopeFault → Tree → Names → Type 0
ResolvesExpr result e names = Judges expr_tree result (expr_resolved e names)

abbrev pub ResolvesStmt : Result Stmt ScopeFault → Tree → Names → Type 0
ResolvesStmt result s names = Judges stmt_tree result (stmt_resolved s names)

abbrev pub ResolvesStmts : Result (Vec Stmt Heap) ScopeFault → Tree → Names → Type 0
ResolvesStmts result body names = Judges stmt_trees result (stmts_resolved body names)

abbrev pub ResolvesTypeArg : Result TypeArg ScopeFault → Tree → Names → Type 0
ResolvesTypeArg result arg names = Judges type_arg_tree result (type_arg_resolved arg names)
