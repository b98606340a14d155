-- What the expressions of the code stand for.
-- Trusted: part of what a promise means.
use Rattle.std.specs.Prelude.{List, Vec}
use Rattle.std.specs.declared.alloc.Global.{Global}
use Rattle.cal_ast.specs.Tree.{Tree}
use Rattle.cal_ast.specs.View.{expr_tree}
use Rattle.fnl_expr.specs.Stack.{stack}
use Rattle.fnl_expr.specs.Operations.{Pending, pending}
use Rattle.fnl_expr.specs.declared.tall.MeasuredExpr.{MeasuredExpr}
use Rattle.fnl_expr.specs.declared.operations.Pending.{Pending as ThePending}

abbrev pub tall_tree : MeasuredExpr → Tree
tall_tree t = expr_tree t.expr

abbrev pub pending_of : ThePending → Pending
pending_of p = pending (tall_tree p.left) p.op

abbrev pub waiting_of : Vec ThePending Global → List Pending
waiting_of waiting = stack pending_of waiting.items
