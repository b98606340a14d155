-- Expressions that are read, and the pairs of parentheses round them.
-- Not trusted: no promise is read with it.
use Rattle.std.specs.Prelude.{Bool, true, false}
use Rattle.cal_ast.specs.Tree.{Tree, if_expr, prefix, binary}
use Rattle.cal_ast.specs.View.{expr_tree}
use Rattle.cal_parse_base.specs.declared.tall.MeasuredExpr.{MeasuredExpr}

-- the tree of an expression with its height
abbrev pub tall_tree : MeasuredExpr → Tree
tall_tree x = expr_tree x.expr.value

-- whether a pair of parentheses round an expression is dropped
abbrev pub drops : Tree → Bool
drops (if_expr test first other at) = true
drops (prefix op operand at) = true
drops (binary op left right at) = true
drops _ = false
