-- A list of trees has as many parts as there are expressions.
use Rattle.std.proofs.Common.{◌≡◌, suc, List, [], ◌∷◌, map, length, refl, ap}
use Rattle.cal_ast.specs.Tree.{listed}
use Rattle.cal_ast.specs.View.{expr_tree}
use Rattle.cal_ast.specs.declared.expr.Expr.{Expr}
use Rattle.cal_model.specs.Rates.{parts}

pub parts_listed : (es : List Expr) → parts (listed (map expr_tree es)) ≡ length es
parts_listed [] = refl
parts_listed (e ∷ es) = ap suc (parts_listed es)
