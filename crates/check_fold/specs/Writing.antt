-- What calls that write sizes and bounds out answer.
-- Trusted but for `gen_written`, `WritesGen` and `MakesStmt`: part of what a promise means.
use Rattle.std.specs.Prelude.{◌≡◌, IfOk, map, Option, Vec}
use Rattle.std.specs.declared.alloc.Global.{Global}
use Rattle.std.specs.declared.result.Result.{Result}
use Rattle.rvc_base.specs.declared.memory.Memory.{Memory}
use Rattle.cal_ast.specs.Tree as tree
use Rattle.cal_ast.specs.Tree.{Tree, listed}
use Rattle.cal_ast.specs.View.{body_tree, expr_tree, gen_tree, optional_expr, stmt_tree, type_arg_tree, type_tree, var_tree}
use Rattle.cal_ast.specs.declared.expr.Expr.{Expr}
use Rattle.cal_ast.specs.declared.expr.Gen.{Gen}
use Rattle.cal_ast.specs.declared.expr.TypeArg.{TypeArg}
use Rattle.cal_ast.specs.declared.expr.TypeExpr.{TypeExpr}
use Rattle.cal_ast.specs.declared.member.VarDecl.{VarDecl}
use Rattle.cal_ast.specs.declared.stmt.Stmt.{Stmt}
use Rattle.cal_model.specs.Kinding.{Names, with_known}
use Rattle.const_env.specs.Counting.{known_variable, variable_view}
use Rattle.const_env.specs.declared.inside.Variable.{Variable}
use Rattle.cal_check.specs.Written.{constant_written, gens_written, statement_written, var_written, with_inner, written}

-- ---- expressions

abbrev pub WritesExpr : Result Expr Memory → Tree → Names → Type 0
WritesExpr result e names = IfOk result (λ found. expr_tree found ≡ written e names)

abbrev pub WritesExprs : Result (Vec Expr Global) Memory → Tree → Names → Type 0
WritesExprs result es names =
    IfOk result (λ found. listed (map expr_tree found.items) ≡ written es names)

abbrev pub WritesOptional : Result (Option Expr) Memory → Tree → Names → Type 0
WritesOptional result e names = IfOk result (λ found. optional_expr found ≡ written e names)

-- a generator over the names that it sees
abbrev pub gen_written : Tree → Names → Tree
gen_written (tree.gen shape name from to at) names =
    tree.gen (written shape names) name (constant_written from names) (constant_written to names) at
gen_written other names = other

abbrev pub WritesGen : Result Gen Memory → Tree → Names → Type 0
WritesGen result g names = IfOk result (λ found. gen_tree found ≡ gen_written g names)

abbrev pub WritesGens : Result (Vec Gen Global) Memory → Tree → Names → Type 0
WritesGens result gens names =
    IfOk result (λ found. listed (map gen_tree found.items) ≡ gens_written gens names)

-- ---- types

abbrev pub WritesType : Result TypeExpr Memory → Tree → Names → Type 0
WritesType result t names = IfOk result (λ found. type_tree found ≡ written t names)

abbrev pub WritesTypeArg : Result TypeArg Memory → Tree → Names → Type 0
WritesTypeArg result arg names = IfOk result (λ found. type_arg_tree found ≡ written arg names)

abbrev pub WritesTypeArgs : Result (Vec TypeArg Global) Memory → Tree → Names → Type 0
WritesTypeArgs result args names =
    IfOk result (λ found. listed (map type_arg_tree found.items) ≡ written args names)

-- ---- variables

abbrev pub WritesVar : Result VarDecl Memory → Tree → Names → Type 0
WritesVar result v names = IfOk result (λ found. var_tree found ≡ var_written v names)

-- what is seen behind a variable
abbrev pub Declares : Result Variable Memory → Tree → Names → Type 0
Declares result v names =
    IfOk result (λ x. with_known (known_variable (variable_view x)) names ≡ with_inner v names)

-- ---- statements

abbrev pub MakesStmt : Result Stmt Memory → Tree → Type 0
MakesStmt result s = IfOk result (λ found. stmt_tree found ≡ s)

abbrev pub WritesStmt : Result Stmt Memory → Tree → Names → Type 0
WritesStmt result s names = MakesStmt result (statement_written s names)

abbrev pub WritesStmts : Result (Vec Stmt Global) Memory → Tree → Names → Type 0
WritesStmts result body names =
    IfOk result (λ found. listed (map stmt_tree found.items) ≡ statement_written body names)

abbrev pub WritesBody : Result (Option (Vec Stmt Global)) Memory → Tree → Names → Type 0
WritesBody result body names = IfOk result (λ found. body_tree found ≡ statement_written body names)
