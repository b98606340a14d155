-- The words of the contracts of calls that lower statements, over names and statements as the code has them.
-- Trusted: part of what a promise means.
use Rattle.std.specs.Prelude.{◌≡◌, ℕ, List, [], map, Option, None, Vec}
use Rattle.std.specs.declared.alloc.Global.{Global}
use Rattle.cal_ast.specs.Tree as tree
use Rattle.cal_ast.specs.Tree.{Tree, listed}
use Rattle.cal_ast.specs.View.{body_tree, expr_tree, ident_tree, stmt_tree, type_tree}
use Rattle.cal_ast.specs.declared.expr.Expr.{Expr}
use Rattle.cal_ast.specs.declared.expr.TypeExpr.{TypeExpr}
use Rattle.cal_ast.specs.declared.ident.Ident.{Ident}
use Rattle.cal_ast.specs.declared.stmt.Stmt.{Stmt}
use Rattle.lower_base.specs.declared.draft.Draft.{Draft}
use Rattle.lower_base.specs.declared.fault.LowerFault.{LowerFault}
use Rattle.lower_stmt.specs.Executing.{IsExecuted}
use Rattle.lower_base.specs.Growing.{IsFault}
use Rattle.lower_base.specs.Lowered.{Adds}
use Rattle.lower_base.specs.declared.names.Named.{Named}
use Rattle.lower_base.specs.Names.{names_view}
use Rattle.lower_stmt.specs.Procedures.{no_routines}
use Rattle.lower_stmt.specs.StmtGrowing.{left_out_all}

-- ---- statements that are made of others

abbrev pub body_of : List Stmt → Tree
body_of body = listed (map stmt_tree body)

abbrev pub set_of : Ident → List Expr → Expr → ℕ → Tree
set_of name places value at =
    tree.assign (ident_tree name) (listed (map expr_tree places)) (expr_tree value) at

abbrev pub set_one_of : Ident → Expr → ℕ → Tree
set_one_of name value at = set_of name [] value at

abbrev pub set_items_of : Ident → List Expr → ℕ → ℕ → Tree
set_items_of name items list at =
    tree.assign (ident_tree name) tree.nil (tree.list (listed (map expr_tree items)) list) at

abbrev pub run_of : Ident → List Expr → ℕ → Tree
run_of name args at = tree.call_stmt (ident_tree name) (listed (map expr_tree args)) at

abbrev pub branch_of : Expr → List Stmt → Option (Vec Stmt Global) → ℕ → Tree
branch_of test first other at =
    tree.if_stmt (expr_tree test) (body_of first) (body_tree other) at

abbrev pub alone_of : Expr → List Stmt → ℕ → Tree
alone_of test first at = tree.if_stmt (expr_tree test) (body_of first) tree.absent at

abbrev pub fork_of : Expr → List Stmt → List Stmt → ℕ → Tree
fork_of test first other at =
    tree.if_stmt (expr_tree test) (body_of first) (tree.present (body_of other)) at

abbrev pub while_of : Expr → List Stmt → ℕ → Tree
while_of test body at = tree.while_stmt (expr_tree test) (body_of body) at

abbrev pub foreach_of : TypeExpr → Ident → Expr → Expr → List Stmt → ℕ → Tree
foreach_of shape name from to body at =
    tree.foreach_stmt (type_tree shape) (ident_tree name) (expr_tree from) (expr_tree to)
    (body_of body) at

-- .. whatever type and bounds it has
abbrev pub counted_of : Tree → Ident → Tree → Tree → List Stmt → ℕ → Tree
counted_of shape name from to body at =
    tree.foreach_stmt shape (ident_tree name) from to (body_of body) at

-- ---- what a call does

-- code was added that executes statements and fits
abbrev pub AddsExecuted : List Named → Tree → Draft → Draft → Type 0
AddsExecuted names body old new = Adds (IsExecuted (names_view names) body) old new

-- no part of statements is left out
abbrev pub AreWhole : List Named → Tree → Type 0
AreWhole names body = left_out_all no_routines (names_view names) body ≡ None

-- why statements aren't lowered
abbrev pub IsFaultAmong : List Named → Tree → Draft → LowerFault → Type 0
IsFaultAmong names body draft fault = IsFault (left_out_all no_routines (names_view names) body) draft fault
