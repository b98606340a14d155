-- The words of the contracts of calls that lower, over names and expressions as the code has them.
-- Trusted: part of what a promise means.
use Rattle.std.specs.Prelude.{◌≡◌, ℕ, List, None, map}
use Rattle.cal_ast.specs.Tree as tree
use Rattle.cal_ast.specs.Tree.{Tree, listed}
use Rattle.cal_ast.specs.View.{expr_tree}
use Rattle.cal_ast.specs.declared.expr.BinOp.{BinOp}
use Rattle.cal_ast.specs.declared.expr.BinOp.TheVariants as binaries
use Rattle.cal_ast.specs.declared.expr.Expr.{Expr}
use Rattle.lower_base.specs.declared.draft.Draft.{Draft}
use Rattle.lower_base.specs.declared.fault.LowerFault.{LowerFault}
use Rattle.lower_base.specs.declared.names.Named.{Named}
use Rattle.lower_base.specs.declared.callees.Callee.{Callee}
use Rattle.lower_base.specs.Callees.{functions_view}
use Rattle.lower_base.specs.Calling.{IsLoweredWith}
use Rattle.lower_base.specs.Names.{names_view}
use Rattle.lower_base.specs.Growing.{IsFault, left_out, left_out_in}
use Rattle.lower_base.specs.Lowered.{Adds, IsLowered}

-- ---- expressions that are made of others

abbrev pub and_of : Expr → Expr → ℕ → Tree
and_of left right at = tree.binary binaries.And (expr_tree left) (expr_tree right) at

abbrev pub or_of : Expr → Expr → ℕ → Tree
or_of left right at = tree.binary binaries.Or (expr_tree left) (expr_tree right) at

abbrev pub binary_of : BinOp → Expr → Expr → ℕ → Tree
binary_of op left right at = tree.binary op (expr_tree left) (expr_tree right) at

abbrev pub if_of : Expr → Expr → Expr → ℕ → Tree
if_of test first other at = tree.if_expr (expr_tree test) (expr_tree first) (expr_tree other) at

abbrev pub index_of : Expr → Expr → ℕ → Tree
index_of base place at = tree.index (expr_tree base) (expr_tree place) at

abbrev pub call_of : List ℕ → List Expr → ℕ → Tree
call_of text args at = tree.call text (listed (map expr_tree args)) at

-- ---- what a call does

-- code was added that evaluates an expression and fits
abbrev pub AddsLowered : List Named → Tree → Draft → Draft → Type 0
AddsLowered names e old new = Adds (IsLowered (names_view names) e) old new

-- no part of an expression is left out
abbrev pub IsWhole : List Named → Tree → Type 0
IsWhole names e = left_out (names_view names) e ≡ None

-- why an expression isn't lowered
abbrev pub IsFaultOf : List Named → Tree → Draft → LowerFault → Type 0
IsFaultOf names e draft fault = IsFault (left_out (names_view names) e) draft fault

-- .. if functions may be called

abbrev pub AddsLoweredWith : List Callee → List Named → Tree → Draft → Draft → Type 0
AddsLoweredWith callees names e old new =
    Adds (IsLoweredWith (functions_view callees) (names_view names) e) old new

abbrev pub IsWholeWith : List Callee → List Named → Tree → Type 0
IsWholeWith callees names e = left_out_in (functions_view callees) (names_view names) e ≡ None

abbrev pub IsFaultWith : List Callee → List Named → Tree → Draft → LowerFault → Type 0
IsFaultWith callees names e draft fault =
    IsFault (left_out_in (functions_view callees) (names_view names) e) draft fault
