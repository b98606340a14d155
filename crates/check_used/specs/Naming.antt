-- The names that a part uses, collected in order of first appearance.
-- Not trusted: no promise is read with it.
use Rattle.std.specs.Prelude.{◌≡◌, ℕ, List, map, OnOk, Option, Vec}
use Rattle.std.specs.declared.alloc.Global.{Global as Heap}
use Rattle.std.specs.declared.result.Result.{Result}
use Rattle.rvc_base.specs.declared.memory.Memory.{Memory}
use Rattle.cal_ast.specs.Tree as tree
use Rattle.cal_ast.specs.Tree.{Tree, listed}
use Rattle.cal_ast.specs.View.{body_tree, expr_tree, gen_tree, ident_tree, member_tree, output_tree, param_tree, pattern_tree, port_tree, stmt_tree, type_arg_tree, type_tree, var_tree}
use Rattle.cal_ast.specs.declared.expr.Expr.{Expr}
use Rattle.cal_ast.specs.declared.expr.Gen.{Gen}
use Rattle.cal_ast.specs.declared.expr.TypeArg.{TypeArg}
use Rattle.cal_ast.specs.declared.expr.TypeExpr.{TypeExpr}
use Rattle.cal_ast.specs.declared.stmt.Stmt.{Stmt}
use Rattle.cal_ast.specs.declared.ident.Ident.{Ident}
use Rattle.cal_ast.specs.declared.action.Pattern.{Pattern}
use Rattle.cal_ast.specs.declared.action.Output.{Output}
use Rattle.cal_ast.specs.declared.member.Member.{Member}
use Rattle.cal_ast.specs.declared.member.Param.{Param}
use Rattle.cal_ast.specs.declared.member.PortDecl.{PortDecl}
use Rattle.cal_ast.specs.declared.member.VarDecl.{VarDecl}
use Rattle.cal_model.specs.Tags.{with_seen}

-- names with those that a part uses, as `uses` of `cal_check` says of each
abbrev pub with_names : Tree → List (List ℕ) → List (List ℕ)
with_names (tree.variable text at) found = with_seen found text
with_names (tree.call text args at) found = with_names args (with_seen found text)
with_names (tree.cons t ts) found = with_names ts (with_names t found)
with_names (tree.present t) found = with_names t found
with_names (tree.paren e at) found = with_names e found
with_names (tree.if_expr test first other at) found =
    with_names other (with_names first (with_names test found))
with_names (tree.list items at) found = with_names items found
with_names (tree.comp item gens at) found = with_names gens (with_names item found)
with_names (tree.gen shape x from to at) found =
    with_names to (with_names from (with_names shape found))
with_names (tree.index base place at) found = with_names place (with_names base found)
with_names (tree.prefix op e at) found = with_names e found
with_names (tree.binary op l r at) found = with_names r (with_names l found)
with_names (tree.type_of x args at) found = with_names args found
with_names (tree.shape_arg x shape) found = with_names shape found
with_names (tree.value_arg x value) found = with_names value found
with_names (tree.assign (tree.ident x place) places value at) found =
    with_names value (with_names places (with_seen found x))
with_names (tree.call_stmt x args at) found = with_names args found
with_names (tree.if_stmt test first other at) found =
    with_names other (with_names first (with_names test found))
with_names (tree.while_stmt test body at) found = with_names body (with_names test found)
with_names (tree.foreach_stmt shape x from to body at) found =
    with_names body (with_names to (with_names from (with_names shape found)))
with_names (tree.block vars body at) found = with_names body (with_names vars found)
with_names (tree.param shape x start at) found = with_names start (with_names shape found)
with_names (tree.port shape x at) found = with_names shape found
with_names (tree.var shape x start changes at) found = with_names start (with_names shape found)
with_names (tree.function x formals result vars body at) found =
    with_names body (with_names vars (with_names result (with_names formals found)))
with_names (tree.procedure x formals vars body at) found =
    with_names body (with_names vars (with_names formals found))
with_names (tree.action tagged initialize ins outs guards vars body at) found =
    with_names body
    (with_names vars (with_names guards (with_names outs (with_names ins found))))
with_names (tree.pattern asked names repeat at) found = with_names repeat found
with_names (tree.output asked values repeat at) found = with_names repeat (with_names values found)
with_names (tree.actor x params ins outs members at) found =
    with_names members (with_names outs (with_names ins (with_names params found)))
with_names other found = found

-- .. with those in two or three parts

abbrev pub with_both : (first second : Tree) → List (List ℕ) → List (List ℕ)
with_both first second found = with_names second (with_names first found)

abbrev pub with_three : (first second third : Tree) → List (List ℕ) → List (List ℕ)
with_three first second third found = with_names third (with_both first second found)

-- ---- what calls answer

abbrev pub AddsTo : Result (Unit {0}) Memory → (List (List ℕ) → List (List ℕ))
    → (old new : List (List ℕ)) → Type 0
AddsTo result adding old new = OnOk result (new ≡ adding old)

-- the names in this part were added
abbrev pub AddsNames : Result (Unit {0}) Memory → Tree → (old new : List (List ℕ)) → Type 0
AddsNames result part old new = OnOk result (new ≡ with_names part old)

-- ---- lists of parts as trees

abbrev pub exprs_tree : List Expr → Tree
exprs_tree exprs = listed (map expr_tree exprs)

abbrev pub gens_tree : List Gen → Tree
gens_tree gens = listed (map gen_tree gens)

abbrev pub type_args_tree : List TypeArg → Tree
type_args_tree args = listed (map type_arg_tree args)

abbrev pub vars_tree : List VarDecl → Tree
vars_tree vars = listed (map var_tree vars)

abbrev pub stmts_tree : List Stmt → Tree
stmts_tree stmts = listed (map stmt_tree stmts)

abbrev pub ports_tree : List PortDecl → Tree
ports_tree ports = listed (map port_tree ports)

abbrev pub params_tree : List Param → Tree
params_tree params = listed (map param_tree params)

abbrev pub members_tree : List Member → Tree
members_tree members = listed (map member_tree members)

abbrev pub patterns_tree : List Pattern → Tree
patterns_tree patterns = listed (map pattern_tree patterns)

abbrev pub outputs_tree : List Output → Tree
outputs_tree outputs = listed (map output_tree outputs)

abbrev pub assign_tree : Ident → List Expr → Expr → (at : ℕ) → Tree
assign_tree name places value at =
    tree.assign (ident_tree name) (exprs_tree places) (expr_tree value) at

abbrev pub if_stmt_tree : Expr → List Stmt → Option (Vec Stmt Heap) → (at : ℕ) → Tree
if_stmt_tree test first other at =
    tree.if_stmt (expr_tree test) (stmts_tree first) (body_tree other) at

abbrev pub foreach_tree : TypeExpr → Ident → (from to : Expr) → List Stmt → (at : ℕ) → Tree
foreach_tree shape name from to body at =
    tree.foreach_stmt (type_tree shape) (ident_tree name) (expr_tree from) (expr_tree to)
    (stmts_tree body) at
