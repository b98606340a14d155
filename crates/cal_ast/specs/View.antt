-- The plain tree that each declared type stands for. Two values are equal trees if their plain trees are equal.
-- Trusted: part of what a promise means.
use Rattle.std.specs.Prelude.{ℕ, List, map, Option, Some, None, option_map, string_bytes, Vec}
use Rattle.std.specs.declared.alloc.Global.{Global}
use Rattle.cal_ast.specs.Tree.{Tree, absent, present, listed, ident, tag, import_part, file, actor, unit, param, port, var, function, procedure, action, pattern, output, schedule, move, priority, type_of, shape_arg, value_arg, assign, call_stmt, if_stmt, while_stmt, foreach_stmt, block, number, truth, variable, call, paren, if_expr, list, comp, gen, index, prefix, binary}
use Rattle.cal_ast.specs.declared.ident.Ident.{Ident}
use Rattle.cal_ast.specs.declared.ident.Tag.{Tag}
use Rattle.cal_ast.specs.declared.expr.Expr.{Expr}
use Rattle.cal_ast.specs.declared.expr.Gen.{Gen}
use Rattle.cal_ast.specs.declared.expr.TypeExpr.{TypeExpr}
use Rattle.cal_ast.specs.declared.expr.TypeArg.{TypeArg}
use Rattle.cal_ast.specs.declared.expr.ExprForm.{ExprForm}
use Rattle.cal_ast.specs.declared.expr.ExprForm.TheOpen.{ExprForm-F, TypeArg-F, Expr-F, Gen-F, TypeExpr-F}
use Rattle.cal_ast.specs.declared.expr.ExprForm.TheFolds.{fold-ExprForm, fold-TypeArg, fold-Expr, fold-Gen, fold-TypeExpr}
use Rattle.cal_ast.specs.declared.stmt.Stmt.{Stmt}
use Rattle.cal_ast.specs.declared.stmt.StmtForm.{StmtForm}
use Rattle.cal_ast.specs.declared.stmt.StmtForm.TheOpen.{StmtForm-F, Stmt-F}
use Rattle.cal_ast.specs.declared.stmt.StmtForm.TheFolds.{fold-StmtForm, fold-Stmt}
use Rattle.cal_ast.specs.declared.member.Member.{Member}
use Rattle.cal_ast.specs.declared.member.Member.TheVariants as members
use Rattle.cal_ast.specs.declared.member.Param.{Param}
use Rattle.cal_ast.specs.declared.member.PortDecl.{PortDecl}
use Rattle.cal_ast.specs.declared.member.VarDecl.{VarDecl}
use Rattle.cal_ast.specs.declared.member.Function.{Function}
use Rattle.cal_ast.specs.declared.member.Procedure.{Procedure}
use Rattle.cal_ast.specs.declared.action.Action.{Action}
use Rattle.cal_ast.specs.declared.action.Pattern.{Pattern}
use Rattle.cal_ast.specs.declared.action.Output.{Output}
use Rattle.cal_ast.specs.declared.action.Schedule.{Schedule}
use Rattle.cal_ast.specs.declared.action.Move.{Move}
use Rattle.cal_ast.specs.declared.action.Priority.{Priority}
use Rattle.cal_ast.specs.declared.file.File.{File}
use Rattle.cal_ast.specs.declared.file.Body.{Body}
use Rattle.cal_ast.specs.declared.file.Body.TheVariants as bodies
use Rattle.cal_ast.specs.declared.file.Import.{Import}
use Rattle.cal_ast.specs.declared.file.Actor.{Actor}
use Rattle.cal_ast.specs.declared.file.UnitFile.{UnitFile}

-- a part that may be missing
abbrev pub optional : Option Tree → Tree
optional None = absent
optional (Some t) = present t

abbrev pub ident_tree : Ident → Tree
ident_tree i = ident (string_bytes i.text) i.at

abbrev pub tag_tree : Tag → Tree
tag_tree t = tag (listed (map ident_tree t.parts.items)) t.at

-- An expression, a statement: one level, with the tree of each part inside in its place. What stands in a form still
-- waits for the offset, which its holder has.

abbrev pub form_step : ExprForm-F (ℕ → Tree) Tree Tree Tree Tree → ℕ → Tree
form_step (ExprForm-F.Number value) at = number value at
form_step (ExprForm-F.Bool value) at = truth value at
form_step (ExprForm-F.Name text) at = variable (string_bytes text) at
form_step (ExprForm-F.Call name args) at = call (string_bytes name) (listed args.items) at
form_step (ExprForm-F.Paren inner) at = paren inner.value at
form_step (ExprForm-F.If test first other) at = if_expr test.value first.value other.value at
form_step (ExprForm-F.List items) at = list (listed items.items) at
form_step (ExprForm-F.Comp item gens) at = comp item.value (listed gens.items) at
form_step (ExprForm-F.Index base place) at = index base.value place.value at
form_step (ExprForm-F.Prefix op operand) at = prefix op operand.value at
form_step (ExprForm-F.Binary op left right) at = binary op left.value right.value at

abbrev pub type_arg_step : TypeArg-F (ℕ → Tree) Tree Tree Tree Tree → Tree
type_arg_step (TypeArg-F.Shape name shape) = shape_arg (ident_tree name) shape
type_arg_step (TypeArg-F.Value name value) = value_arg (ident_tree name) value

abbrev pub expr_step : Expr-F (ℕ → Tree) Tree Tree Tree Tree → Tree
expr_step e = e.form e.at

abbrev pub gen_step : Gen-F (ℕ → Tree) Tree Tree Tree Tree → Tree
gen_step g = gen g.shape (ident_tree g.name) g.from g.to g.at

abbrev pub type_step : TypeExpr-F (ℕ → Tree) Tree Tree Tree Tree → Tree
type_step t = type_of (ident_tree t.name) (listed t.args.items) t.at

abbrev pub form_tree : ExprForm → ℕ → Tree
form_tree = fold-ExprForm (ℕ → Tree) Tree Tree Tree Tree form_step type_arg_step expr_step gen_step
    type_step

abbrev pub type_arg_tree : TypeArg → Tree
type_arg_tree = fold-TypeArg (ℕ → Tree) Tree Tree Tree Tree form_step type_arg_step expr_step
    gen_step type_step

abbrev pub expr_tree : Expr → Tree
expr_tree =
    fold-Expr (ℕ → Tree) Tree Tree Tree Tree form_step type_arg_step expr_step gen_step type_step

abbrev pub gen_tree : Gen → Tree
gen_tree =
    fold-Gen (ℕ → Tree) Tree Tree Tree Tree form_step type_arg_step expr_step gen_step type_step

abbrev pub type_tree : TypeExpr → Tree
type_tree = fold-TypeExpr (ℕ → Tree) Tree Tree Tree Tree form_step type_arg_step expr_step gen_step
    type_step

abbrev pub optional_expr : Option Expr → Tree
optional_expr e = optional (option_map expr_tree e)

-- members but for those that hold statements

abbrev pub param_tree : Param → Tree
param_tree p = param (type_tree p.shape) (ident_tree p.name) (optional_expr p.start) p.at

abbrev pub port_tree : PortDecl → Tree
port_tree p = port (type_tree p.shape) (ident_tree p.name) p.at

abbrev pub var_tree : VarDecl → Tree
var_tree v = var (type_tree v.shape) (ident_tree v.name) (optional_expr v.start) v.changes v.at

abbrev pub function_tree : Function → Tree
function_tree f = function (ident_tree f.name) (listed (map port_tree f.formals.items))
    (type_tree f.result) (listed (map var_tree f.vars.items)) (expr_tree f.body) f.at

-- statements

abbrev pub optional_stmts : Option (Vec Tree Global) → Tree
optional_stmts None = absent
optional_stmts (Some ts) = present (listed ts.items)

abbrev pub stmt_form_step : StmtForm-F (ℕ → Tree) Tree → ℕ → Tree
stmt_form_step (StmtForm-F.Assign name places value) at =
    assign (ident_tree name) (listed (map expr_tree places.items)) (expr_tree value) at
stmt_form_step (StmtForm-F.Call name args) at =
    call_stmt (ident_tree name) (listed (map expr_tree args.items)) at
stmt_form_step (StmtForm-F.If test first other) at =
    if_stmt (expr_tree test) (listed first.items) (optional_stmts other) at
stmt_form_step (StmtForm-F.While test body) at = while_stmt (expr_tree test) (listed body.items) at
stmt_form_step (StmtForm-F.Foreach shape name from to body) at =
    foreach_stmt (type_tree shape) (ident_tree name) (expr_tree from) (expr_tree to)
    (listed body.items) at
stmt_form_step (StmtForm-F.Block vars body) at =
    block (listed (map var_tree vars.items)) (listed body.items) at

abbrev pub stmt_step : Stmt-F (ℕ → Tree) Tree → Tree
stmt_step s = s.form s.at

abbrev pub stmt_form_tree : StmtForm → ℕ → Tree
stmt_form_tree = fold-StmtForm (ℕ → Tree) Tree stmt_form_step stmt_step

abbrev pub stmt_tree : Stmt → Tree
stmt_tree = fold-Stmt (ℕ → Tree) Tree stmt_form_step stmt_step

-- the other members

abbrev pub procedure_tree : Procedure → Tree
procedure_tree p = procedure (ident_tree p.name) (listed (map port_tree p.formals.items))
    (listed (map var_tree p.vars.items)) (listed (map stmt_tree p.body.items)) p.at

abbrev pub pattern_tree : Pattern → Tree
pattern_tree p = pattern (optional (option_map ident_tree p.port))
    (listed (map ident_tree p.names.items)) (optional_expr p.repeat) p.at

abbrev pub output_tree : Output → Tree
output_tree o = output (optional (option_map ident_tree o.port))
    (listed (map expr_tree o.values.items)) (optional_expr o.repeat) o.at

abbrev pub body_tree : Option (Vec Stmt Global) → Tree
body_tree None = absent
body_tree (Some body) = present (listed (map stmt_tree body.items))

abbrev pub action_tree : Action → Tree
action_tree a = action (optional (option_map tag_tree a.tag)) a.initialize
    (listed (map pattern_tree a.patterns.items)) (listed (map output_tree a.outputs.items))
    (listed (map expr_tree a.guards.items)) (listed (map var_tree a.vars.items))
    (body_tree a.body) a.at

abbrev pub move_tree : Move → Tree
move_tree m = move (ident_tree m.from) (listed (map tag_tree m.tags.items)) (ident_tree m.to) m.at

abbrev pub schedule_tree : Schedule → Tree
schedule_tree s = schedule (ident_tree s.start) (listed (map move_tree s.moves.items)) s.at

abbrev pub chain_tree : Vec Tag Global → Tree
chain_tree tags = listed (map tag_tree tags.items)

abbrev pub priority_tree : Priority → Tree
priority_tree p = priority (listed (map chain_tree p.chains.items)) p.at

abbrev pub member_tree : Member → Tree
member_tree (members.Var v) = var_tree v
member_tree (members.Function f) = function_tree f
member_tree (members.Procedure p) = procedure_tree p
member_tree (members.Action a) = action_tree a
member_tree (members.Schedule s) = schedule_tree s
member_tree (members.Priority p) = priority_tree p

-- files

abbrev pub actor_tree : Actor → Tree
actor_tree a = actor (ident_tree a.name) (listed (map param_tree a.params.items))
    (listed (map port_tree a.ins.items)) (listed (map port_tree a.outs.items))
    (listed (map member_tree a.members.items)) a.at

abbrev pub unit_tree : UnitFile → Tree
unit_tree u = unit (ident_tree u.name) (listed (map member_tree u.members.items)) u.at

abbrev pub file_body_tree : Body → Tree
file_body_tree (bodies.Actor a) = actor_tree a
file_body_tree (bodies.Unit u) = unit_tree u

abbrev pub import_tree : Import → Tree
import_tree i = import_part (listed (map ident_tree i.path.items))
    (optional (option_map ident_tree i.last)) i.at

abbrev pub file_tree : File → Tree
file_tree f = file (optional (option_map tag_tree f.package))
    (listed (map import_tree f.imports.items)) (file_body_tree f.body) f.at
