-- What the public calls are asked about: lists of parts as trees, and what is seen round which no scope stands.
-- Trusted: part of what a promise means.
use Rattle.std.specs.Prelude.{ℕ, List, [], map, Option, Vec}
use Rattle.std.specs.declared.alloc.Global.{Global as Heap}
use Rattle.cal_ast.specs.Tree as tree
use Rattle.cal_ast.specs.Tree.{Tree, listed}
use Rattle.cal_ast.specs.View.{body_tree, expr_tree, gen_tree, ident_tree, member_tree, output_tree, param_tree, pattern_tree, port_tree, stmt_tree, type_arg_tree, type_tree, var_tree}
use Rattle.cal_ast.specs.declared.expr.Expr.{Expr}
use Rattle.cal_ast.specs.declared.expr.Gen.{Gen}
use Rattle.cal_ast.specs.declared.expr.TypeArg.{TypeArg}
use Rattle.cal_ast.specs.declared.stmt.Stmt.{Stmt}
use Rattle.cal_ast.specs.declared.ident.Ident.{Ident}
use Rattle.cal_ast.specs.declared.action.Pattern.{Pattern}
use Rattle.cal_ast.specs.declared.action.Output.{Output}
use Rattle.cal_ast.specs.declared.member.VarDecl.{VarDecl}
use Rattle.cal_ast.specs.declared.expr.TypeExpr.{TypeExpr}
use Rattle.cal_ast.specs.declared.member.Member.{Member}
use Rattle.cal_ast.specs.declared.member.Param.{Param}
use Rattle.cal_ast.specs.declared.member.PortDecl.{PortDecl}
use Rattle.cal_scope.specs.Names.{Global, Names}

-- what a part sees round which no scope stands: the names of its file
abbrev pub outermost : List Global → Names
outermost globals = record { locals = []; globals = globals }

abbrev pub members_tree : List Member → Tree
members_tree members = listed (map member_tree members)

abbrev pub params_tree : List Param → Tree
params_tree params = listed (map param_tree params)

abbrev pub ports_tree : List PortDecl → Tree
ports_tree ports = listed (map port_tree ports)

abbrev pub names_tree : List Ident → Tree
names_tree names = listed (map ident_tree names)

abbrev pub exprs_tree : List Expr → Tree
exprs_tree exprs = listed (map expr_tree exprs)

abbrev pub gens_tree : List Gen → Tree
gens_tree gens = listed (map gen_tree gens)

abbrev pub type_args_tree : List TypeArg → Tree
type_args_tree args = listed (map type_arg_tree args)

abbrev pub vars_tree : List VarDecl → Tree
vars_tree vars = listed (map var_tree vars)

abbrev pub stmts_tree : List Stmt → Tree
stmts_tree stmts = listed (map stmt_tree stmts)

abbrev pub patterns_tree : List Pattern → Tree
patterns_tree patterns = listed (map pattern_tree patterns)

abbrev pub outputs_tree : List Output → Tree
outputs_tree outputs = listed (map output_tree outputs)

-- ---- expressions and statements of these parts

abbrev pub if_expr_tree : (test first other : Expr) → (at : ℕ) → Tree
if_expr_tree test first other at = tree.if_expr (expr_tree test) (expr_tree first)
    (expr_tree other) at

abbrev pub assign_tree : Ident → List Expr → Expr → (at : ℕ) → Tree
assign_tree name places value at = tree.assign (ident_tree name) (exprs_tree places)
    (expr_tree value) at

abbrev pub if_stmt_tree : Expr → List Stmt → Option (Vec Stmt Heap) → (at : ℕ) → Tree
if_stmt_tree test first other at = tree.if_stmt (expr_tree test) (stmts_tree first)
    (body_tree other) at

abbrev pub foreach_tree : TypeExpr → Ident → (from to : Expr) → List Stmt → (at : ℕ) → Tree
foreach_tree shape name from to body at = tree.foreach_stmt (type_tree shape) (ident_tree name)
    (expr_tree from) (expr_tree to) (stmts_tree body) at

-- ---- parts that were made, as trees

abbrev pub member_trees : Vec Member Heap → List Tree
member_trees members = map member_tree members.items

abbrev pub port_trees : Vec PortDecl Heap → List Tree
port_trees ports = map port_tree ports.items

abbrev pub expr_trees : Vec Expr Heap → List Tree
expr_trees exprs = map expr_tree exprs.items

abbrev pub gen_trees : Vec Gen Heap → List Tree
gen_trees gens = map gen_tree gens.items

abbrev pub type_arg_trees : Vec TypeArg Heap → List Tree
type_arg_trees args = map type_arg_tree args.items

abbrev pub stmt_trees : Vec Stmt Heap → List Tree
stmt_trees stmts = map stmt_tree stmts.items

abbrev pub pattern_trees : Vec Pattern Heap → List Tree
pattern_trees patterns = map pattern_tree patterns.items

abbrev pub output_trees : Vec Output Heap → List Tree
output_trees outputs = map output_tree outputs.items

abbrev pub var_trees : Vec VarDecl Heap → List Tree
var_trees vars = map var_tree vars.items
