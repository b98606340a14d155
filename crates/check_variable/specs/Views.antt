-- Declarations, without where they lie in memory.
-- Trusted: part of what a promise means.
use Rattle.std.specs.Prelude.{List, map}
use Rattle.cal_ast.specs.Tree.{Tree, listed}
use Rattle.cal_ast.specs.View.{member_tree, optional_expr, param_tree, port_tree, type_tree}
use Rattle.cal_ast.specs.declared.member.Member.{Member}
use Rattle.cal_ast.specs.declared.member.Param.{Param}
use Rattle.cal_ast.specs.declared.member.PortDecl.{PortDecl}
use Rattle.cal_check.specs.Variables.{VarDecl}
use Rattle.check_variable.specs.declared.declared.DeclaredVar.{DeclaredVar}

abbrev pub var_decl : DeclaredVar → VarDecl
var_decl x = record {
  name = x.name.now;
  file = x.file;
  shape = type_tree x.shape.now;
  start = optional_expr x.start.now;
  changes = x.changes;
  is_param = x.is_param;
}

abbrev pub var_decls : List DeclaredVar → List VarDecl
var_decls xs = map var_decl xs

abbrev pub params_tree : List Param → Tree
params_tree params = listed (map param_tree params)

abbrev pub members_tree : List Member → Tree
members_tree members = listed (map member_tree members)

abbrev pub ports_tree : List PortDecl → Tree
ports_tree ports = listed (map port_tree ports)
