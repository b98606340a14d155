-- An actor with the declarations of other files, as its checks take it.
-- Trusted: part of what a promise means.
use Rattle.std.specs.Prelude.{false, map}
use Rattle.cal_ast.specs.Tree as tree
use Rattle.cal_ast.specs.Tree.{Tree}
use Rattle.cal_check.specs.Variables.{VarDecl}
use Rattle.cal_check.specs.Routines.{FunDecl}
use Rattle.cal_check.specs.Actors.{Source}
use Rattle.cal_imports.specs.ScopeView.{scope_view}
use Rattle.cal_imports.specs.Whole.{Outer, Scope}
use Rattle.cal_imports.specs.declared.scope.Scope.{Scope as Resolved}

abbrev pub shape_of : Tree → Tree
shape_of (tree.var shape name start changes at) = shape
shape_of other = tree.nil

abbrev pub start_of : Tree → Tree
start_of (tree.var shape name start changes at) = start
start_of other = tree.absent

-- a variable of another file, which doesn't change
abbrev pub var_of : Outer → VarDecl
var_of o = record {
  name = o.name;
  file = o.file;
  shape = shape_of o.decl;
  start = start_of o.decl;
  changes = false;
  is_param = false;
}

abbrev pub fun_of : Outer → FunDecl
fun_of o = record { name = o.name; file = o.file; decl = o.decl }

-- what the checks of an actor take
abbrev pub source_of : Scope → Source
source_of s = record {
  class = s.class;
  file = s.file;
  actor = s.actor;
  vars = map var_of s.vars;
  funs = map fun_of s.funs;
}

abbrev pub source_in : Resolved → Source
source_in s = source_of (scope_view s)
