-- Lists of parts as trees.
-- Trusted: part of what a promise means.
use Rattle.std.specs.Prelude.{List, map, Option, option_map, Vec}
use Rattle.std.specs.declared.alloc.Global.{Global as Heap}
use Rattle.cal_ast.specs.Tree.{Tree, listed}
use Rattle.cal_ast.specs.View.{ident_tree, import_tree, optional, param_tree}
use Rattle.cal_ast.specs.declared.file.Import.{Import}
use Rattle.cal_ast.specs.declared.ident.Ident.{Ident}
use Rattle.cal_ast.specs.declared.member.Param.{Param}

abbrev pub imports_tree : List Import → Tree
imports_tree imports = listed (map import_tree imports)

-- parameters that were made, as trees
abbrev pub param_trees : Vec Param Heap → List Tree
param_trees params = map param_tree params.items

-- a name that may be missing
abbrev pub optional_name : Option Ident → Tree
optional_name name = optional (option_map ident_tree name)
