-- How much is left to evaluate: the measure of the evaluator.
use Rattle.std.proofs.Common.{ℕ, ◌+◌, ◌*◌, List, [], ◌∷◌}
use Rattle.std.specs.Prelude.{Option, None, Some}
use Rattle.cal_ast.specs.Tree as tree
use Rattle.cal_ast.specs.Tree.{Tree}
use Rattle.cal_model.specs.Actor.{Local, Fun}
use Rattle.const_env.specs.Held.{held}
use Rattle.const_expr.specs.declared.scope.Scope.{Scope}

abbrev pub size : Tree → ℕ
size (tree.cons t ts) = 8 + size t + size ts
size (tree.call name args at) = 8 + size args
size (tree.paren e at) = 8 + size e
size (tree.if_expr test first other at) = 8 + size test + size first + size other
size (tree.list items at) = 8 + size items
size (tree.comp item gens at) = 8 + size item + size gens
size (tree.gen shape name from to at) = 8 + size shape + size from + size to
size (tree.index base place at) = 8 + size base + size place
size (tree.prefix op e at) = 8 + size e
size (tree.binary op l r at) = 8 + size l + size r
size (tree.type_of name args at) = 8 + size args
size (tree.shape_arg name shape) = 8 + size shape
size (tree.value_arg name value) = 8 + size value
size other = 1

abbrev pub start_size : Option Tree → ℕ
start_size None = 0
start_size (Some e) = 4 + size e

abbrev pub locals_size : List Local → ℕ
locals_size [] = 1
locals_size (x ∷ xs) = 4 + start_size x.start + locals_size xs

abbrev pub fun_size : Fun → ℕ
fun_size f = 4 + locals_size f.locals + size f.body

abbrev pub weight : List Fun → ℕ
weight [] = 1
weight (f ∷ fs) = fun_size f + weight fs

-- what all calls together may take that may still be opened
abbrev pub room : Scope → ℕ
room s = s.depth * weight (held s.env.now).funs
