-- How large a part is: the measure of the functions that go through trees.
use Rattle.std.proofs.Common.{ℕ, ◌+◌}
use Rattle.cal_ast.specs.Tree as tree
use Rattle.cal_ast.specs.Tree.{Tree}

abbrev pub size : Tree → ℕ
size (tree.cons t ts) = 8 + size t + size ts
size (tree.present t) = 4 + size t
size (tree.call name args at) = 8 + size args
size (tree.paren e at) = 8 + size e
size (tree.if_expr test first other at) = 8 + size test + size first + size other
size (tree.list items at) = 8 + size items
size (tree.comp item gens at) = 8 + size item + size gens
size (tree.gen shape name from to at) = 8 + size shape + size from + size to
size (tree.index base place at) = 8 + size base + size place
size (tree.prefix op e at) = 8 + size e
size (tree.binary op l r at) = 8 + size l + size r
size (tree.type_of name args at) = 8 + size args
size (tree.shape_arg name shape) = 8 + size shape
size (tree.value_arg name value) = 8 + size value
size (tree.if_stmt test first other at) = 8 + size first + size other
size (tree.while_stmt test body at) = 8 + size body
size (tree.foreach_stmt shape name from to body at) = 8 + size body
size (tree.block vars body at) = 8 + size body
size other = 1
