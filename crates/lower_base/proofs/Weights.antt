-- How much is left to lower: the measure of the lowering functions.
use Rattle.std.proofs.Common.{ℕ, ◌+◌}
use Rattle.cal_ast.specs.Tree as tree
use Rattle.cal_ast.specs.Tree.{Tree}

abbrev pub size : Tree → ℕ
size (tree.paren e at) = 8 + size e
size (tree.if_expr test first other at) = 8 + size test + size first + size other
size (tree.index base place at) = 8 + size base + size place
size (tree.call name args at) = 8 + size args
size (tree.cons e es) = 3 + size e + size es
size (tree.prefix op e at) = 8 + size e
size (tree.binary op l r at) = 8 + size l + size r
size other = 1

-- .. of the variables of a block
abbrev pub spread : Tree → ℕ
spread (tree.cons v vars) = 3 + spread vars
spread other = 0

-- .. of those of statements
abbrev pub weight : Tree → ℕ
weight (tree.if_stmt test first other at) = 8 + weight first + weight other
weight (tree.while_stmt test body at) = 8 + weight body
weight (tree.foreach_stmt shape name from to body at) = 8 + weight body
weight (tree.block vars body at) = 8 + spread vars + weight body
weight (tree.cons s rest) = 1 + weight s + weight rest
weight (tree.present body) = 1 + weight body
weight other = 1
