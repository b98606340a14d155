-- How much is left to lower: the measure of the functions that lower expressions.
use Rattle.std.proofs.Common.{ℕ, ◌+◌}
use Rattle.cal_ast.specs.Tree as tree
use Rattle.cal_ast.specs.Tree.{Tree}

-- of generators
abbrev pub spread : Tree → ℕ
spread (tree.cons g gens) = 10 + spread gens
spread other = 0

abbrev pub weight : Tree → ℕ
weight (tree.paren e at) = 20 + weight e
weight (tree.if_expr test first other at) = 20 + weight test + weight first + weight other
weight (tree.index base place at) = 30 + weight base + weight place
weight (tree.call name args at) = 20 + weight args
weight (tree.prefix op e at) = 20 + weight e
weight (tree.binary op l r at) = 20 + weight l + weight r
weight (tree.list es at) = 20 + weight es
weight (tree.comp item gens at) = 40 + weight item + spread gens
weight (tree.cons e es) = 20 + weight e + weight es
weight other = 1
