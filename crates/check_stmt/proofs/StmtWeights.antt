-- How large statements are: the measure of the functions that go through them.
use Rattle.std.proofs.Common.{ℕ, zero, suc, ◌+◌, ◌<◌, List, [], ◌∷◌, map, length, get_or, arith}
use Rattle.cal_ast.specs.Tree as tree
use Rattle.cal_ast.specs.Tree.{Tree, listed}
use Rattle.cal_ast.specs.View.{stmt_tree}
use Rattle.cal_ast.specs.declared.stmt.Stmt.{Stmt}

abbrev pub size : Tree → ℕ
size (tree.cons t ts) = 8 + size t + size ts
size (tree.present ss) = 4 + size ss
size (tree.if_stmt test first other at) = 8 + size first + size other
size (tree.while_stmt test body at) = 8 + size body
size (tree.foreach_stmt shape name from to body at) = 8 + size body
size (tree.block vars body at) = 8 + size body
size other = 1

-- a statement is smaller than those among which it stands
pub stmt_at : (ss : List Stmt) (n : ℕ) (d : Stmt) → n < length ss → size (stmt_tree (get_or ss n d)) < size (listed (map stmt_tree ss))
stmt_at [] n d h = absurd (omega arith)
stmt_at (s ∷ ss) zero d h = omega arith
stmt_at (s ∷ ss) (suc n) d h = let l = stmt_at ss n d (omega arith) in omega arith
