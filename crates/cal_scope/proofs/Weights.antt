-- How large a part is: the measure of the functions that go through trees.
use Rattle.std.proofs.Common.{ℕ, zero, suc, ◌+◌, ◌<◌, List, [], ◌∷◌, map, length, get_or, arith}
use Rattle.cal_ast.specs.Tree as tree
use Rattle.cal_ast.specs.Tree.{Tree, listed}
use Rattle.cal_ast.specs.View.{expr_tree, gen_tree, type_arg_tree}
use Rattle.cal_ast.specs.declared.expr.Expr.{Expr}
use Rattle.cal_ast.specs.declared.expr.Gen.{Gen}
use Rattle.cal_ast.specs.declared.expr.TypeArg.{TypeArg}

abbrev pub size : Tree → ℕ
size (tree.cons t ts) = 8 + size t + size ts
size (tree.call name args at) = 8 + size args
size (tree.paren e at) = 8 + size e
size (tree.if_expr test first other at) = 8 + size test + size first + size other
size (tree.list items at) = 8 + size items
size (tree.comp item gens at) = 8 + size item + size gens
size (tree.gen shape name from to at) = 8 + size shape + size from + size to
size (tree.index base place at) = 8 + size base + size place
size (tree.prefix op e at) = 8 + size e
size (tree.binary op l r at) = 8 + size l + size r
size (tree.type_of name args at) = 8 + size args
size (tree.shape_arg name shape) = 8 + size shape
size (tree.value_arg name value) = 8 + size value
size other = 1

-- a part of a list is smaller than the list
pub expr_at : (es : List Expr) (n : ℕ) (d : Expr) → n < length es → size (expr_tree (get_or es n d)) < size (listed (map expr_tree es))
expr_at [] n d h = absurd (omega arith)
expr_at (e ∷ es) zero d h = omega arith
expr_at (e ∷ es) (suc n) d h = let l = expr_at es n d (omega arith) in omega arith

pub arg_at : (ts : List TypeArg) (n : ℕ) (d : TypeArg) → n < length ts → size (type_arg_tree (get_or ts n d)) < size (listed (map type_arg_tree ts))
arg_at [] n d h = absurd (omega arith)
arg_at (a ∷ ts) zero d h = omega arith
arg_at (a ∷ ts) (suc n) d h = let l = arg_at ts n d (omega arith) in omega arith

pub gen_at : (gs : List Gen) (n : ℕ) (d : Gen) → n < length gs → size (gen_tree (get_or gs n d)) < size (listed (map gen_tree gs))
gen_at [] n d h = absurd (omega arith)
gen_at (g ∷ gs) zero d h = omega arith
gen_at (g ∷ gs) (suc n) d h = let l = gen_at gs n d (omega arith) in omega arith
