-- How much of a type is left to read: the measure of the functions that read it.
use Rattle.std.proofs.Common.{ℕ, ◌+◌}
use Rattle.cal_ast.specs.Tree as tree
use Rattle.cal_ast.specs.Tree.{Tree}

abbrev pub type_weight : Tree → ℕ
type_weight (tree.type_of name args at) = 4 + type_weight args
type_weight (tree.cons x xs) = 1 + type_weight x + type_weight xs
type_weight (tree.shape_arg name shape) = 1 + type_weight shape
type_weight other = 0
