-- Numbers that are written out.
-- Trusted: part of what a promise means.
use Rattle.std.specs.Prelude.{ℤ, pos, Option, None, Some}
use Rattle.rvc_base.specs.Arithmetic.{Computed, Gives, Traps, neg, sub, whole}
use Rattle.cal_ast.specs.declared.expr.PrefixOp.{PrefixOp}
use Rattle.cal_ast.specs.declared.expr.PrefixOp.TheVariants.{Neg}
use Rattle.cal_ast.specs.declared.expr.BinOp.{BinOp}
use Rattle.cal_ast.specs.declared.expr.BinOp.TheVariants.{Sub}
use Rattle.cal_ast.specs.Tree as tree
use Rattle.cal_ast.specs.Tree.{Tree}

-- the number that an operation gives, if it gives one
abbrev pub number_given : Computed → Option ℤ
number_given (Gives z) = Some z
number_given (Traps c) = None

abbrev pub opposite_of : PrefixOp → Option ℤ → Option ℤ
opposite_of Neg (Some a) = number_given (neg a)
opposite_of o a = None

abbrev pub difference_of : BinOp → Option ℤ → Option ℤ → Option ℤ
difference_of Sub (Some a) (Some b) = number_given (sub a b)
difference_of o a b = None

-- the number that is written by literals and `-` alone, if each part of it is one of the language
abbrev pub bound_of : Tree → Option ℤ
bound_of (tree.number k at) = number_given (whole (pos k))
bound_of (tree.paren e at) = bound_of e
bound_of (tree.prefix o e at) = opposite_of o (bound_of e)
bound_of (tree.binary o l r at) = difference_of o (bound_of l) (bound_of r)
bound_of other = None
