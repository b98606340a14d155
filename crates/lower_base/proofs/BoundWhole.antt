-- Nothing is left out of a number that is written by literals and `-` alone.
use Rattle.std.proofs.Common.{◌≡◌, ℤ, List, refl, sym, ap, ◌∙◌, subst, Option, None, Some}
use Rattle.cal_ast.specs.declared.expr.PrefixOp.{PrefixOp}
use Rattle.cal_ast.specs.declared.expr.PrefixOp.TheVariants.{Neg}
use Rattle.cal_ast.specs.declared.expr.BinOp.{BinOp}
use Rattle.cal_ast.specs.declared.expr.BinOp.TheVariants.{Sub}
use Rattle.cal_ast.specs.Tree as tree
use Rattle.cal_ast.specs.Tree.{Tree}
use Rattle.lower_base.specs.Bounds.{bound_of, difference_of, opposite_of}
use Rattle.lower_base.specs.Callees.{Function}
use Rattle.lower_base.specs.Growing.{left_out_in, ◌or_else◌}
use Rattle.lower_base.specs.Names.{Name}

opposite_some : (o : PrefixOp) (b : Option ℤ) (z : ℤ) → opposite_of o b ≡ Some z → (a : ℤ) × (b ≡ Some a)
opposite_some Neg None z e = cc
opposite_some Neg (Some a) z e = (a, refl)
opposite_some o b z e = cc

-- both sides of a difference are numbers
abbrev AreSome : BinOp → Option ℤ → Option ℤ → Type 0
AreSome o b d = (o ≡ Sub) × ((x : ℤ) × (b ≡ Some x)) × ((y : ℤ) × (d ≡ Some y))

difference_some : (o : BinOp) (b d : Option ℤ) (z : ℤ) → difference_of o b d ≡ Some z → AreSome o b d
difference_some Sub None d z e = cc
difference_some Sub (Some a) None z e = cc
difference_some Sub (Some a) (Some c) z e = (refl, (a, refl), (c, refl))
difference_some o b d z e = cc

pub bound_whole : (fs : List Function) (names : List Name) (e : Tree) (z : ℤ) → bound_of e ≡ Some z → left_out_in fs names e ≡ None
bound_whole fs names (tree.number k at) z h = refl
bound_whole fs names (tree.paren e at) z h = bound_whole fs names e z h
bound_whole fs names (tree.prefix o e at) z h = let a = opposite_some o (bound_of e) z h in bound_whole fs names e a.0 a.1
bound_whole fs names (tree.binary o l r at) z h =
    let both = difference_some o (bound_of l) (bound_of r) z h in
    subst (λ p. left_out_in fs names (tree.binary p l r at) ≡ None) (sym both.0)
    (ap (λ o. o or_else left_out_in fs names r) (bound_whole fs names l both.1.0 both.1.1) ∙ bound_whole fs names r both.2.0 both.2.1)
bound_whole fs names other z h = cc
