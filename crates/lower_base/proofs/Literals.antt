-- Which literals are numbers, and what a minus sign makes of them.
use Rattle.std.proofs.Common.{◌≡◌, ℕ, Bool, true, false, refl, pos, ℤ, SFits, List, [], ◌∷◌}
use Rattle.rvc_base.specs.Width.{is_num, num_width}
use Rattle.cal_model.proofs.Numbers.{is-num, num-is}
use Rattle.cal_ast.specs.declared.expr.PrefixOp.{PrefixOp}
use Rattle.cal_ast.specs.declared.expr.PrefixOp.TheVariants as prefixes
use Rattle.cal_ast.specs.Tree as tree
use Rattle.cal_ast.specs.Tree.{Tree}
use Rattle.code_ir.specs.declared.instr.Instr.TheVariants as op
use Rattle.lower_base.specs.Names.{Name}
use Rattle.lower_base.specs.Coding.{IsCode, negative}
use Rattle.lower_base.specs.Callees.{Function}
use Rattle.lower_base.specs.Growing.{IsNegative}

pub fits_num : (k : ℕ) → SFits num_width (pos k) → is_num (pos k) ≡ true
fits_num k h = num-is (pos k) h

unfit : (k : ℕ) (b : Bool) → is_num (pos k) ≡ b → (SFits num_width (pos k) → ⊥) → is_num (pos k) ≡ false
unfit k true e h = absurd (h (is-num (pos k) e))
unfit k false e h = e

pub unfit_num : (k : ℕ) → (SFits num_width (pos k) → ⊥) → is_num (pos k) ≡ false
unfit_num k h = unfit k (is_num (pos k)) refl h

pub negative_coded : {fs : List Function} (names : List Name) (o : PrefixOp) (e : Tree) (z : ℤ) (at base n : ℕ) → IsNegative o e z → IsCode fs names (tree.prefix o e at) base n (op.Const z ∷ []) n
negative_coded names prefixes.Neg (tree.number k place) z at base n h = rw h.1 (negative k at base n place h.0)
negative_coded names o e z at base n h = absurd h
