-- Numbers that are written out give what they are seen to be.
use Rattle.std.proofs.Common.{◌≡◌, ℕ, zero, suc, ℤ, pos, Bool, true, false, refl, ap, ◌∙◌, subst, Option, None, Some, arith}
use Rattle.std.specs.Prelude.{if◌then◌else◌, ◌-ℤ◌, neg_ℤ}
use Rattle.std.proofs.lemmas.Bool.Decides.{nat_tests}
use Rattle.rvc_base.specs.declared.trap.Trap.TheVariants.{Overflow}
use Rattle.rvc_base.specs.Arithmetic as arithmetic
use Rattle.rvc_base.specs.Arithmetic.{Computed}
use Rattle.rvc_base.specs.Width.{is_num, IsNum}
use Rattle.cal_ast.specs.declared.expr.PrefixOp.{PrefixOp}
use Rattle.cal_ast.specs.declared.expr.PrefixOp.TheVariants.{Neg}
use Rattle.cal_ast.specs.declared.expr.BinOp.{BinOp}
use Rattle.cal_ast.specs.declared.expr.BinOp.TheVariants.{Sub}
use Rattle.cal_ast.specs.Tree as tree
use Rattle.cal_ast.specs.Tree.{Tree}
use Rattle.cal_model.specs.Value.{Value, Num}
use Rattle.cal_model.specs.Outcome.{Out, Gives, and_then}
use Rattle.cal_model.specs.Env.{Env}
use Rattle.cal_model.specs.Expression.{Calls, applied, computed, eval, prefixed, with_right}
use Rattle.cal_model.proofs.Numbers.{is-num}
use Rattle.lower_base.specs.Bounds.{bound_of, difference_of, number_given, opposite_of}

pub negative_num : (k : ℕ) → is_num (pos k) ≡ true → is_num (neg_ℤ (pos k)) ≡ true
negative_num zero h = h
negative_num (suc j) h = grind (arith, nat_tests)

given_is : (c : Computed) (z : ℤ) (left : ℕ) → number_given c ≡ Some z → computed c left ≡ Gives (Num z) left
given_is (arithmetic.Gives y) z left e = let same : y ≡ z = cc in ap (λ x. Gives (Num x) left) same
given_is (arithmetic.Traps c) z left e = cc

opposite_gives : (o : PrefixOp) (b : Option ℤ) (z : ℤ) (out : Out Value) (left : ℕ) → opposite_of o b ≡ Some z → ((a : ℤ) → b ≡ Some a → out ≡ Gives (Num a) left) → and_then out (λ v m. prefixed o v m) ≡ Gives (Num z) left
opposite_gives Neg None z out left e h = cc
opposite_gives Neg (Some a) z out left e h = ap (λ (x : Out Value). and_then x (λ v m. prefixed Neg v m)) (h a refl) ∙ given_is (arithmetic.neg a) z left e
opposite_gives o b z out left e h = cc

difference_gives : (o : BinOp) (b d : Option ℤ) (z : ℤ) (out : Out Value) (right : ℕ → Out Value) (left : ℕ) → difference_of o b d ≡ Some z → ((a : ℤ) → b ≡ Some a → out ≡ Gives (Num a) left) → ((a : ℤ) → d ≡ Some a → right left ≡ Gives (Num a) left)
    → and_then out (λ v m. with_right o v right m) ≡ Gives (Num z) left
difference_gives Sub None d z out right left e h g = cc
difference_gives Sub (Some a) None z out right left e h g = cc
difference_gives Sub (Some a) (Some c) z out right left e h g =
    ap (λ (x : Out Value). and_then x (λ v m. with_right Sub v right m)) (h a refl)
    ∙ ap (λ (x : Out Value). and_then x (λ w m. applied Sub (Num a) w m)) (g c refl) ∙ given_is (arithmetic.sub a c) z left e
difference_gives o b d z out right left e h g = cc

pub bound_gives : (e : Tree) (z : ℤ) (calls : Calls) (env : Env) (left : ℕ) → bound_of e ≡ Some z → eval e calls env left ≡ Gives (Num z) left
bound_gives (tree.number k at) z calls env left h = given_is (arithmetic.whole (pos k)) z left h
bound_gives (tree.paren e at) z calls env left h = bound_gives e z calls env left h
bound_gives (tree.prefix o e at) z calls env left h = opposite_gives o (bound_of e) z (eval e calls env left) left h (λ a i. bound_gives e a calls env left i)
bound_gives (tree.binary o l r at) z calls env left h =
    difference_gives o (bound_of l) (bound_of r) z (eval l calls env left) (λ k. eval r calls env k) left h (λ a i. bound_gives l a calls env left i) (λ a i. bound_gives r a calls env left i)
bound_gives other z calls env left h = cc

whole_num : (x z : ℤ) → number_given (arithmetic.whole x) ≡ Some z → IsNum z
whole_num x z e = go (is_num x) refl e
  where
    go : (b : Bool) → is_num x ≡ b → number_given (if b then arithmetic.Gives x else arithmetic.Traps Overflow) ≡ Some z → IsNum z
    go true is h = let same : x ≡ z = cc in subst IsNum same (is-num x is)
    go false is h = cc

opposite_num : (o : PrefixOp) (b : Option ℤ) (z : ℤ) → opposite_of o b ≡ Some z → IsNum z
opposite_num Neg None z e = cc
opposite_num Neg (Some a) z e = whole_num (neg_ℤ a) z e
opposite_num o b z e = cc

difference_num : (o : BinOp) (b d : Option ℤ) (z : ℤ) → difference_of o b d ≡ Some z → IsNum z
difference_num Sub None d z e = cc
difference_num Sub (Some a) None z e = cc
difference_num Sub (Some a) (Some c) z e = whole_num (a -ℤ c) z e
difference_num o b d z e = cc

pub bound_num : (e : Tree) (z : ℤ) → bound_of e ≡ Some z → IsNum z
bound_num (tree.number k at) z h = whole_num (pos k) z h
bound_num (tree.paren e at) z h = bound_num e z h
bound_num (tree.prefix o e at) z h = opposite_num o (bound_of e) z h
bound_num (tree.binary o l r at) z h = difference_num o (bound_of l) (bound_of r) z h
bound_num other z h = cc
