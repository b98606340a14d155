-- Each number of the language is written out by numbers and `-` alone.
use Rattle.std.proofs.Common.{◌≡◌, ℕ, zero, suc, ℤ, pos, negsuc, ◌-ℤ◌, refl, ap, ◌∙◌, arith}
use Rattle.std.specs.Prelude.{if◌then◌else◌, neg_ℤ}
use Rattle.std.proofs.lemmas.Int.{ints}
use Rattle.rvc_base.specs.Width.{IsNum}
use Rattle.rvc_base.specs.Arithmetic.{Computed, whole}
use Rattle.rvc_base.specs.Arithmetic as arithmetic
use Rattle.rvc_base.specs.declared.trap.Trap.TheVariants.{Overflow}
use Rattle.cal_ast.specs.declared.expr.PrefixOp.TheVariants.{Neg}
use Rattle.cal_ast.specs.declared.expr.BinOp.TheVariants.{Sub}
use Rattle.cal_ast.specs.Tree as tree
use Rattle.cal_ast.specs.Tree.{Tree}
use Rattle.cal_model.specs.Value.{Num}
use Rattle.cal_model.specs.Outcome.{Gives, and_then}
use Rattle.cal_model.specs.Env.{Env}
use Rattle.cal_model.specs.Expression.{Calls, computed, prefixed, with_right, eval}
use Rattle.cal_model.specs.Laws.{IsWrittenAs}
use Rattle.cal_model.proofs.Numbers.{num-is}

whole-gives : (z : ℤ) → IsNum z → whole z ≡ arithmetic.Gives z
whole-gives z h = ap (λ b. if b then arithmetic.Gives z else arithmetic.Traps Overflow) (num-is z h)

-- `-n - 1`
abbrev below_zero : ℕ → Tree
below_zero n = tree.binary Sub (tree.prefix Neg (tree.number n 0) 0) (tree.number 1 0) 0

smaller : (n : ℕ) → IsNum (negsuc n) → IsNum (pos n)
smaller n h = omega (arith, ints)

neg-is-num : (n : ℕ) → IsNum (negsuc n) → IsNum (neg_ℤ (pos n))
neg-is-num zero h = omega (arith, ints)
neg-is-num (suc n) h = omega (arith, ints)

one-is-num : (n : ℕ) → IsNum (negsuc n) → IsNum (pos 1)
one-is-num n h = omega (arith, ints)

one-less : (n : ℕ) → neg_ℤ (pos n) -ℤ pos 1 ≡ negsuc n
one-less zero = refl
one-less (suc n) = omega (arith, ints)

below-zero-gives : (n : ℕ) → IsNum (negsuc n) → (calls : Calls) (env : Env) (left : ℕ) → eval (below_zero n) calls env left ≡ Gives (Num (negsuc n)) left
below-zero-gives n h calls env left =
    let one = whole-gives (pos n) (smaller n h) in
    let two = whole-gives (neg_ℤ (pos n)) (neg-is-num n h) in
    let three = whole-gives (pos 1) (one-is-num n h) in
    let four : whole (neg_ℤ (pos n) -ℤ pos 1) ≡ arithmetic.Gives (negsuc n) = ap whole (one-less n) ∙ whole-gives (negsuc n) h in
    ap (λ o. and_then (and_then (computed o left) (λ v m. prefixed Neg v m)) (λ v m. with_right Sub v (λ k. computed (whole (pos 1)) k) m)) one
    ∙ ap (λ o. and_then (computed o left) (λ v m. with_right Sub v (λ k. computed (whole (pos 1)) k) m)) two
    ∙ ap (λ o. with_right Sub (Num (neg_ℤ (pos n))) (λ k. computed o k) left) three
    ∙ ap (λ o. computed o left) four

pub number-written : (z : ℤ) → IsNum z → IsWrittenAs z
number-written (pos n) h = record {
  written = tree.number n 0;
  plain = tt;
  value = λ calls env left. ap (λ o. computed o left) (whole-gives (pos n) h);
}
number-written (negsuc n) h = record {
  written = below_zero n;
  plain = (tt, tt);
  value = below-zero-gives n h;
}
