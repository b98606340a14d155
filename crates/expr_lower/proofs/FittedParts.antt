-- Parts of loops that fit side by side.
use Rattle.std.proofs.Common.{◌≡◌, ℕ, ◌+◌, ◌<◌, ◌≤◌, inl, inr, ⊎_elim, List, [], ◌∷◌, ◌++◌, length, refl, ◌∙◌, arith}
use Rattle.std.proofs.lemmas.Option.{slice_get_within}
use Rattle.rvc_base.specs.declared.scalar.Scalar.{Scalar}
use Rattle.rvc_base.specs.Storing.{IsSize}
use Rattle.code_ir.specs.declared.instr.Instr.{Instr}
use Rattle.code_ir.specs.declared.instr.Instr.TheVariants as op
use Rattle.code_ir.specs.Code.{Code}
use Rattle.lower_base.specs.Fitting.{Fits}
use Rattle.lower_base.proofs.Fitted.{Plain, fits_like, fits_one, fits_then, glued, glued_before, glued_from, plain_then}
use Rattle.std.proofs.Common.{None, Some}

module _ (code : Code) (callable limit : ℕ) where
  abbrev Fit : ℕ → ℕ → List Instr → ℕ → ℕ → ℕ → Type 0
  Fit base h instrs k out e = Fits code callable limit base h instrs k out e

  abbrev Whole : ℕ → ℕ → List Instr → ℕ → Type 0
  Whole base h instrs k = Plain code callable limit base h instrs k

  -- a part, and another that may jump out
  pub then_plain : (base h k m out e : ℕ) (a b : List Instr) → Whole base h a k → (y : Fit (base + length a) k b m out e) → base + length a ≤ out
      → (z : Fit base h (a ++ b) m out e) × ((p : ℕ) → base + length a ≤ p → z.height p ≡ y.height p)
  then_plain base h k m out e a b x y far = fits_then code callable limit base h k m (base + length a) k out e a b x y (omega arith) y.first (inl (omega arith)) far

  -- two parts that may both jump out
  pub then_exit : (base h k m out e : ℕ) (a b : List Instr) → Fit base h a k out e → (y : Fit (base + length a) k b m out e) → base + length a ≤ out
      → (z : Fit base h (a ++ b) m out e) × ((p : ℕ) → base + length a ≤ p → z.height p ≡ y.height p)
  then_exit base h k m out e a b x y far = fits_then code callable limit base h k m out e out e a b x y far y.exit (inr refl) far

  pub load : (base h c : ℕ) → c + 1 ≤ limit → Whole base h (op.Load c ∷ []) (h + 1)
  load base h c le = fits_one code callable limit base h (h + 1) (op.Load c) (omega arith) (omega arith) refl le tt tt tt

  pub store : (base h c : ℕ) → c + 1 ≤ limit → Whole base (h + 1) (op.Store c None ∷ []) h
  store base h c le = fits_one code callable limit base (h + 1) h (op.Store c None) (omega arith) (omega arith) refl le tt tt tt

  pub store_in : (base h c : ℕ) (t : Scalar) → c + 1 ≤ limit → IsSize t → Whole base (h + 1) (op.Store c (Some t) ∷ []) h
  store_in base h c t le sized = fits_one code callable limit base (h + 1) h (op.Store c (Some t)) (omega arith) (omega arith) refl le tt tt sized

  -- two cells compared
  pub compared : (base h n : ℕ) (i : Instr) → n + 1 + 1 ≤ limit → ((place : ℕ) → Whole place (h + 1 + 1) (i ∷ []) (h + 1)) → Whole base h (op.Load n ∷ op.Load (n + 1) ∷ i ∷ []) (h + 1)
  compared base h n i le comparing =
      plain_then code callable limit base h (h + 1) (h + 1) (op.Load n ∷ []) (op.Load (n + 1) ∷ i ∷ []) (load base h n (omega (arith, le)))
      (plain_then code callable limit (base + 1) (h + 1) (h + 1 + 1) (h + 1) (op.Load (n + 1) ∷ []) (i ∷ []) (load (base + 1) (h + 1) (n + 1) le) (comparing (base + 1 + 1)))

  -- a part that doesn't jump out, where others do
  pub fits_wide : (base h k out e : ℕ) (a : List Instr) (x : Whole base h a k) → base + length a < out → Fit base h a k out e
  fits_wide base h k out e a x less = record {
    height = glued x.height (λ p. e) (base + length a + 1);
    first = glued_before x.height (λ p. e) (base + length a + 1) base (omega arith) ∙ x.first;
    last = glued_before x.height (λ p. e) (base + length a + 1) (base + length a) (omega arith) ∙ x.last;
    exit = glued_from x.height (λ p. e) (base + length a + 1) out (omega (arith, less));
    at = λ j i g.
        let within = slice_get_within a j i g in
        fits_like code callable limit base (base + length a) (base + length a) base (base + length a) out x.height (glued x.height (λ p. e) (base + length a + 1)) (base + j) i (x.at j i g)
        (glued_before x.height (λ p. e) (base + length a + 1) (base + j) (omega (arith, within)))
        (λ on. glued_before x.height (λ p. e) (base + length a + 1) (base + j + 1) (omega (arith, within)))
        (λ t low into. ⊎_elim (λ (w : t ≤ base + length a). (glued_before x.height (λ p. e) (base + length a + 1) t (omega (arith, w)), low, inl w))
        (λ (w : t ≡ base + length a). (glued_before x.height (λ p. e) (base + length a + 1) t (omega (arith, w)), low, inl (omega (arith, w)))) into);
  }
