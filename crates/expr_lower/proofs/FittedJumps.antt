-- Jumps into the part behind them, and back to a turn.
use Rattle.std.proofs.Common.{◌≡◌, ℕ, zero, suc, ◌+◌, ◌<◌, ◌≤◌, inl, inr, ⊎_elim, List, [], ◌∷◌, ◌++◌, length, refl, ap, ◌∙◌, subst, Some, arith, length-append}
use Rattle.std.specs.Prelude.{slice_get}
use Rattle.code_ir.specs.declared.instr.Instr.{Instr}
use Rattle.code_ir.specs.declared.instr.Instr.TheVariants as op
use Rattle.code_ir.specs.Code.{Code}
use Rattle.lower_base.specs.Fitting.{FitsAt, Fits}
use Rattle.lower_base.proofs.Fitted.{Plain, fits_like, get_append, glued, glued_before, glued_from}

module _ (code : Code) (callable limit : ℕ) where
  -- nothing
  pub fits_none : (base h : ℕ) → Plain code callable limit base h [] h
  fits_none base h = record {
    height = λ p. h;
    first = refl;
    last = refl;
    exit = refl;
    at = λ j i g. cc;
  }

  -- a jump into the part behind it
  pub fits_goto : (base h k t out e g : ℕ) (c : List Instr) (x : Fits code callable limit (base + 1) g c k out e) → base + 1 ≤ t → t ≤ base + 1 + length c → x.height t ≡ h → base + 1 ≤ out
      → (z : Fits code callable limit base h (op.Jump t ∷ c) k out e) × ((p : ℕ) → base + 1 ≤ p → z.height p ≡ x.height p)
  fits_goto base h k t out e g c x ge le at_t far = (
    record {
      height = glued (λ p. h) x.height (base + 1);
      first = glued_before (λ p. h) x.height (base + 1) base (omega arith);
      last = glued_from (λ p. h) x.height (base + 1) (base + length (op.Jump t ∷ c)) (omega arith) ∙ ap x.height whole ∙ x.last;
      exit = glued_from (λ p. h) x.height (base + 1) out far ∙ x.exit;
      at = λ j i g. one j i g;
    },
    λ p l. glued_from (λ p. h) x.height (base + 1) p l,
  )
    where
      whole : base + length (op.Jump t ∷ c) ≡ base + 1 + length c
      whole = omega arith

      one : (j : ℕ) (i : Instr) → slice_get (op.Jump t ∷ c) j ≡ Some i → FitsAt code callable limit base (base + length (op.Jump t ∷ c)) out (glued (λ p. h) x.height (base + 1)) (base + j) i
      one zero i g =
          let same : op.Jump t ≡ i = cc in
          let now : glued (λ p. h) x.height (base + 1) (base + 0) ≡ h = glued_before (λ p. h) x.height (base + 1) (base + 0) (omega arith) in
          subst (λ y. FitsAt code callable limit base (base + length (op.Jump t ∷ c)) out (glued (λ p. h) x.height (base + 1)) (base + 0) y) same (record {
            enough = omega arith;
            next = λ on. cc;
            jump = λ u f. let is : t ≡ u = cc in let there : glued (λ p. h) x.height (base + 1) u ≡ h = subst (λ q. glued (λ p. h) x.height (base + 1) q ≡ h) is (glued_from (λ p. h) x.height (base + 1) t ge ∙ at_t) in omega (arith, there, now);
            inside = λ u f. let is : t ≡ u = cc in (inl (omega (arith, is, ge)), omega (arith, is, ge), inl (omega (arith, is, le)));
            cells = tt;
            calls = tt;
            inner = tt;
            sized = tt;
          })
      one (suc j) i g =
          let place : base + 1 + j ≡ base + suc j = omega arith in
          subst (λ p. FitsAt code callable limit base (base + length (op.Jump t ∷ c)) out (glued (λ p. h) x.height (base + 1)) p i) place
          (fits_like code callable limit (base + 1) (base + 1 + length c) out base (base + length (op.Jump t ∷ c)) out x.height (glued (λ p. h) x.height (base + 1)) (base + 1 + j) i (x.at j i g)
          (glued_from (λ p. h) x.height (base + 1) (base + 1 + j) (omega arith))
          (λ on. glued_from (λ p. h) x.height (base + 1) (base + 1 + j + 1) (omega arith))
          (λ u less into. (glued_from (λ p. h) x.height (base + 1) u less, omega (arith, less), ⊎_elim (λ (w : u ≤ base + 1 + length c). inl (omega (arith, w))) (λ (w : u ≡ out). inr w) into)))

  -- a jump back to a turn, behind a part that may jump past it
  pub fits_back : (base h back out : ℕ) (a : List Instr) (x : Fits code callable limit base h a h out h) → out ≡ base + length a + 1 → base ≤ back → back ≤ base + length a → x.height back ≡ h
      → slice_get code.instrs back ≡ Some op.Turn → Plain code callable limit base h (a ++ op.Jump back ∷ []) h
  fits_back base h back out a x out_is ge le at_back turns = record {
    height = x.height;
    first = x.first;
    last = ap x.height whole ∙ x.exit;
    exit = ap x.height whole ∙ x.exit;
    at = λ j i g. ⊎_elim (λ (l : (j < length a) × (slice_get a j ≡ Some i)). before j i l.0 l.1)
        (λ (l : (q : ℕ) × (j ≡ length a + q) × (slice_get (op.Jump back ∷ []) q ≡ Some i)). last_one j l.0 i l.1 l.2) (get_append a (op.Jump back ∷ []) j i g);
  }
    where
      size : length (a ++ op.Jump back ∷ []) ≡ length a + 1
      size = length-append a (op.Jump back ∷ [])

      whole : base + length (a ++ op.Jump back ∷ []) ≡ out
      whole = omega (arith, size, out_is)

      before : (j : ℕ) (i : Instr) → j < length a → slice_get a j ≡ Some i → FitsAt code callable limit base (base + length (a ++ op.Jump back ∷ [])) (base + length (a ++ op.Jump back ∷ [])) x.height (base + j) i
      before j i less g =
          fits_like code callable limit base (base + length a) out base (base + length (a ++ op.Jump back ∷ [])) (base + length (a ++ op.Jump back ∷ [])) x.height x.height (base + j) i (x.at j i g) refl (λ on. refl)
          (λ t low into. (refl, low, inl (⊎_elim (λ (w : t ≤ base + length a). let far = whole in omega (arith, w, size)) (λ (w : t ≡ out). omega (arith, w, whole)) into)))

      last_one : (j q : ℕ) (i : Instr) → j ≡ length a + q → slice_get (op.Jump back ∷ []) q ≡ Some i → FitsAt code callable limit base (base + length (a ++ op.Jump back ∷ [])) (base + length (a ++ op.Jump back ∷ [])) x.height (base + j) i
      last_one j zero i l g =
          let same : op.Jump back ≡ i = cc in
          let place : base + j ≡ base + length a = omega (arith, l) in
          let now : x.height (base + j) ≡ h = ap x.height place ∙ x.last in
          subst (λ y. FitsAt code callable limit base (base + length (a ++ op.Jump back ∷ [])) (base + length (a ++ op.Jump back ∷ [])) x.height (base + j) y) same (record {
            enough = omega arith;
            next = λ on. cc;
            jump = λ t f. let is : back ≡ t = cc in let there : x.height t ≡ h = subst (λ u. x.height u ≡ h) is at_back in omega (arith, there, now);
            inside = λ t f. let is : back ≡ t = cc in (inr (subst (λ u. slice_get code.instrs u ≡ Some op.Turn) is turns), omega (arith, is, ge), inl (omega (arith, is, le, size)));
            cells = tt;
            calls = tt;
            inner = tt;
            sized = tt;
          })
      last_one j (suc q) i l g = cc
