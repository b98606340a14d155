-- Code that fits, with an answer behind it, is admitted.
use Rattle.std.proofs.Common.{◌≡◌, ℕ, zero, suc, ◌+◌, ◌-◌, ◌<◌, ◌≤◌, ◌⊎◌, inl, inr, ⊎_elim, List, [], ◌∷◌, ◌++◌, length, true, false, refl, sym, ap, ◌∙◌, subst, Some, arith, length-append}
use Rattle.std.specs.Prelude.{slice_get, ◌==◌, ◌||◌, if◌then◌else◌}
use Rattle.std.proofs.lemmas.Bool.Decides.{nat_tests}
use Rattle.code_ir.specs.declared.instr.Instr.{Instr}
use Rattle.code_ir.specs.declared.instr.Instr.TheVariants as op
use Rattle.code_ir.specs.Code.{Code, is_among, body_of, routine_of}
use Rattle.code_ir.specs.Typing.{Way, begin, next, jump, pops, pushes, goes_on, target, IsAdmitted, IsTyped, IsTarget, JumpsInside, StandsInBody, LeavesResults, HasSizes, AllSized}
use Rattle.lower_base.specs.Fitting.{IsInner, FitsAt, Fits, guard_of}
use Rattle.lower_base.proofs.Fitted.{get_append}

inner_stands : (i : Instr) → IsInner i → StandsInBody 0 0 i
inner_stands op.Return h = absurd h
inner_stands op.Answer h = absurd h
inner_stands op.Done h = absurd h
inner_stands i h = tt

inner_leaves : (code : Code) (p h : ℕ) (i : Instr) → IsInner i → LeavesResults code p h i
inner_leaves code p h op.Return x = absurd x
inner_leaves code p h i x = tt

not_first : (p : ℕ) → is_among (suc p) (0 ∷ []) ≡ false
not_first p = let e : (0 == suc p) ≡ false = grind (arith, nat_tests) in ap (λ b. b || false) e

-- the only body begins at 0
one_body : (instrs : List Instr) (cells p : ℕ) → body_of (guard_of instrs cells) p ≡ 0
one_body instrs cells zero = refl
one_body instrs cells (suc p) = ap (λ b. if b then suc p else body_of (guard_of instrs cells) p) (not_first p) ∙ one_body instrs cells p

true_false : true ≡ false → ⊥
true_false e = cc

begins_at : (p : ℕ) → is_among p (0 ∷ []) ≡ true → p ≡ 0
begins_at zero h = refl
begins_at (suc p) h = let e = not_first p in absurd (true_false (sym h ∙ e))

module _ (instrs : List Instr) (cells : ℕ) (fits : Fits (guard_of instrs cells) 0 cells 0 0 instrs 1 (length instrs) 1) where
  -- an instruction of the part, or the answer behind it
  abbrev Here : ℕ → Instr → Type 0
  Here p i = ((p < length instrs) × FitsAt (guard_of instrs cells) 0 cells 0 (length instrs) (length instrs) fits.height p i) ⊎ ((p ≡ length instrs) × (i ≡ op.Answer))

  here_is : (p : ℕ) (i : Instr) → slice_get (instrs ++ op.Answer ∷ []) p ≡ Some i → Here p i
  here_is p i e =
      ⊎_elim (λ (h : (p < length instrs) × (slice_get instrs p ≡ Some i)). inl (h.0, at_zero h.1))
      (λ (h : (k : ℕ) × (p ≡ length instrs + k) × (slice_get (op.Answer ∷ []) k ≡ Some i)). inr (last h.0 h.1 h.2)) (get_append instrs (op.Answer ∷ []) p i e)
    where
      at_zero : slice_get instrs p ≡ Some i → FitsAt (guard_of instrs cells) 0 cells 0 (length instrs) (length instrs) fits.height p i
      at_zero g =
          let e0 : 0 + p ≡ p = omega arith in
          let e1 : 0 + length instrs ≡ length instrs = omega arith in
          subst (λ q. FitsAt (guard_of instrs cells) 0 cells 0 (length instrs) (length instrs) fits.height q i) e0
          (subst (λ n. FitsAt (guard_of instrs cells) 0 cells 0 n (length instrs) fits.height (0 + p) i) e1 (fits.at p i g))

      last : (k : ℕ) → p ≡ length instrs + k → slice_get (op.Answer ∷ []) k ≡ Some i → (p ≡ length instrs) × (i ≡ op.Answer)
      last zero e g = (omega arith, cc)
      last (suc k) e g = cc

  size : length (instrs ++ op.Answer ∷ []) ≡ length instrs + 1
  size = length-append instrs (op.Answer ∷ [])

  last_height : fits.height (length instrs) ≡ 1
  last_height = let e : 0 + length instrs ≡ length instrs = omega arith in subst (λ n. fits.height n ≡ 1) e fits.last

  -- each way has the height that is given
  way_height : (p h : ℕ) → Way (guard_of instrs cells) p h → h ≡ fits.height p
  way_height p h (begin at) = let e : p ≡ 0 = begins_at p at in sym (ap fits.height e ∙ fits.first)
  way_height p h (next {p = q} {h = k} {i = i} way at on enough) =
      let same : k ≡ fits.height q = way_height q k way in
      ⊎_elim (λ (f : (q < length instrs) × FitsAt (guard_of instrs cells) 0 cells 0 (length instrs) (length instrs) fits.height q i). ap (λ x. x - pops i + pushes (guard_of instrs cells) i) same ∙ sym (f.1.next on))
      (λ (f : (q ≡ length instrs) × (i ≡ op.Answer)). absurd (no_answer i f.1 on)) (here_is q i at)
    where
      no_answer : (i : Instr) → i ≡ op.Answer → goes_on i ≡ true → ⊥
      no_answer i e on = let f : goes_on op.Answer ≡ true = subst (λ x. goes_on x ≡ true) e on in cc
  way_height p h (jump {p = q} {h = k} {t = t} {i = i} way at to enough) =
      let same : k ≡ fits.height q = way_height q k way in
      ⊎_elim (λ (f : (q < length instrs) × FitsAt (guard_of instrs cells) 0 cells 0 (length instrs) (length instrs) fits.height q i). ap (λ x. x - pops i + pushes (guard_of instrs cells) i) same ∙ sym (f.1.jump p to))
      (λ (f : (q ≡ length instrs) × (i ≡ op.Answer)). absurd (no_jump i f.1 to)) (here_is q i at)
    where
      no_jump : (i : Instr) → i ≡ op.Answer → target i ≡ Some p → ⊥
      no_jump i e on = let f : target op.Answer ≡ Some p = subst (λ x. target x ≡ Some p) e on in cc

  zero_body : (p : ℕ) → routine_of (guard_of instrs cells) p ≡ 0
  zero_body p = refl

  jumps_inside : (p : ℕ) (i : Instr) → p < length instrs → FitsAt (guard_of instrs cells) 0 cells 0 (length instrs) (length instrs) fits.height p i → JumpsInside (guard_of instrs cells) p i
  jumps_inside p (op.Jump t) less f = jump_inside t (f.inside t refl).0 (f.inside t refl).2
    where
      jump_inside : (t : ℕ) → (p < t) ⊎ (slice_get (guard_of instrs cells).instrs t ≡ Some op.Turn) → (t ≤ length instrs) ⊎ (t ≡ length instrs) → IsTarget (guard_of instrs cells) p t
      jump_inside t more within = record {
        inside = ⊎_elim (λ (w : t ≤ length instrs). omega (arith, size)) (λ (w : t ≡ length instrs). omega (arith, size)) within;
        same_body = one_body instrs cells t ∙ sym (one_body instrs cells p);
        turns = λ le. ⊎_elim (λ (w : p < t). absurd (omega (arith, le, w))) (λ (w : slice_get (guard_of instrs cells).instrs t ≡ Some op.Turn). w) more;
      }
  jumps_inside p (op.JumpIfNot t) less f = jump_inside t (f.inside t refl).0 (f.inside t refl).2
    where
      jump_inside : (t : ℕ) → (p < t) ⊎ (slice_get (guard_of instrs cells).instrs t ≡ Some op.Turn) → (t ≤ length instrs) ⊎ (t ≡ length instrs) → IsTarget (guard_of instrs cells) p t
      jump_inside t more within = record {
        inside = ⊎_elim (λ (w : t ≤ length instrs). omega (arith, size)) (λ (w : t ≡ length instrs). omega (arith, size)) within;
        same_body = one_body instrs cells t ∙ sym (one_body instrs cells p);
        turns = λ le. ⊎_elim (λ (w : p < t). absurd (omega (arith, le, w))) (λ (w : slice_get (guard_of instrs cells).instrs t ≡ Some op.Turn). w) more;
      }
  jumps_inside p i less f = tt

  typed_inner : (p : ℕ) (i : Instr) → p < length instrs → FitsAt (guard_of instrs cells) 0 cells 0 (length instrs) (length instrs) fits.height p i → IsTyped (guard_of instrs cells) p i
  typed_inner p i less f = record {
    alone = record {
      body = inner_stands i f.inner;
      jumps = jumps_inside p i less f;
      cells = f.cells;
      calls = f.calls;
      after = record { inside = λ on. omega (arith, size); same_body = λ on. later p };
    };
    height = record {
      same = λ h k x y. way_height p h x ∙ sym (way_height p k y);
      enough = λ h x. subst (λ n. pops i ≤ n) (sym (way_height p h x)) f.enough;
      results = λ h x. inner_leaves (guard_of instrs cells) p h i f.inner;
    };
  }
    where
      later : (p : ℕ) → is_among (p + 1) (0 ∷ []) ≡ false
      later p = let e : p + 1 ≡ suc p = omega arith in subst (λ q. is_among q (0 ∷ []) ≡ false) (sym e) (not_first p)

  typed_last : (p : ℕ) → p ≡ length instrs → IsTyped (guard_of instrs cells) p op.Answer
  typed_last p e = record {
    alone = record {
      body = omega arith;
      jumps = tt;
      cells = tt;
      calls = tt;
      after = record { inside = λ on. cc; same_body = λ on. cc };
    };
    height = record {
      same = λ h k x y. way_height p h x ∙ sym (way_height p k y);
      enough = λ h x. let at : fits.height p ≡ 1 = ap fits.height e ∙ last_height in let same = way_height p h x in omega (arith, at, same);
      results = λ h x. tt;
    };
  }

  pub admits : IsAdmitted (guard_of instrs cells)
  admits = record {
    places = record { distinct = (omega (arith, size), refl, tt); first = λ some. refl };
    typed = λ p i at. ⊎_elim (λ (f : (p < length instrs) × FitsAt (guard_of instrs cells) 0 cells 0 (length instrs) (length instrs) fits.height p i). typed_inner p i f.0 f.1)
        (λ (f : (p ≡ length instrs) × (i ≡ op.Answer)). subst (IsTyped (guard_of instrs cells) p) (sym f.1) (typed_last p f.0)) (here_is p i at);
  }

  pub all_sized : AllSized (instrs ++ op.Answer ∷ [])
  all_sized p i at =
      ⊎_elim (λ (f : (p < length instrs) × FitsAt (guard_of instrs cells) 0 cells 0 (length instrs) (length instrs) fits.height p i). f.1.sized)
      (λ (f : (p ≡ length instrs) × (i ≡ op.Answer)). subst HasSizes (sym f.1) tt) (here_is p i at)
