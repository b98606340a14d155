-- Code of a `foreach` fits where it stands.
use Rattle.std.proofs.Common.{◌≡◌, ℕ, zero, suc, ◌+◌, ◌<◌, ◌≤◌, inl, inr, ⊎_elim, ℤ, List, [], ◌∷◌, ◌++◌, length, refl, sym, ap, ◌∙◌, subst, None, Some, arith, append_assoc, length-append}
use Rattle.std.specs.Prelude.{slice_get, pos}
use Rattle.rvc_base.specs.declared.scalar.Scalar.{Scalar}
use Rattle.rvc_base.specs.Storing.{IsSize}
use Rattle.code_ir.specs.declared.instr.Instr.{Instr}
use Rattle.code_ir.specs.declared.instr.Instr.TheVariants as op
use Rattle.code_ir.specs.Code.{Code}
use Rattle.lower_base.specs.Fitting.{FitsAt, Fits}
use Rattle.lower_stmt.specs.Stating.{count_first, count_next, each_head, each_tail}
use Rattle.lower_base.proofs.Fitted.{Plain, fits_branch, fits_const, fits_like, fits_one, get_append, glued, glued_before, glued_from, plain_then}
use Rattle.expr_lower.proofs.FittedJumps.{fits_back}
use Rattle.expr_lower.proofs.FittedParts.{compared, fits_wide, load, store, store_in, then_exit, then_plain}

module _ (code : Code) (callable limit : ℕ) where
  abbrev Fit : ℕ → ℕ → List Instr → ℕ → ℕ → ℕ → Type 0
  Fit base h instrs k out e = Fits code callable limit base h instrs k out e

  abbrev Whole : ℕ → ℕ → List Instr → ℕ → Type 0
  Whole base h instrs k = Plain code callable limit base h instrs k

  pub fits_each : (base h n place turn start out : ℕ) (a b c : List Instr) (t : Scalar) → n + 3 ≤ limit → IsSize t
      → Whole base h a (h + 1) → Whole (base + length a) (h + 1) b (h + 1 + 1) → Whole start h c h
      → place ≡ base + length a + length b → turn ≡ place + 6 → start ≡ turn + 3 → out ≡ start + length c + 9 → slice_get code.instrs turn ≡ Some op.Turn
      → Whole base h (a ++ (b ++ (each_head n t out ++ (c ++ each_tail n turn out)))) h
  fits_each base h n place turn start out a b c t le sized from to body place_is turn_is start_is out_is turns =
      let h1 : List Instr = op.Store (n + 1) None ∷ op.Store n None ∷ op.Load n ∷ op.Load (n + 1) ∷ op.Le ∷ [] in
      let h2 : List Instr = op.JumpIfNot out ∷ [] in
      let h3 : List Instr = op.Turn ∷ op.Load n ∷ op.Store (n + 2) (Some t) ∷ [] in
      let e1 : List Instr = op.Load n ∷ op.Load (n + 1) ∷ op.Lt ∷ [] in
      let e3 : List Instr = op.Load n ∷ op.Const (pos 1) ∷ op.Add ∷ op.Store n None ∷ [] in
      let p1 : ℕ = base + length a + length b in
      let p2 : ℕ = p1 + length h1 in
      let p3 : ℕ = p2 + length h2 in
      let pc : ℕ = p3 + length h3 in
      let q1 : ℕ = pc + length c in
      let q2 : ℕ = q1 + length e1 in
      let q3 : ℕ = q2 + length h2 in
      let stored : Whole p1 (h + 1 + 1) h1 (h + 1) =
      plain_then code callable limit p1 (h + 1 + 1) (h + 1) (h + 1) (op.Store (n + 1) None ∷ []) (op.Store n None ∷ op.Load n ∷ op.Load (n + 1) ∷ op.Le ∷ []) (store code callable limit p1 (h + 1) (n + 1) (omega (arith, le)))
      (plain_then code callable limit (p1 + 1) (h + 1) h (h + 1) (op.Store n None ∷ []) (op.Load n ∷ op.Load (n + 1) ∷ op.Le ∷ []) (store code callable limit (p1 + 1) h n (omega (arith, le)))
      (compared code callable limit (p1 + 1 + 1) h n op.Le (omega (arith, le)) (λ p. fits_one code callable limit p (h + 1 + 1) (h + 1) op.Le (omega arith) (omega arith) refl tt tt tt tt))) in
      let entered : Whole p3 h h3 h =
      plain_then code callable limit p3 h h h (op.Turn ∷ []) (op.Load n ∷ op.Store (n + 2) (Some t) ∷ []) (fits_one code callable limit p3 h h op.Turn (omega arith) (omega arith) refl tt tt tt tt)
      (plain_then code callable limit (p3 + 1) h (h + 1) h (op.Load n ∷ []) (op.Store (n + 2) (Some t) ∷ []) (load code callable limit (p3 + 1) h n (omega (arith, le))) (store_in code callable limit (p3 + 1 + 1) h (n + 2) t (omega (arith, le)) sized)) in
      let inner : Whole pc h c h = subst (λ p. Whole p h c h) (let e : start ≡ pc = omega (arith, place_is, turn_is, start_is) in e) body in
      let less : Whole q1 h e1 (h + 1) = compared code callable limit q1 h n op.Lt (omega (arith, le)) (λ p. fits_one code callable limit p (h + 1 + 1) (h + 1) op.Lt (omega arith) (omega arith) refl tt tt tt tt) in
      let next : Whole q3 h e3 h =
      plain_then code callable limit q3 h (h + 1) h (op.Load n ∷ []) (op.Const (pos 1) ∷ op.Add ∷ op.Store n None ∷ []) (load code callable limit q3 h n (omega (arith, le)))
      (plain_then code callable limit (q3 + 1) (h + 1) (h + 1 + 1) h (op.Const (pos 1) ∷ []) (op.Add ∷ op.Store n None ∷ []) (fits_const code callable limit (q3 + 1) (h + 1) (pos 1))
      (plain_then code callable limit (q3 + 1 + 1) (h + 1 + 1) (h + 1) h (op.Add ∷ []) (op.Store n None ∷ []) (fits_one code callable limit (q3 + 1 + 1) (h + 1 + 1) (h + 1) op.Add (omega arith) (omega arith) refl tt tt tt tt)
      (store code callable limit (q3 + 1 + 1 + 1) h n (omega (arith, le))))) in
      let far : out ≡ q3 + 5 = omega (arith, place_is, turn_is, start_is, out_is) in
      let r3 : Fit q3 h e3 h out h = fits_wide code callable limit q3 h h out h e3 next (omega (arith, far)) in
      let r2 = then_exit code callable limit q2 (h + 1) h h out h h2 e3 (fits_branch code callable limit q2 h out (omega (arith, far))) r3 (omega (arith, far)) in
      let r1 = then_plain code callable limit q1 h (h + 1) h out h e1 (h2 ++ e3) less r2.0 (omega (arith, far)) in
      let rc = then_plain code callable limit pc h h h out h c (e1 ++ (h2 ++ e3)) inner r1.0 (omega (arith, far)) in
      let s3 = then_plain code callable limit p3 h h h out h h3 (c ++ (e1 ++ (h2 ++ e3))) entered rc.0 (omega (arith, far)) in
      let s2 = then_exit code callable limit p2 (h + 1) h h out h h2 (h3 ++ (c ++ (e1 ++ (h2 ++ e3)))) (fits_branch code callable limit p2 h out (omega (arith, far))) s3.0 (omega (arith, far)) in
      let s1 = then_plain code callable limit p1 (h + 1 + 1) (h + 1) h out h h1 (h2 ++ (h3 ++ (c ++ (e1 ++ (h2 ++ e3))))) stored s2.0 (omega (arith, far)) in
      let tail : List Instr = h1 ++ (h2 ++ (h3 ++ (c ++ (e1 ++ (h2 ++ e3))))) in
      let sb = then_plain code callable limit (base + length a) (h + 1) (h + 1 + 1) h out h b tail to s1.0 (omega (arith, far)) in
      let sa = then_plain code callable limit base h (h + 1) h out h a (b ++ tail) from sb.0 (omega (arith, far)) in
      let turn_at : turn ≡ p3 = omega (arith, place_is, turn_is) in
      let at_turn : sa.0.height turn ≡ h = sa.1 turn (omega (arith, turn_at)) ∙ sb.1 turn (omega (arith, turn_at)) ∙ s1.1 turn (omega (arith, turn_at)) ∙ s2.1 turn (omega (arith, turn_at)) ∙ subst (λ p. s3.0.height p ≡ h) (sym turn_at) s3.0.first in
      let size : length (a ++ (b ++ tail)) ≡ length a + (length b + length tail) = length-append a (b ++ tail) ∙ ap (λ z. length a + z) (length-append b tail) in
      let sized_tail : length tail ≡ 17 + length c = omega (arith, length-append c (e1 ++ (h2 ++ e3))) in
      let whole : (a ++ (b ++ tail)) ++ op.Jump turn ∷ [] ≡ a ++ (b ++ (each_head n t out ++ (c ++ each_tail n turn out))) =
      append_assoc a (b ++ tail) (op.Jump turn ∷ []) ∙ ap (λ xs. a ++ xs) (append_assoc b tail (op.Jump turn ∷ []))
      ∙ ap (λ xs. a ++ (b ++ (each_head n t out ++ xs))) (append_assoc c (e1 ++ (h2 ++ e3)) (op.Jump turn ∷ [])) in
      subst (λ is. Whole base h is h) whole
      (fits_back code callable limit base h turn out (a ++ (b ++ tail)) sa.0 (omega (arith, size, sized_tail, far)) (omega (arith, turn_at)) (omega (arith, turn_at, size, sized_tail)) at_turn turns)

  -- ---- counted in the cell of the variable

  -- a jump back to a turn if a condition is false, behind a part that leaves the condition
  fits_again : (base h back out e : ℕ) (a : List Instr) (x : Fit base h a (h + 1) out e) → out ≡ base + length a → base ≤ back → back ≤ base + length a → x.height back ≡ h
      → slice_get code.instrs back ≡ Some op.Turn → Whole base h (a ++ op.JumpIfNot back ∷ []) h
  fits_again base h back out e a x out_is ge le at_back turns = record {
    height = now;
    first = glued_before x.height (λ p. h) (base + length a + 1) base (omega arith) ∙ x.first;
    last = glued_from x.height (λ p. h) (base + length a + 1) (base + length (a ++ op.JumpIfNot back ∷ [])) (omega (arith, size));
    exit = glued_from x.height (λ p. h) (base + length a + 1) (base + length (a ++ op.JumpIfNot back ∷ [])) (omega (arith, size));
    at = λ j i g. ⊎_elim (λ (l : (j < length a) × (slice_get a j ≡ Some i)). before j i l.0 l.1)
        (λ (l : (q : ℕ) × (j ≡ length a + q) × (slice_get (op.JumpIfNot back ∷ []) q ≡ Some i)). last_one j l.0 i l.1 l.2) (get_append a (op.JumpIfNot back ∷ []) j i g);
  }
    where
      now : ℕ → ℕ
      now p = glued x.height (λ q. h) (base + length a + 1) p

      size : length (a ++ op.JumpIfNot back ∷ []) ≡ length a + 1
      size = length-append a (op.JumpIfNot back ∷ [])

      before : (j : ℕ) (i : Instr) → j < length a → slice_get a j ≡ Some i → FitsAt code callable limit base (base + length (a ++ op.JumpIfNot back ∷ [])) (base + length (a ++ op.JumpIfNot back ∷ [])) now (base + j) i
      before j i less g =
          fits_like code callable limit base (base + length a) out base (base + length (a ++ op.JumpIfNot back ∷ [])) (base + length (a ++ op.JumpIfNot back ∷ [])) x.height now (base + j) i (x.at j i g)
          (glued_before x.height (λ q. h) (base + length a + 1) (base + j) (omega (arith, less)))
          (λ on. glued_before x.height (λ q. h) (base + length a + 1) (base + j + 1) (omega (arith, less)))
          (λ t low into.
          let near : t ≤ base + length a = ⊎_elim (λ (w : t ≤ base + length a). w) (λ (w : t ≡ out). omega (arith, w, out_is)) into in
          (glued_before x.height (λ q. h) (base + length a + 1) t (omega (arith, near)), low, inl (omega (arith, near, size))))

      last_one : (j q : ℕ) (i : Instr) → j ≡ length a + q → slice_get (op.JumpIfNot back ∷ []) q ≡ Some i → FitsAt code callable limit base (base + length (a ++ op.JumpIfNot back ∷ [])) (base + length (a ++ op.JumpIfNot back ∷ [])) now (base + j) i
      last_one j zero i l g =
          let same : op.JumpIfNot back ≡ i = cc in
          let place : base + j ≡ base + length a = omega (arith, l) in
          let here : now (base + j) ≡ h + 1 = glued_before x.height (λ q. h) (base + length a + 1) (base + j) (omega (arith, place)) ∙ ap x.height place ∙ x.last in
          let after : now (base + j + 1) ≡ h = glued_from x.height (λ q. h) (base + length a + 1) (base + j + 1) (omega (arith, place)) in
          let there : now back ≡ h = glued_before x.height (λ q. h) (base + length a + 1) back (omega (arith, le)) ∙ at_back in
          subst (λ y. FitsAt code callable limit base (base + length (a ++ op.JumpIfNot back ∷ [])) (base + length (a ++ op.JumpIfNot back ∷ [])) now (base + j) y) same (record {
            enough = omega (arith, here);
            next = λ on. omega (arith, here, after);
            jump = λ t f. let is : back ≡ t = cc in let target : now t ≡ h = subst (λ u. now u ≡ h) is there in omega (arith, target, here);
            inside = λ t f. let is : back ≡ t = cc in (inr (subst (λ u. slice_get code.instrs u ≡ Some op.Turn) is turns), omega (arith, is, ge), inl (omega (arith, is, le, size)));
            cells = tt;
            calls = tt;
            inner = tt;
            sized = tt;
          })
      last_one j (suc q) i l g = cc

  pub fits_counted : (base h n : ℕ) (low high : ℤ) (c : List Instr) → n + 1 ≤ limit → Whole (base + 3) h c h → slice_get code.instrs (base + 2) ≡ Some op.Turn
      → Whole base h (count_first n low ++ op.Turn ∷ (c ++ count_next n high (base + 2))) h
  fits_counted base h n low high c le body turns =
      let e1 : List Instr = op.Load n ∷ op.Const (pos 1) ∷ op.Add ∷ op.Store n None ∷ [] in
      let e2 : List Instr = op.Load n ∷ op.Const high ∷ op.Gt ∷ [] in
      let p : ℕ = base + 2 in
      let q : ℕ = p + 1 + length c in
      let r : ℕ = q + length e1 in
      let head : Whole base h (count_first n low) h = plain_then code callable limit base h (h + 1) h (op.Const low ∷ []) (op.Store n None ∷ []) (fits_const code callable limit base h low) (store code callable limit (base + 1) h n le) in
      let next : Whole q h e1 h =
      plain_then code callable limit q h (h + 1) h (op.Load n ∷ []) (op.Const (pos 1) ∷ op.Add ∷ op.Store n None ∷ []) (load code callable limit q h n le)
      (plain_then code callable limit (q + 1) (h + 1) (h + 1 + 1) h (op.Const (pos 1) ∷ []) (op.Add ∷ op.Store n None ∷ []) (fits_const code callable limit (q + 1) (h + 1) (pos 1))
      (plain_then code callable limit (q + 1 + 1) (h + 1 + 1) (h + 1) h (op.Add ∷ []) (op.Store n None ∷ []) (fits_one code callable limit (q + 1 + 1) (h + 1 + 1) (h + 1) op.Add (omega arith) (omega arith) refl tt tt tt tt)
      (store code callable limit (q + 1 + 1 + 1) h n le))) in
      let tested : Whole r h e2 (h + 1) =
      plain_then code callable limit r h (h + 1) (h + 1) (op.Load n ∷ []) (op.Const high ∷ op.Gt ∷ []) (load code callable limit r h n le)
      (plain_then code callable limit (r + 1) (h + 1) (h + 1 + 1) (h + 1) (op.Const high ∷ []) (op.Gt ∷ []) (fits_const code callable limit (r + 1) (h + 1) high)
      (fits_one code callable limit (r + 1 + 1) (h + 1 + 1) (h + 1) op.Gt (omega arith) (omega arith) refl tt tt tt tt)) in
      let inner : Whole (p + 1) h c h = subst (λ b. Whole b h c h) (let e : base + 3 ≡ p + 1 = omega arith in e) body in
      let counted : Whole (p + 1) h (c ++ (e1 ++ e2)) (h + 1) = plain_then code callable limit (p + 1) h h (h + 1) c (e1 ++ e2) inner (plain_then code callable limit q h h (h + 1) e1 e2 next tested) in
      let loop : Whole p h (op.Turn ∷ (c ++ (e1 ++ e2))) (h + 1) =
      plain_then code callable limit p h h (h + 1) (op.Turn ∷ []) (c ++ (e1 ++ e2)) (fits_one code callable limit p h h op.Turn (omega arith) (omega arith) refl tt tt tt tt) counted in
      let tail : List Instr = op.Turn ∷ (c ++ (e1 ++ e2)) in
      let all = then_plain code callable limit base h h (h + 1) (p + length tail) (h + 1) (count_first n low) tail head loop (omega arith) in
      let whole : (count_first n low ++ tail) ++ op.JumpIfNot p ∷ [] ≡ count_first n low ++ op.Turn ∷ (c ++ count_next n high p) =
      ap (λ is. count_first n low ++ op.Turn ∷ is) (append_assoc c (e1 ++ e2) (op.JumpIfNot p ∷ [])) in
      subst (λ is. Whole base h is h) whole
      (fits_again base h p (p + length tail) (h + 1) (count_first n low ++ tail) all.0 (omega arith) (omega arith) (omega arith) (all.1 p (omega arith) ∙ loop.first) turns)
