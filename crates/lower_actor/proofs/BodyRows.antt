-- A row of bodies that fit is admitted.
use Rattle.std.proofs.Common.{◌≡◌, ℕ, zero, suc, ◌+◌, ◌-◌, ◌<◌, ◌≤◌, ◌⊎◌, inl, inr, ⊎_elim, Bool, true, false, List, [], ◌∷◌, ◌++◌, map, length, refl, sym, ap, subst, ◌∙◌, Some, arith}
use Rattle.std.specs.Prelude.{slice_get, ◌==◌, ◌||◌, nat_le, if◌then◌else◌}
use Rattle.std.proofs.lemmas.Bool.{cases_lt, eq-eqb, eqb-true, le-leb, leb-true}
use Rattle.code_ir.specs.declared.instr.Instr.{Instr}
use Rattle.code_ir.specs.declared.instr.Instr.TheVariants as op
use Rattle.code_ir.specs.declared.instr.Routine.{Routine}
use Rattle.code_ir.specs.Code.{Code, begins, body_of, is_among, results_of, routine_at, routine_of}
use Rattle.code_ir.specs.Typing.{AllSized, AreDistinct, CallsSmaller, HasSizes, IsTarget, IsTyped, JumpsInside, LeavesResults, StandsInBody, Way, begin, goes_on, jump, next, pops, pushes, target}
use Rattle.lower_base.specs.Fitting.{FitsAt, IsInner}
use Rattle.lower_base.specs.Placed.{StandsAt}
use Rattle.lower_actor.specs.Fitting.{AreBodies, BodiesAreAdmitted, EndsBody, IsBody, body_more, no_body}
use Rattle.lower_actor.proofs.Sent.{below}

either : (a b : Bool) → (a || b) ≡ true → (a ≡ true) ⊎ (b ≡ true)
either true b h = inl refl
either false b h = inr h

both-false : (a b : Bool) → a ≡ false → b ≡ false → (a || b) ≡ false
both-false true b h k = absurd (cc)
both-false false b h k = k

not-eq : (a b : ℕ) → a < b → (a == b) ≡ false
not-eq a b low = by (a == b) refl
  where
    by : (c : Bool) → (a == b) ≡ c → (a == b) ≡ false
    by true e = absurd (let same = eqb-true a b e in omega (arith, low, same))
    by false e = e

not-le : (n m : ℕ) → m < n → nat_le n m ≡ false
not-le n m low = by (nat_le n m) refl
  where
    by : (b : Bool) → nat_le n m ≡ b → nat_le n m ≡ false
    by true e = absurd (let h = leb-true n m e in omega (arith, h, low))
    by false e = e

inner_stands : (n r : ℕ) (i : Instr) → IsInner i → StandsInBody n r i
inner_stands n r op.Return h = absurd h
inner_stands n r op.Answer h = absurd h
inner_stands n r op.Done h = absurd h
inner_stands n r i h = tt

inner_leaves : (code : Code) (p h : ℕ) (i : Instr) → IsInner i → LeavesResults code p h i
inner_leaves code p h op.Return x = absurd x
inner_leaves code p h i x = tt

calls-more : (k n : ℕ) (i : Instr) → k ≤ n → CallsSmaller k i → CallsSmaller n i
calls-more k n (op.Call r) le h = omega (arith, le, h)
calls-more k n i le h = tt

-- which body begins at a place: a routine's, or one behind those of all routines
routine-number : (size : ℕ) (rs : List Routine) (es : List ℕ) (k b : ℕ) → AreDistinct size (map (λ r. r.start) rs ++ es) → slice_get (map (λ r. r.start) rs ++ es) k ≡ Some b
    → (k < length rs → routine_at rs b ≡ k) × (length rs ≤ k → routine_at rs b ≡ length rs)
routine-number size [] es k b h e = (λ low. absurd (omega (arith, low)), λ high. refl)
routine-number size (r ∷ rs) es zero b h e =
    let same : r.start ≡ b = cc in
    (λ low. ap (λ c. if c then 0 else suc (routine_at rs b)) (eq-eqb r.start b same), λ high. absurd (omega (arith, high)))
routine-number size (r ∷ rs) es (suc k) b h e =
    let more = routine-number size rs es k b h.2 e in
    let differ : (r.start == b) ≡ false = by (r.start == b) refl in
    let is : routine_at (r ∷ rs) b ≡ suc (routine_at rs b) = ap (λ c. if c then 0 else suc (routine_at rs b)) differ in (
      λ low. let one = more.0 (omega (arith, low)) in is ∙ ap suc one,
      λ high. let one = more.1 (omega (arith, high)) in is ∙ ap suc one,
    )
  where
    amid : (ps : List ℕ) (j p : ℕ) → slice_get ps j ≡ Some p → is_among p ps ≡ false → ⊥
    amid [] j p f g = absurd (cc)
    amid (q ∷ ps) zero p f g =
        let same : q ≡ p = cc in
        let yes : is_among p (q ∷ ps) ≡ true = ap (λ c. c || is_among p ps) (eq-eqb q p same) in
        let no : true ≡ false = sym yes ∙ g in
        absurd (cc)
    amid (q ∷ ps) (suc j) p f g = amid ps j p f (later (q == p) (is_among p ps) g)
      where
        later : (a c : Bool) → (a || c) ≡ false → c ≡ false
        later true c h = absurd (cc)
        later false c h = h

    by : (c : Bool) → (r.start == b) ≡ c → (r.start == b) ≡ false
    by true f = absurd (amid (map (λ r. r.start) rs ++ es) k b e (subst (λ p. is_among p (map (λ r. r.start) rs ++ es) ≡ false) (eqb-true r.start b f) h.1))
    by false f = f

-- what stands in code is what is there
stood : (all : List Instr) (place : ℕ) (instrs : List Instr) (j : ℕ) (i : Instr) → StandsAt all place instrs → j < length instrs → slice_get all (place + j) ≡ Some i → slice_get instrs j ≡ Some i
stood all place [] j i h low e = absurd (omega (arith, low))
stood all place (x ∷ instrs) zero i h low e = let at : place + 0 ≡ place = omega arith in sym h.0 ∙ ap (slice_get all) (sym at) ∙ e
stood all place (x ∷ instrs) (suc j) i h low e =
    let at : place + 1 + j ≡ place + suc j = omega arith in
    stood all (place + 1) instrs j i h.1 (omega (arith, low)) (ap (slice_get all) at ∙ e)

module _ (whole : Code) where
  -- the end of a body is there, and not before its begin
  end-there : (k b e : ℕ) → IsBody whole k b e → (e < length whole.instrs) × (b ≤ e)
  end-there k b e body = (below whole.instrs e body.last body.ends, let at = body.at_end in omega (arith, at))

  abbrev height-in : {n k : ℕ} {es : List ℕ} → AreBodies whole n k es → ℕ → ℕ
  height-in (no_body n k h) p = 0
  height-in (body_more b e k es body rest) p = if nat_le p e then body.fits.height p else height-in rest p

  height-here : (b e k : ℕ) (es : List ℕ) (body : IsBody whole k b e) (rest : AreBodies whole (e + 1) (k + 1) es) (p : ℕ) → p ≤ e → height-in (body_more b e k es body rest) p ≡ body.fits.height p
  height-here b e k es body rest p low = ap (λ c. if c then body.fits.height p else height-in rest p) (le-leb p e low)

  height-later : (b e k : ℕ) (es : List ℕ) (body : IsBody whole k b e) (rest : AreBodies whole (e + 1) (k + 1) es) (p : ℕ) → e < p → height-in (body_more b e k es body rest) p ≡ height-in rest p
  height-later b e k es body rest p high = ap (λ c. if c then body.fits.height p else height-in rest p) (not-le p e high)

  -- entries aren't before the first body, and begin at no height
  entries-from : {n k : ℕ} {es : List ℕ} → AreBodies whole n k es → (p : ℕ) → is_among p es ≡ true → n ≤ p
  entries-from (no_body n k h) p e = absurd (cc)
  entries-from (body_more b e k es body rest) p at =
      ⊎_elim (λ (h : (b == p) ≡ true). let same = eqb-true b p h in omega (arith, same))
      (λ (h : is_among p es ≡ true). let low = entries-from rest p h in let there = (end-there k b e body).1 in omega (arith, low, there)) (either (b == p) (is_among p es) at)

  none-before : {n k : ℕ} {es : List ℕ} → AreBodies whole n k es → (p : ℕ) → p < n → is_among p es ≡ false
  none-before {n} {k} {es} rows p low = by (is_among p es) refl
    where
      by : (c : Bool) → is_among p es ≡ c → is_among p es ≡ false
      by true e = absurd (let h = entries-from rows p e in omega (arith, low, h))
      by false e = e

  entry-at : {n k : ℕ} {es : List ℕ} (rows : AreBodies whole n k es) (p : ℕ) → is_among p es ≡ true → (p < length whole.instrs) × (height-in rows p ≡ 0)
  entry-at (no_body n k h) p at = absurd (cc)
  entry-at (body_more b e k es body rest) p at =
      ⊎_elim
      (λ (h : (b == p) ≡ true).
      let same : b ≡ p = eqb-true b p h in
      let there = end-there k b e body in
      let low : p ≤ e = let g = there.1 in omega (arith, same, g) in
      ((let f = there.0 in omega (arith, low, f)), height-here b e k es body rest p low ∙ ap body.fits.height (sym same) ∙ body.fits.first))
      (λ (h : is_among p es ≡ true).
      let later = entry-at rest p h in
      let from = entries-from rest p h in
      (later.0, height-later b e k es body rest p (omega (arith, from)) ∙ later.1))
      (either (b == p) (is_among p es) at)

  -- ---- the body of a place

  record Found {n k : ℕ} {es : List ℕ} (rows : AreBodies whole n k es) (p : ℕ) : Type 0 where
    b : ℕ
    e : ℕ
    number : ℕ
    at : ℕ
    counted : number ≡ k + at
    body : IsBody whole number b e
    is : slice_get es at ≡ Some b
    from : b ≤ p
    to : p ≤ e
    among : is_among b es ≡ true
    lone : (q : ℕ) → b < q → q ≤ e → is_among q es ≡ false
    heights : (q : ℕ) → b ≤ q → q ≤ e → height-in rows q ≡ body.fits.height q

  found : {n k : ℕ} {es : List ℕ} (rows : AreBodies whole n k es) (p : ℕ) → n ≤ p → p < length whole.instrs → Found rows p
  found (no_body n k h) p from low = absurd (omega (arith, h, from, low))
  found (body_more b e k es body rest) p from low =
      ⊎_elim
      (λ (past : e < p).
      let one = found rest p (omega (arith, past)) low in
      let start = entries-from rest one.b one.among in
      let there = (end-there k b e body).1 in
      record {
        b = one.b;
        e = one.e;
        number = one.number;
        at = suc one.at;
        counted = let c = one.counted in omega (arith, c);
        body = one.body;
        is = one.is;
        from = one.from;
        to = one.to;
        among = ap (λ c. (b == one.b) || c) one.among ∙ or-true (b == one.b);
        lone = λ q above within. both-false (b == q) (is_among q es) (not-eq b q (omega (arith, start, there, above))) (one.lone q above within);
        heights = λ q f t. height-later b e k es body rest q (omega (arith, start, f)) ∙ one.heights q f t;
      })
      (λ (here : p ≤ e). record {
        b = b;
        e = e;
        number = k;
        at = 0;
        counted = omega arith;
        body = body;
        is = refl;
        from = from;
        to = here;
        among = ap (λ c. c || is_among b es) (eq-eqb b b refl);
        lone = λ q above within. both-false (b == q) (is_among q es) (not-eq b q above) (none-before rest q (omega (arith, within)));
        heights = λ q f t. height-here b e k es body rest q t;
      })
      (cases_lt e p)
    where
      or-true : (c : Bool) → (c || true) ≡ true
      or-true true = refl
      or-true false = refl

  distinct : {n k : ℕ} {es : List ℕ} → AreBodies whole n k es → AreDistinct (length whole.instrs) es
  distinct (no_body n k h) = tt
  distinct (body_more b e k es body rest) =
      let there = end-there k b e body in
      ((let f = there.0 in let g = there.1 in omega (arith, f, g)), none-before rest b (let g = there.1 in omega (arith, g)), distinct rest)

  module _ (rows : AreBodies whole 0 0 (begins whole)) where
    abbrev height : ℕ → ℕ
    height = height-in rows

    at : (p : ℕ) → p < length whole.instrs → Found rows p
    at p low = found rows p (omega arith) low

    -- an instruction of a body, or its last one
    abbrev Here : (p : ℕ) → Found rows p → Instr → Type 0
    Here p f i = ((p < f.e) × FitsAt whole f.body.callable whole.cells f.b (f.b + length f.body.instrs) (f.b + length f.body.instrs) f.body.fits.height p i)
        ⊎ ((p ≡ f.e) × EndsBody whole f.number f.body.left i)

    here-is : (p : ℕ) (f : Found rows p) (i : Instr) → slice_get whole.instrs p ≡ Some i → Here p f i
    here-is p f i e = by (cases_lt p f.e)
      where
        by : (p < f.e) ⊎ (f.e ≤ p) → Here p f i
        by (inl less) =
            let from = f.from in
            let end = f.body.at_end in
            let place : f.b + (p - f.b) ≡ p = omega (arith, from) in
            let low : p - f.b < length f.body.instrs = omega (arith, from, end, less) in
            inl (
              less,
              subst (λ q. FitsAt whole f.body.callable whole.cells f.b (f.b + length f.body.instrs) (f.b + length f.body.instrs) f.body.fits.height q i) place
                  (f.body.fits.at (p - f.b) i (stood whole.instrs f.b f.body.instrs (p - f.b) i f.body.stands low (ap (slice_get whole.instrs) place ∙ e))),
            )
        by (inr past) =
            let to = f.to in
            let same : p ≡ f.e = omega (arith, to, past) in
            let is : f.body.last ≡ i = let g = f.body.ends ∙ refl in let h : slice_get whole.instrs f.e ≡ Some i = ap (slice_get whole.instrs) (sym same) ∙ e in cc in
            inr (same, subst (EndsBody whole f.number f.body.left) is f.body.is_end)

    -- the last instruction of a body leads nowhere
    end-stays : (number left : ℕ) (i : Instr) → EndsBody whole number left i → goes_on i ≡ true → ⊥
    end-stays number left op.Return h on = cc
    end-stays number left op.Answer h on = cc
    end-stays number left op.Done h on = cc
    end-stays number left i h on = absurd h

    end-jumps : (number left t : ℕ) (i : Instr) → EndsBody whole number left i → target i ≡ Some t → ⊥
    end-jumps number left t op.Return h on = cc
    end-jumps number left t op.Answer h on = cc
    end-jumps number left t op.Done h on = cc
    end-jumps number left t i h on = absurd h

    way-height : (p h : ℕ) → Way whole p h → (p < length whole.instrs) × (h ≡ height p)
    way-height p h (begin among) =
        let one = entry-at rows p among in
        (one.0, sym one.1)
    way-height p h (next {p = q} {h = k} {i = i} way is on enough) =
        let before = way-height q k way in
        let f = at q before.0 in
        ⊎_elim
        (λ (g : (q < f.e) × FitsAt whole f.body.callable whole.cells f.b (f.b + length f.body.instrs) (f.b + length f.body.instrs) f.body.fits.height q i).
        let from = f.from in
        let less = g.0 in
        let top = (end-there f.number f.b f.e f.body).0 in (
          omega (arith, less, top),
          ap (λ x. x - pops i + pushes whole i) (before.1 ∙ f.heights q f.from f.to) ∙ sym (g.1.next on) ∙ sym (f.heights (q + 1) (omega (arith, from)) (omega (arith, less))),
        ))
        (λ (g : (q ≡ f.e) × EndsBody whole f.number f.body.left i). absurd (end-stays f.number f.body.left i g.1 on)) (here-is q f i is)
    way-height p h (jump {p = q} {h = k} {t = t} {i = i} way is to enough) =
        let before = way-height q k way in
        let f = at q before.0 in
        ⊎_elim
        (λ (g : (q < f.e) × FitsAt whole f.body.callable whole.cells f.b (f.b + length f.body.instrs) (f.b + length f.body.instrs) f.body.fits.height q i).
        let inside = g.1.inside p to in
        let end = f.body.at_end in
        let low : p ≤ f.e = ⊎_elim (λ (w : p ≤ f.b + length f.body.instrs). omega (arith, w, end)) (λ (w : p ≡ f.b + length f.body.instrs). omega (arith, w, end)) inside.2 in
        let top = (end-there f.number f.b f.e f.body).0 in (
          omega (arith, low, top),
          ap (λ x. x - pops i + pushes whole i) (before.1 ∙ f.heights q f.from f.to) ∙ sym (g.1.jump p to) ∙ sym (f.heights p inside.1 low),
        ))
        (λ (g : (q ≡ f.e) × EndsBody whole f.number f.body.left i). absurd (end-jumps f.number f.body.left p i g.1 to)) (here-is q f i is)

    body-is : (b e : ℕ) → is_among b (begins whole) ≡ true → ((q : ℕ) → b < q → q ≤ e → is_among q (begins whole) ≡ false) → (p : ℕ) → b ≤ p → p ≤ e → body_of whole p ≡ b
    body-is b e among lone zero from to = omega (arith, from)
    body-is b e among lone (suc p) from to =
        ⊎_elim
        (λ (h : b < suc p).
        ap (λ c. if c then suc p else body_of whole p) (lone (suc p) h to) ∙ body-is b e among lone p (omega (arith, h)) (omega (arith, to)))
        (λ (h : suc p ≤ b).
        let same : b ≡ suc p = omega (arith, from, h) in
        ap (λ c. if c then suc p else body_of whole p) (ap (λ q. is_among q (begins whole)) (sym same) ∙ among) ∙ sym same)
        (cases_lt b (suc p))

    same-body : (p q : ℕ) (f : Found rows p) → f.b ≤ q → q ≤ f.e → body_of whole q ≡ body_of whole p
    same-body p q f from to = body-is f.b f.e f.among f.lone q from to ∙ sym (body-is f.b f.e f.among f.lone p f.from f.to)

    is-target : (p t : ℕ) (f : Found rows p) → (p < t) ⊎ (slice_get whole.instrs t ≡ Some op.Turn) → f.b ≤ t → t ≤ f.e → IsTarget whole p t
    is-target p t f more from to = record {
      inside = let top = (end-there f.number f.b f.e f.body).0 in omega (arith, top, to);
      same_body = same-body p t f from to;
      turns = λ le. ⊎_elim (λ (w : p < t). absurd (omega (arith, le, w))) (λ (w : slice_get whole.instrs t ≡ Some op.Turn). w) more;
    }

    jumps-inside : (p : ℕ) (f : Found rows p) (i : Instr) → FitsAt whole f.body.callable whole.cells f.b (f.b + length f.body.instrs) (f.b + length f.body.instrs) f.body.fits.height p i → JumpsInside whole p i
    jumps-inside p f (op.Jump t) g =
        let inside = g.inside t refl in
        let end = f.body.at_end in
        is-target p t f inside.0 inside.1 (⊎_elim (λ (w : t ≤ f.b + length f.body.instrs). omega (arith, w, end)) (λ (w : t ≡ f.b + length f.body.instrs). omega (arith, w, end)) inside.2)
    jumps-inside p f (op.JumpIfNot t) g =
        let inside = g.inside t refl in
        let end = f.body.at_end in
        is-target p t f inside.0 inside.1 (⊎_elim (λ (w : t ≤ f.b + length f.body.instrs). omega (arith, w, end)) (λ (w : t ≡ f.b + length f.body.instrs). omega (arith, w, end)) inside.2)
    jumps-inside p f i g = tt

    -- the routine of a place is that of its body, if it is one
    of-routine : (p : ℕ) (f : Found rows p) → (f.number < length whole.routines → routine_of whole p ≡ f.number) × (length whole.routines ≤ f.number → routine_of whole p ≡ length whole.routines)
    of-routine p f =
        let body : body_of whole p ≡ f.b = body-is f.b f.e f.among f.lone p f.from f.to in
        let one = routine-number (length whole.instrs) whole.routines whole.entries f.at f.b (distinct rows) f.is in
        let same : f.number ≡ f.at = let c = f.counted in omega (arith, c) in (
          λ low. ap (routine_at whole.routines) body ∙ (one.0 (omega (arith, low, same)) ∙ sym same),
          λ high. ap (routine_at whole.routines) body ∙ one.1 (omega (arith, high, same)),
        )

    callable-there : (p : ℕ) (f : Found rows p) → f.body.callable ≤ routine_of whole p
    callable-there p f =
        let one = of-routine p f in
        let before = f.body.before in
        let routines = f.body.routines in
        ⊎_elim (λ (low : f.number < length whole.routines). let e = one.0 low in omega (arith, e, before)) (λ (high : length whole.routines ≤ f.number). let e = one.1 high in omega (arith, e, routines))
        (cases_lt f.number (length whole.routines))

    typed-inner : (p : ℕ) (f : Found rows p) (i : Instr) → p < f.e → FitsAt whole f.body.callable whole.cells f.b (f.b + length f.body.instrs) (f.b + length f.body.instrs) f.body.fits.height p i → IsTyped whole p i
    typed-inner p f i less g = record {
      alone = record {
        body = inner_stands (length whole.routines) (routine_of whole p) i g.inner;
        jumps = jumps-inside p f i g;
        cells = g.cells;
        calls = calls-more f.body.callable (routine_of whole p) i (callable-there p f) g.calls;
        after = record {
          inside = λ on. let top = (end-there f.number f.b f.e f.body).0 in omega (arith, top, less);
          same_body = λ on. f.lone (p + 1) (let from = f.from in omega (arith, from)) (omega (arith, less));
        };
      };
      height = record {
        same = λ h k x y. (way-height p h x).1 ∙ sym (way-height p k y).1;
        enough = λ h x. subst (λ n. pops i ≤ n) (sym ((way-height p h x).1 ∙ f.heights p f.from f.to)) g.enough;
        results = λ h x. inner_leaves whole p h i g.inner;
      };
    }

    typed-last : (p : ℕ) (f : Found rows p) (i : Instr) → p ≡ f.e → EndsBody whole f.number f.body.left i → IsTyped whole p i
    typed-last p f op.Return same end = record {
      alone = record {
        body = let e = (of-routine p f).0 end.0 in let low = end.0 in omega (arith, e, low);
        jumps = tt;
        cells = tt;
        calls = tt;
        after = record { inside = λ on. cc; same_body = λ on. cc };
      };
      height = record {
        same = λ h k x y. (way-height p h x).1 ∙ sym (way-height p k y).1;
        enough = λ h x. omega arith;
        results = λ h x.
            let two : f.body.fits.height p ≡ f.body.left = ap f.body.fits.height (same ∙ f.body.at_end) ∙ f.body.fits.last in
            (way-height p h x).1 ∙ f.heights p f.from f.to ∙ two ∙ end.1 ∙ ap (results_of whole) (sym ((of-routine p f).0 end.0));
      };
    }
    typed-last p f op.Answer same end = record {
      alone = record {
        body = let e = (of-routine p f).1 end.0 in omega (arith, e);
        jumps = tt;
        cells = tt;
        calls = tt;
        after = record { inside = λ on. cc; same_body = λ on. cc };
      };
      height = record {
        same = λ h k x y. (way-height p h x).1 ∙ sym (way-height p k y).1;
        enough = λ h x.
            let one = (way-height p h x).1 ∙ f.heights p f.from f.to in
            let two : f.body.fits.height p ≡ f.body.left = ap f.body.fits.height (same ∙ f.body.at_end) ∙ f.body.fits.last in
            let left = end.1 in omega (arith, one, two, left);
        results = λ h x. tt;
      };
    }
    typed-last p f op.Done same end = record {
      alone = record {
        body = let e = (of-routine p f).1 end.0 in omega (arith, e);
        jumps = tt;
        cells = tt;
        calls = tt;
        after = record { inside = λ on. cc; same_body = λ on. cc };
      };
      height = record {
        same = λ h k x y. (way-height p h x).1 ∙ sym (way-height p k y).1;
        enough = λ h x. omega arith;
        results = λ h x. tt;
      };
    }
    typed-last p f i same end = absurd end

    typed : (p : ℕ) (i : Instr) → slice_get whole.instrs p ≡ Some i → IsTyped whole p i
    typed p i is =
        let f = at p (below whole.instrs p i is) in
        ⊎_elim
        (λ (g : (p < f.e) × FitsAt whole f.body.callable whole.cells f.b (f.b + length f.body.instrs) (f.b + length f.body.instrs) f.body.fits.height p i). typed-inner p f i g.0 g.1)
        (λ (g : (p ≡ f.e) × EndsBody whole f.number f.body.left i). typed-last p f i g.0 g.1) (here-is p f i is)

    end-sized : (number left : ℕ) (i : Instr) → EndsBody whole number left i → HasSizes i
    end-sized number left op.Return h = tt
    end-sized number left op.Answer h = tt
    end-sized number left op.Done h = tt
    end-sized number left i h = absurd h

    sized : AllSized whole.instrs
    sized p i is =
        let f = at p (below whole.instrs p i is) in
        ⊎_elim
        (λ (g : (p < f.e) × FitsAt whole f.body.callable whole.cells f.b (f.b + length f.body.instrs) (f.b + length f.body.instrs) f.body.fits.height p i). g.1.sized)
        (λ (g : (p ≡ f.e) × EndsBody whole f.number f.body.left i). end-sized f.number f.body.left i g.1) (here-is p f i is)

  first-is : {es : List ℕ} → AreBodies whole 0 0 es → 0 < length whole.instrs → is_among 0 es ≡ true
  first-is (no_body n k h) some = absurd (omega (arith, h, some))
  first-is (body_more b e k es body rest) some = refl

pub bodies-admitted : BodiesAreAdmitted
bodies-admitted whole rows = (
  record {
    places = record { distinct = distinct whole rows; first = λ some. first-is whole rows some };
    typed = typed whole rows;
  },
  sized whole rows,
)
