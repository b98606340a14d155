-- Code of an expression fits where it stands.
use Rattle.std.proofs.Common.{◌≡◌, ℕ, zero, suc, ◌+◌, ◌*◌, ◌-◌, ◌<◌, ◌≤◌, ◌⊎◌, inl, inr, ⊎_elim, List, [], ◌∷◌, ◌++◌, length, true, false, refl, sym, ap, ◌∙◌, subst, None, Some, arith, length-append}
use Rattle.std.specs.Prelude.{if◌then◌else◌, slice_get, nat_lt, pos, neg_ℤ}
use Rattle.std.proofs.lemmas.Bool.{cases_lt}
use Rattle.std.proofs.lemmas.Bool.Decides.{nat_tests}
use Rattle.rvc_base.specs.Arithmetic as arithmetic
use Rattle.rvc_base.specs.Width.{greatest_num}
use Rattle.cal_model.specs.Value.{Shape, Single, Many, scalars_of_type}
use Rattle.cal_ast.specs.declared.expr.PrefixOp.{PrefixOp}
use Rattle.cal_ast.specs.declared.expr.PrefixOp.TheVariants as prefixes
use Rattle.cal_ast.specs.declared.expr.BinOp.{BinOp}
use Rattle.cal_ast.specs.declared.expr.BinOp.TheVariants as binaries
use Rattle.cal_ast.specs.Tree as tree
use Rattle.cal_ast.specs.Tree.{Tree}
use Rattle.code_ir.specs.declared.instr.Instr.{Instr}
use Rattle.code_ir.specs.declared.instr.Instr.TheVariants as op
use Rattle.code_ir.specs.Code.{Code, results_of}
use Rattle.code_ir.specs.Typing.{pops, pushes, goes_on, target, NamesCells, CallsSmaller, HasSizes}
use Rattle.lower_base.specs.declared.names.Seat.{Seat}
use Rattle.lower_base.specs.declared.names.Seat.TheVariants.{Cell, Tokens}
use Rattle.lower_base.specs.Names.{Name, IsSingle}
use Rattle.lower_base.specs.Held.{AreBelow, SeatIsBelow}
use Rattle.lower_base.specs.Fitting.{IsInner, FitsAt, Fits}
use Rattle.lower_base.specs.declared.names.ItemList.{ItemList}
use Rattle.lower_base.specs.Listed.{list_named}
use Rattle.lower_base.specs.declared.parts.Rows.{Rows}
use Rattle.lower_base.specs.Parted.{deep_named, number_of}
use Rattle.lower_base.proofs.Listing.{IsListName, found}
use Rattle.lower_base.proofs.PartValues.{IsDeep, IsPartOf, deep_found, part_found, sized_is}
use Rattle.lower_base.specs.declared.callees.Formal.{Formal}
use Rattle.lower_base.specs.Callees.{Function, function_for}
use Rattle.lower_base.specs.Calling.{AreInRow, AreOfSizes, HasFormals, HasRoutines}
use Rattle.lower_base.specs.Coding.{AreArgs, IsCode, IsTest, in_another_way, arg_more, call, call_code, formal_stores, no_arg, number, too_great, negative, truth, variable, paren, prefix, binary, both, either, if_code, tested, both_tested, seat_instr, prefix_instr, binary_instr, item, item_instr, IsOffset, deep_item, whole, row, row_instr}
use Rattle.lower_base.specs.Placed.{StandsAt}
use Rattle.lower_base.proofs.Grown.{grows, grows_args, grows_offset, grows_test}
use Rattle.lower_base.proofs.Runs.{stands_left, stands_right}
use Rattle.lower_base.proofs.Finding.{is_found}
use Rattle.lower_base.proofs.Keeping.{below_more}

-- ---- heights of two parts

-- the heights of one part before a place, and those of another from there on
abbrev pub glued : (ℕ → ℕ) → (ℕ → ℕ) → ℕ → ℕ → ℕ
glued f g mid p = if nat_lt p mid then f p else g p

pub glued_before : (f g : ℕ → ℕ) (mid p : ℕ) → p < mid → glued f g mid p ≡ f p
glued_before f g mid p h = let e : nat_lt p mid ≡ true = grind (arith, nat_tests, h) in ap (λ b. if b then f p else g p) e

pub glued_from : (f g : ℕ → ℕ) (mid p : ℕ) → mid ≤ p → glued f g mid p ≡ g p
glued_from f g mid p h = let e : nat_lt p mid ≡ false = grind (arith, nat_tests, h) in ap (λ b. if b then f p else g p) e

pub glued_to : (f g : ℕ → ℕ) (mid p : ℕ) → f mid ≡ g mid → p ≤ mid → glued f g mid p ≡ f p
glued_to f g mid p e h =
    ⊎_elim (λ (a : p < mid). glued_before f g mid p a)
    (λ (a : mid ≤ p). let same : p ≡ mid = omega arith in glued_from f g mid p a ∙ ap g same ∙ sym e ∙ ap f (sym same)) (cases_lt p mid)

-- an instruction still fits where the heights at the places that it leads to stay
pub fits_like : (code : Code) (callable limit base end out from to far : ℕ) (f g : ℕ → ℕ) (p : ℕ) (i : Instr) → FitsAt code callable limit base end out f p i
    → g p ≡ f p → (goes_on i ≡ true → g (p + 1) ≡ f (p + 1)) → ((t : ℕ) → base ≤ t → (t ≤ end) ⊎ (t ≡ out) → (g t ≡ f t) × (from ≤ t) × ((t ≤ to) ⊎ (t ≡ far)))
    → FitsAt code callable limit from to far g p i
fits_like code callable limit base end out from to far f g p i h here next jump = record {
  enough = subst (λ x. pops i ≤ x) (sym here) h.enough;
  next = λ on. next on ∙ h.next on ∙ ap (λ x. x - pops i + pushes code i) (sym here);
  jump = λ t e. (jump t (h.inside t e).1 (h.inside t e).2).0 ∙ h.jump t e ∙ ap (λ x. x - pops i + pushes code i) (sym here);
  inside = λ t e. let in_it = jump t (h.inside t e).1 (h.inside t e).2 in ((h.inside t e).0, in_it.1, in_it.2);
  cells = h.cells;
  calls = h.calls;
  inner = h.inner;
  sized = h.sized;
}

-- an element of two lists stands in the first or in the second
pub get_append : (a b : List Instr) (j : ℕ) (i : Instr) → slice_get (a ++ b) j ≡ Some i → ((j < length a) × (slice_get a j ≡ Some i)) ⊎ ((k : ℕ) × (j ≡ length a + k) × (slice_get b k ≡ Some i))
get_append [] b j i e = inr (j, omega arith, e)
get_append (x ∷ a) b zero i e = inl (omega arith, e)
get_append (x ∷ a) b (suc j) i e =
    ⊎_elim (λ (h : (j < length a) × (slice_get a j ≡ Some i)). inl (let l = h.0 in omega (arith, l), h.1))
    (λ (h : (k : ℕ) × (j ≡ length a + k) × (slice_get b k ≡ Some i)). inr (h.0, let l = h.1 in omega (arith, l), h.2)) (get_append a b j i e)

module _ (code : Code) (callable limit : ℕ) where
  abbrev Fit : ℕ → ℕ → List Instr → ℕ → ℕ → ℕ → Type 0
  Fit base h instrs k out e = Fits code callable limit base h instrs k out e

  -- two parts side by side, of which the first may jump to `o` in the second, or past it if that may
  pub fits_then : (base h k m o d out e : ℕ) (a b : List Instr) (x : Fit base h a k o d) (y : Fit (base + length a) k b m out e)
      → base + length a ≤ o → y.height o ≡ d → (o ≤ base + length a + length b) ⊎ (o ≡ out) → base + length a ≤ out
      → (z : Fit base h (a ++ b) m out e) × ((p : ℕ) → base + length a ≤ p → z.height p ≡ y.height p)
  fits_then base h k m o d out e a b x y ge at_o inside far = (
    record {
      height = glued x.height y.height mid;
      first = glued_to x.height y.height mid base seam (omega arith) ∙ x.first;
      last = glued_from x.height y.height mid (base + length (a ++ b)) (omega (arith, size)) ∙ ap y.height whole ∙ y.last;
      exit = glued_from x.height y.height mid out far ∙ y.exit;
      at = λ j i g. ⊎_elim (λ (l : (j < length a) × (slice_get a j ≡ Some i)). in_first j i l.0 l.1)
          (λ (l : (q : ℕ) × (j ≡ length a + q) × (slice_get b q ≡ Some i)). in_second j l.0 i l.1 l.2) (get_append a b j i g);
    },
    λ p l. glued_from x.height y.height mid p l,
  )
    where
      mid : ℕ
      mid = base + length a

      seam : x.height (base + length a) ≡ y.height (base + length a)
      seam = x.last ∙ sym y.first

      size : length (a ++ b) ≡ length a + length b
      size = length-append a b

      whole : base + length (a ++ b) ≡ base + length a + length b
      whole = omega (arith, size)

      in_first : (j : ℕ) (i : Instr) → j < length a → slice_get a j ≡ Some i → FitsAt code callable limit base (base + length (a ++ b)) out (glued x.height y.height (base + length a)) (base + j) i
      in_first j i l g =
          fits_like code callable limit base (base + length a) o base (base + length (a ++ b)) out x.height (glued x.height y.height (base + length a)) (base + j) i (x.at j i g)
          (glued_to x.height y.height (base + length a) (base + j) seam (omega arith))
          (λ on. glued_to x.height y.height (base + length a) (base + j + 1) seam (omega arith))
          (λ t less into. ⊎_elim (λ (w : t ≤ base + length a). (glued_to x.height y.height (base + length a) t seam w, less, inl (omega (arith, size))))
          (λ (w : t ≡ o). (
            glued_from x.height y.height (base + length a) t (omega arith) ∙ ap y.height w ∙ at_o ∙ sym x.exit ∙ ap x.height (sym w),
            less,
            ⊎_elim (λ (v : o ≤ base + length a + length b). inl (omega (arith, size))) (λ (v : o ≡ out). inr (w ∙ v)) inside,
          )) into)

      in_second : (j q : ℕ) (i : Instr) → j ≡ length a + q → slice_get b q ≡ Some i → FitsAt code callable limit base (base + length (a ++ b)) out (glued x.height y.height (base + length a)) (base + j) i
      in_second j q i l g =
          let place : base + length a + q ≡ base + j = omega arith in
          subst (λ p. FitsAt code callable limit base (base + length (a ++ b)) out (glued x.height y.height (base + length a)) p i) place
          (fits_like code callable limit (base + length a) (base + length a + length b) out base (base + length (a ++ b)) out y.height (glued x.height y.height (base + length a)) (base + length a + q) i (y.at q i g)
          (glued_from x.height y.height (base + length a) (base + length a + q) (omega arith))
          (λ on. glued_from x.height y.height (base + length a) (base + length a + q + 1) (omega arith))
          (λ t less into. (glued_from x.height y.height (base + length a) t (omega (arith, less)), omega (arith, less), ⊎_elim (λ (w : t ≤ base + length a + length b). inl (omega (arith, size))) (λ (w : t ≡ out). inr w) into)))

  -- parts that don't jump out
  abbrev pub Plain : ℕ → ℕ → List Instr → ℕ → Type 0
  Plain base h instrs k = Fits code callable limit base h instrs k (base + length instrs) k

  pub plain_then : (base h k m : ℕ) (a b : List Instr) → Plain base h a k → Plain (base + length a) k b m → Plain base h (a ++ b) m
  plain_then base h k m a b x y =
      let whole : base + length a + length b ≡ base + length (a ++ b) = omega (arith, length-append a b) in
      let done = fits_then base h k m (base + length a) k (base + length a + length b) m a b x y (omega arith) y.first (inl (omega arith)) (omega arith) in
      subst (λ o. Fits code callable limit base h (a ++ b) m o m) whole done.0

  -- an instruction that goes on to the next place
  pub fits_one : (base h k : ℕ) (i : Instr) → pops i ≤ h → k ≡ h - pops i + pushes code i → target i ≡ None → NamesCells limit i → CallsSmaller callable i → IsInner i → HasSizes i → Plain base h (i ∷ []) k
  fits_one base h k i enough to none cells calls inner sized = record {
    height = glued (λ p. h) (λ p. k) (base + 1);
    first = glued_before (λ p. h) (λ p. k) (base + 1) base (omega arith);
    last = glued_from (λ p. h) (λ p. k) (base + 1) (base + 1) (omega arith);
    exit = glued_from (λ p. h) (λ p. k) (base + 1) (base + 1) (omega arith);
    at = λ j x e. one j x e;
  }
    where
      fit : FitsAt code callable limit base (base + 1) (base + 1) (glued (λ p. h) (λ p. k) (base + 1)) (base + 0) i
      fit =
          let here : glued (λ p. h) (λ p. k) (base + 1) (base + 0) ≡ h = glued_before (λ p. h) (λ p. k) (base + 1) (base + 0) (omega arith) in
          let after : glued (λ p. h) (λ p. k) (base + 1) (base + 0 + 1) ≡ k = glued_from (λ p. h) (λ p. k) (base + 1) (base + 0 + 1) (omega arith) in
          record {
            enough = subst (λ x. pops i ≤ x) (sym here) enough;
            next = λ on. after ∙ to ∙ ap (λ x. x - pops i + pushes code i) (sym here);
            jump = λ t e. cc;
            inside = λ t e. cc;
            cells = cells;
            calls = calls;
            inner = inner;
            sized = sized;
          }

      one : (j : ℕ) (x : Instr) → slice_get (i ∷ []) j ≡ Some x → FitsAt code callable limit base (base + 1) (base + 1) (glued (λ p. h) (λ p. k) (base + 1)) (base + j) x
      one zero x e = let same : i ≡ x = cc in subst (λ y. FitsAt code callable limit base (base + 1) (base + 1) (glued (λ p. h) (λ p. k) (base + 1)) (base + 0) y) same fit
      one (suc j) x e = cc

  -- a jump if a value is false
  pub fits_branch : (base h out : ℕ) → base < out → Fit base (h + 1) (op.JumpIfNot out ∷ []) h out h
  fits_branch base h out less = record {
    height = glued (λ p. h + 1) (λ p. h) (base + 1);
    first = glued_before (λ p. h + 1) (λ p. h) (base + 1) base (omega arith);
    last = glued_from (λ p. h + 1) (λ p. h) (base + 1) (base + 1) (omega arith);
    exit = glued_from (λ p. h + 1) (λ p. h) (base + 1) out (omega arith);
    at = λ j x e. one j x e;
  }
    where
      fit : FitsAt code callable limit base (base + 1) out (glued (λ p. h + 1) (λ p. h) (base + 1)) (base + 0) (op.JumpIfNot out)
      fit =
          let here : glued (λ p. h + 1) (λ p. h) (base + 1) (base + 0) ≡ h + 1 = glued_before (λ p. h + 1) (λ p. h) (base + 1) (base + 0) (omega arith) in
          record {
            enough = omega arith;
            next = λ on. let after : glued (λ p. h + 1) (λ p. h) (base + 1) (base + 0 + 1) ≡ h = glued_from (λ p. h + 1) (λ p. h) (base + 1) (base + 0 + 1) (omega arith) in omega (arith, after, here);
            jump = λ t e. let same : out ≡ t = cc in let at : glued (λ p. h + 1) (λ p. h) (base + 1) t ≡ h = glued_from (λ p. h + 1) (λ p. h) (base + 1) t (omega arith) in omega (arith, at, here);
            inside = λ t e. let same : out ≡ t = cc in (inl (omega arith), omega arith, inr (sym same));
            cells = tt;
            calls = tt;
            inner = tt;
            sized = tt;
          }

      one : (j : ℕ) (x : Instr) → slice_get (op.JumpIfNot out ∷ []) j ≡ Some x → FitsAt code callable limit base (base + 1) out (glued (λ p. h + 1) (λ p. h) (base + 1)) (base + j) x
      one zero x e = let same : op.JumpIfNot out ≡ x = cc in subst (λ y. FitsAt code callable limit base (base + 1) out (glued (λ p. h + 1) (λ p. h) (base + 1)) (base + 0) y) same fit
      one (suc j) x e = cc

  -- a jump over a part
  pub fits_jump : (base h k end : ℕ) (c : List Instr) (x : Plain (base + 1) h c k) → end ≡ base + 1 + length c
      → (z : Plain base k (op.Jump end ∷ c) k) × ((p : ℕ) → base + 1 ≤ p → z.height p ≡ x.height p)
  fits_jump base h k end c x e = (
    record {
      height = glued (λ p. k) x.height (base + 1);
      first = glued_before (λ p. k) x.height (base + 1) base (omega arith);
      last = far (base + length (op.Jump end ∷ c)) whole;
      exit = far (base + length (op.Jump end ∷ c)) whole;
      at = λ j i g. one j i g;
    },
    λ p l. glued_from (λ p. k) x.height (base + 1) p l,
  )
    where
      whole : base + length (op.Jump end ∷ c) ≡ base + 1 + length c
      whole = omega arith

      far : (p : ℕ) → p ≡ base + 1 + length c → glued (λ p. k) x.height (base + 1) p ≡ k
      far p e = glued_from (λ p. k) x.height (base + 1) p (omega arith) ∙ ap x.height e ∙ x.last

      one : (j : ℕ) (i : Instr) → slice_get (op.Jump end ∷ c) j ≡ Some i → FitsAt code callable limit base (base + length (op.Jump end ∷ c)) (base + length (op.Jump end ∷ c)) (glued (λ p. k) x.height (base + 1)) (base + j) i
      one zero i g =
          let same : op.Jump end ≡ i = cc in
          let here : glued (λ p. k) x.height (base + 1) (base + 0) ≡ k = glued_before (λ p. k) x.height (base + 1) (base + 0) (omega arith) in
          subst (λ y. FitsAt code callable limit base (base + length (op.Jump end ∷ c)) (base + length (op.Jump end ∷ c)) (glued (λ p. k) x.height (base + 1)) (base + 0) y) same (record {
            enough = omega arith;
            next = λ on. cc;
            jump = λ t f. let at : t ≡ base + 1 + length c = cc in let h = far t at in omega (arith, h, here);
            inside = λ t f. let at : t ≡ base + 1 + length c = cc in (inl (omega arith), omega arith, inl (omega arith));
            cells = tt;
            calls = tt;
            inner = tt;
            sized = tt;
          })
      one (suc j) i g =
          let place : base + 1 + j ≡ base + suc j = omega arith in
          subst (λ p. FitsAt code callable limit base (base + length (op.Jump end ∷ c)) (base + length (op.Jump end ∷ c)) (glued (λ p. k) x.height (base + 1)) p i) place
          (fits_like code callable limit (base + 1) (base + 1 + length c) (base + 1 + length c) base (base + length (op.Jump end ∷ c)) (base + length (op.Jump end ∷ c)) x.height (glued (λ p. k) x.height (base + 1)) (base + 1 + j) i (x.at j i g)
          (glued_from (λ p. k) x.height (base + 1) (base + 1 + j) (omega arith))
          (λ on. glued_from (λ p. k) x.height (base + 1) (base + 1 + j + 1) (omega arith))
          (λ t less into. (glued_from (λ p. k) x.height (base + 1) t (omega (arith, less)), omega (arith, less), ⊎_elim (λ (w : t ≤ base + 1 + length c). inl (omega arith)) (λ (w : t ≡ base + 1 + length c). inl (omega arith)) into)))

  -- ---- forms

  pub fits_const : (base h : ℕ) (z : _) → Plain base h (op.Const z ∷ []) (h + 1)
  fits_const base h z = fits_one base h (h + 1) (op.Const z) (omega arith) (omega arith) refl tt tt tt tt

  fits_seat : (base h : ℕ) (seat : Seat) → SeatIsBelow limit 1 seat → Plain base h (seat_instr seat ∷ []) (h + 1)
  fits_seat base h (Cell c) below = fits_one base h (h + 1) (op.Load c) (omega arith) (omega arith) refl below tt tt tt
  fits_seat base h (Tokens port first step) below = fits_one base h (h + 1) (op.Token port first) (omega arith) (omega arith) refl tt tt tt tt

  fits_item_at : (base h size : ℕ) (seat : Seat) → SeatIsBelow limit size seat → Plain base (h + 1) (elim seat [ Cell c ↦ op.LoadAt c size | Tokens port first step ↦ op.TokenAt port first step size ] ∷ []) (h + 1)
  fits_item_at base h size (Cell c) below = fits_one base (h + 1) (h + 1) (op.LoadAt c size) (omega arith) (omega arith) refl below tt tt tt
  fits_item_at base h size (Tokens port first step) below = fits_one base (h + 1) (h + 1) (op.TokenAt port first step size) (omega arith) (omega arith) refl tt tt tt tt

  fits_item : (base h : ℕ) (l : ItemList) → SeatIsBelow limit l.size l.seat → Plain base (h + 1) (item_instr l ∷ []) (h + 1)
  fits_item base h l below = fits_item_at base h l.size l.seat below

  pub list_below : (n : ℕ) (names : List Name) (e : Tree) (l : ItemList) → list_named names e ≡ Some l → AreBelow n names → n ≤ limit → SeatIsBelow limit l.size l.seat
  list_below n names e l g below le =
      let f : IsListName names e l = found names e l g in
      let one : scalars_of_type f.x.shape ≡ l.size * 1 = ap scalars_of_type f.shape in
      let size : scalars_of_type f.x.shape ≡ l.size = omega (arith, one) in
      seat_wider l.size l.seat (subst (λ s. SeatIsBelow n l.size s) f.seat (subst (λ k. SeatIsBelow n k f.x.seat) size (below f.text f.x f.is)))
    where
      seat_wider : (size : ℕ) (seat : Seat) → SeatIsBelow n size seat → SeatIsBelow limit size seat
      seat_wider size (Cell c) h = omega (arith, h, le)
      seat_wider size (Tokens port first step) h = tt

  pub deep_below : (n : ℕ) (names : List Name) (e : Tree) (l : ItemList) → deep_named names e ≡ Some l → AreBelow n names → n ≤ limit → SeatIsBelow limit l.size l.seat
  deep_below n names e l g below le =
      let d : IsDeep names e l = deep_found names e l g in
      let f : IsPartOf names d.part = part_found names e d.part d.is in
      let size : scalars_of_type f.x.shape ≡ l.size = sized_is f.x.shape d.part.size f.size ∙ d.size in
      seat_wider l.size l.seat (subst (λ s. SeatIsBelow n l.size s) (f.seat ∙ d.seat) (subst (λ k. SeatIsBelow n k f.x.seat) size (below f.text f.x f.is)))
    where
      seat_wider : (size : ℕ) (seat : Seat) → SeatIsBelow n size seat → SeatIsBelow limit size seat
      seat_wider size (Cell c) h = omega (arith, h, le)
      seat_wider size (Tokens port first step) h = tt

  fits_row : (base h : ℕ) (r : Rows) → Plain base (h + 1 + 1) (row_instr r ∷ []) (h + 1)
  fits_row base h r = fits_one base (h + 1 + 1) (h + 1) (row_instr r) (omega arith) (omega arith) refl tt tt tt tt

  fits_prefix : (base h : ℕ) (o : PrefixOp) → Plain base (h + 1) (prefix_instr o ∷ []) (h + 1)
  fits_prefix base h prefixes.Not = fits_one base (h + 1) (h + 1) op.Not (omega arith) (omega arith) refl tt tt tt tt
  fits_prefix base h prefixes.Neg = fits_one base (h + 1) (h + 1) op.Neg (omega arith) (omega arith) refl tt tt tt tt
  fits_prefix base h prefixes.BitNot = fits_one base (h + 1) (h + 1) op.BitNot (omega arith) (omega arith) refl tt tt tt tt

  two_one : (base h : ℕ) (i j : Instr) → Some j ≡ Some i → Plain base (h + 1 + 1) (j ∷ []) (h + 1) → Plain base (h + 1 + 1) (i ∷ []) (h + 1)
  two_one base h i j e x = let same : j ≡ i = cc in subst (λ y. Plain base (h + 1 + 1) (y ∷ []) (h + 1)) same x

  fits_binary : (base h : ℕ) (o : BinOp) (i : Instr) → binary_instr o ≡ Some i → Plain base (h + 1 + 1) (i ∷ []) (h + 1)
  fits_binary base h binaries.Or i e = cc
  fits_binary base h binaries.And i e = cc
  fits_binary base h binaries.BitOr i e = two_one base h i op.Or e (fits_one base (h + 1 + 1) (h + 1) op.Or (omega arith) (omega arith) refl tt tt tt tt)
  fits_binary base h binaries.BitXor i e = two_one base h i op.Xor e (fits_one base (h + 1 + 1) (h + 1) op.Xor (omega arith) (omega arith) refl tt tt tt tt)
  fits_binary base h binaries.BitAnd i e = two_one base h i op.And e (fits_one base (h + 1 + 1) (h + 1) op.And (omega arith) (omega arith) refl tt tt tt tt)
  fits_binary base h binaries.Eq i e = two_one base h i op.Eq e (fits_one base (h + 1 + 1) (h + 1) op.Eq (omega arith) (omega arith) refl tt tt tt tt)
  fits_binary base h binaries.Ne i e = two_one base h i op.Ne e (fits_one base (h + 1 + 1) (h + 1) op.Ne (omega arith) (omega arith) refl tt tt tt tt)
  fits_binary base h binaries.Lt i e = two_one base h i op.Lt e (fits_one base (h + 1 + 1) (h + 1) op.Lt (omega arith) (omega arith) refl tt tt tt tt)
  fits_binary base h binaries.Le i e = two_one base h i op.Le e (fits_one base (h + 1 + 1) (h + 1) op.Le (omega arith) (omega arith) refl tt tt tt tt)
  fits_binary base h binaries.Gt i e = two_one base h i op.Gt e (fits_one base (h + 1 + 1) (h + 1) op.Gt (omega arith) (omega arith) refl tt tt tt tt)
  fits_binary base h binaries.Ge i e = two_one base h i op.Ge e (fits_one base (h + 1 + 1) (h + 1) op.Ge (omega arith) (omega arith) refl tt tt tt tt)
  fits_binary base h binaries.Shl i e = two_one base h i op.Shl e (fits_one base (h + 1 + 1) (h + 1) op.Shl (omega arith) (omega arith) refl tt tt tt tt)
  fits_binary base h binaries.Shr i e = two_one base h i op.Shr e (fits_one base (h + 1 + 1) (h + 1) op.Shr (omega arith) (omega arith) refl tt tt tt tt)
  fits_binary base h binaries.Add i e = two_one base h i op.Add e (fits_one base (h + 1 + 1) (h + 1) op.Add (omega arith) (omega arith) refl tt tt tt tt)
  fits_binary base h binaries.Sub i e = two_one base h i op.Sub e (fits_one base (h + 1 + 1) (h + 1) op.Sub (omega arith) (omega arith) refl tt tt tt tt)
  fits_binary base h binaries.Mul i e = two_one base h i op.Mul e (fits_one base (h + 1 + 1) (h + 1) op.Mul (omega arith) (omega arith) refl tt tt tt tt)
  fits_binary base h binaries.Div i e = two_one base h i op.Div e (fits_one base (h + 1 + 1) (h + 1) op.Div (omega arith) (omega arith) refl tt tt tt tt)
  fits_binary base h binaries.Mod i e = two_one base h i op.Mod e (fits_one base (h + 1 + 1) (h + 1) op.Mod (omega arith) (omega arith) refl tt tt tt tt)

  single_below : (n : ℕ) (t : Shape) (seat : Seat) → IsSingle t → SeatIsBelow n (scalars_of_type t) seat → n ≤ limit → SeatIsBelow limit 1 seat
  single_below n (Single t) (Cell c) s h le = omega (arith, h)
  single_below n (Single t) (Tokens port first step) s h le = tt
  single_below n (Many k items) seat s h le = absurd s

  -- a condition, a part that goes on if it is true, and a part to which it jumps if it is false
  pub branch : (h k base out : ℕ) (a b c : List Instr) (x : Fit base h a h out h) (y : Plain (base + length a) h b k) (z : Plain (base + length a + length b) k c k)
      → base + length a + length b ≤ out → out ≤ base + length a + length b + length c → z.height out ≡ h
      → Plain base h (a ++ (b ++ c)) k
  branch h k base out a b c x y z ge le at_out =
      let size : length (b ++ c) ≡ length b + length c = length-append b c in
      let all : length (a ++ (b ++ c)) ≡ length a + length (b ++ c) = length-append a (b ++ c) in
      let end : ℕ = base + length a + length b + length c in
      let rest = fits_then (base + length a) h k k (base + length a + length b) k end k b c y z (omega arith) z.first (inl (omega arith)) (omega arith) in
      let at_rest : rest.0.height out ≡ h = rest.1 out ge ∙ at_out in
      let done = fits_then base h h k out h end k a (b ++ c) x rest.0 (omega arith) at_rest (inl (omega (arith, size))) (omega arith) in
      let whole : end ≡ base + length (a ++ (b ++ c)) = omega (arith, size, all) in
      subst (λ o. Fits code callable limit base h (a ++ (b ++ c)) k o k) whole done.0

  -- the same if the first part is one instruction
  short : (h base out : ℕ) (a : List Instr) (i : Instr) (c : List Instr) (x : Fit base h a h out h) (y : Plain (base + length a) h (i ∷ []) (h + 1)) (z : Plain (base + length a + 1) (h + 1) c (h + 1))
      → base + length a + 1 ≤ out → out ≤ base + length a + 1 + length c → z.height out ≡ h
      → Plain base h (a ++ (i ∷ c)) (h + 1)
  short h base out a i c x y z ge le at_out = branch h (h + 1) base out a (i ∷ []) c x y z ge le at_out

  -- ---- calls

  fits_none : (base h : ℕ) → Plain base h [] h
  fits_none base h = record { height = λ p. h; first = refl; last = refl; exit = refl; at = λ j i e. cc }

  pub fits_formals : (xs : List Formal) (c base h : ℕ) → AreInRow c xs → c + length xs ≤ limit → AreOfSizes xs → Plain base (h + length xs) (formal_stores xs) h
  fits_formals [] c base h inrow room sizes = let e : h ≡ h + 0 = omega arith in subst (λ k. Plain base k [] h) e (fits_none base h)
  fits_formals (x ∷ xs) c base h (at, inrow) room (size, sizes) =
      let sum : h + 1 + length xs ≡ h + suc (length xs) = omega arith in
      subst (λ k. Plain base k (formal_stores xs ++ op.Store x.cell (Some x.kind) ∷ []) h) sum
      (plain_then base (h + 1 + length xs) (h + 1) h (formal_stores xs) (op.Store x.cell (Some x.kind) ∷ []) (fits_formals xs (c + 1) base (h + 1) inrow (omega (arith, room)) sizes)
      (fits_one (base + length (formal_stores xs)) (h + 1) h (op.Store x.cell (Some x.kind)) (omega arith) (omega arith) refl (omega (arith, at, room)) tt tt size))

  fits_call : (base h : ℕ) (f : Function) → f.routine < callable → results_of code f.routine ≡ 1 → HasFormals 0 limit f → Plain base (h + length f.formals) (call_code f) (h + 1)
  fits_call base h f small one formals =
      let top : ℕ = h + length f.formals in
      let puts : List Instr = formal_stores f.formals in
      plain_then base top top (h + 1) (op.Turn ∷ []) (puts ++ op.Call f.routine ∷ []) (fits_one base top top op.Turn (omega arith) (omega arith) refl tt tt tt tt)
      (plain_then (base + 1) top h (h + 1) puts (op.Call f.routine ∷ []) (fits_formals f.formals formals.first (base + 1) h formals.row formals.high_end formals.sizes)
      (fits_one (base + 1 + length puts) h (h + 1) (op.Call f.routine) (omega arith) (omega (arith, one)) refl tt small tt tt))

  module _ (fs : List Function) (has : HasRoutines code callable limit fs) (names : List Name) where
    abbrev There : ℕ → List Instr → Type 0
    There base instrs = StandsAt code.instrs base instrs

    left : (base : ℕ) (a b : List Instr) → There base (a ++ b) → There base a
    left base a b at = stands_left code.instrs base a b at

    right : (base : ℕ) (a b : List Instr) → There base (a ++ b) → There (base + length a) b
    right base a b at = stands_right code.instrs base a b at

    mutual
      pub fits_in : {e : Tree} {base n m : ℕ} {instrs : List Instr} (h : ℕ) → AreBelow n names → m ≤ limit → There base instrs → IsCode fs names e base n instrs m → Plain base h instrs (h + 1)
      fits_in h below le at (in_another_way e base n m instrs g) = g.fits code callable limit h has below le at
      fits_in h below le at (number k place base n g) = fits_const base h (pos k)
      fits_in h below le at (too_great k place base n g) =
          plain_then base h (h + 1) (h + 1) (op.Const greatest_num ∷ []) (op.Const (pos 1) ∷ op.Add ∷ []) (fits_const base h greatest_num)
          (plain_then (base + 1) (h + 1) (h + 1 + 1) (h + 1) (op.Const (pos 1) ∷ []) (op.Add ∷ []) (fits_const (base + 1) (h + 1) (pos 1)) (fits_binary (base + 1 + 1) h binaries.Add op.Add refl))
      fits_in h below le at (negative k spot base n place g) = fits_const base h (neg_ℤ (pos k))
      fits_in h below le at (truth b place base n) = fits_const base h (arithmetic.truth b)
      fits_in h below le at (variable text place base n x g s) = fits_seat base h x.seat (single_below n x.shape x.seat s (below text x g) le)
      fits_in h below le at (paren e place base n m code g) = fits_in h below le at g
      fits_in h below le at (prefix o e place base n m code g) = plain_then base h (h + 1) (h + 1) code (prefix_instr o ∷ []) (fits_in h below le (left base code (prefix_instr o ∷ []) at) g) (fits_prefix (base + length code) h o)
      fits_in h below le at (binary o i l r place base n k m a b e g d) =
          let x = grows g in let y = grows d in
          let rest = right base a (b ++ i ∷ []) at in
          plain_then base h (h + 1) (h + 1) a (b ++ i ∷ []) (fits_in h below (omega (arith, x, y)) (left base a (b ++ i ∷ []) at) g)
          (plain_then (base + length a) (h + 1) (h + 1 + 1) (h + 1) b (i ∷ []) (fits_in (h + 1) (below_more n k names x below) le (left (base + length a) b (i ∷ []) rest) d) (fits_binary (base + length a + length b) h o i e))
      fits_in h below le at (call text args place base n m part f e g) =
          plain_then base h (h + number_of args) (h + 1) part (call_code f) (fits_args h below le (left base part (call_code f) at) g)
          (subst (λ k. Plain (base + length part) (h + k) (call_code f) (h + 1)) (is_found text (number_of args) fs f e).1 (fits_call (base + length part) h f (there f e).0 (there f e).1 (there f e).2))
        where
          there : (f : Function) → function_for text (number_of args) fs ≡ Some f → (f.routine < callable) × (results_of code f.routine ≡ 1) × HasFormals 0 limit f
          there f e = has text f (is_found text (number_of args) fs f e).0
      fits_in h below le at (item e place spot base n m code l g d) =
          plain_then base h (h + 1) (h + 1) code (item_instr l ∷ []) (fits_in h below le (left base code (item_instr l ∷ []) at) d) (fits_item (base + length code) h l (list_below n names e l g below (let x = grows d in omega (arith, x))))
      fits_in h below le at (deep_item e place spot base n m code l g d) =
          plain_then base h (h + 1) (h + 1) code (item_instr l ∷ []) (fits_offset h below le (left base code (item_instr l ∷ []) at) d) (fits_item (base + length code) h l (deep_below n names (tree.index e place spot) l g below (let x = grows_offset d in omega (arith, x))))
      fits_in h below le at (both l r place base n k m far end a b t g d e f) =
          let x = grows_test g in let y = grows d in
          let at_tail : base + length a + length b + 1 ≡ far = sym e in
          let ends : List Instr = op.Jump end ∷ op.Const (pos 0) ∷ [] in
          let rest = right base a (b ++ ends) at in
          let tail = fits_jump (base + length a + length b) h (h + 1) end (op.Const (pos 0) ∷ []) (fits_const (base + length a + length b + 1) h (pos 0)) (omega arith) in
          branch h (h + 1) base far a b ends (fits_test_in h below (omega (arith, x, y)) (omega arith) (left base a (b ++ ends) at) g) (fits_in h (below_more n k names x below) le (left (base + length a) b ends rest) d) tail.0
          (omega arith) (omega arith) (tail.1 far (omega arith) ∙ ap (fits_const (base + length a + length b + 1) h (pos 0)).height e ∙ (fits_const (base + length a + length b + 1) h (pos 0)).first)
      fits_in h below le at (either l r place base n k m beyond end a b t g d e f) =
          let x = grows_test g in let y = grows d in
          let right_is : beyond ≡ base + length a + 1 + 1 = omega arith in
          let ends : List Instr = op.Const (pos 1) ∷ op.Jump end ∷ b in
          let last : There beyond b = subst (λ p. There p b) (sym right_is) (right base a ends at).1.1 in
          let second : Plain (base + length a + 1 + 1) h b (h + 1) = subst (λ p. Plain p h b (h + 1)) right_is (fits_in h (below_more n k names x below) le last d) in
          let tail = fits_jump (base + length a + 1) h (h + 1) end b second (omega arith) in
          short h base beyond a (op.Const (pos 1)) (op.Jump end ∷ b) (fits_test_in h below (omega (arith, x, y)) (omega arith) (left base a ends at) g) (fits_const (base + length a) h (pos 1)) tail.0
          (omega arith) (omega arith) (tail.1 beyond (omega arith) ∙ ap second.height right_is ∙ second.first)
      fits_in h below le at (if_code test first other place base n k j m else_at end a b c g d q e f) =
          let x = grows_test g in let y = grows d in let z = grows q in
          let wide : n ≤ j = omega (arith, x, y) in
          let ends : List Instr = op.Jump end ∷ c in
          let rest = right base a (b ++ ends) at in
          let last : There else_at c = subst (λ p. There p c) (sym e) (right (base + length a) b ends rest).1 in
          let third : Plain (base + length a + length b + 1) h c (h + 1) = subst (λ p. Plain p h c (h + 1)) e (fits_in h (below_more n j names wide below) le last q) in
          let tail = fits_jump (base + length a + length b) h (h + 1) end c third (omega arith) in
          branch h (h + 1) base else_at a b ends (fits_test_in h below (omega (arith, x, y, z)) (omega arith) (left base a (b ++ ends) at) g) (fits_in h (below_more n k names x below) (omega (arith, z)) (left (base + length a) b ends rest) d) tail.0
          (omega arith) (omega arith) (tail.1 else_at (omega arith) ∙ ap third.height e ∙ third.first)

      pub fits_args : {es : Tree} {base n m : ℕ} {instrs : List Instr} (h : ℕ) → AreBelow n names → m ≤ limit → There base instrs → AreArgs fs names es base n instrs m → Plain base h instrs (h + number_of es)
      fits_args h below le at (no_arg base n) = let e : h ≡ h + 0 = omega arith in subst (λ k. Plain base h [] k) e (fits_none base h)
      fits_args h below le at (arg_more e es base n k m a b g d) =
          let x = grows g in let y = grows_args d in
          let sum : h + 1 + number_of es ≡ h + suc (number_of es) = omega arith in
          subst (λ j. Plain base h (a ++ b) j) sum
          (plain_then base h (h + 1) (h + 1 + number_of es) a b (fits_in h below (omega (arith, y, le)) (left base a b at) g) (fits_args (h + 1) (below_more n k names x below) le (right base a b at) d))

      pub fits_offset : {e : Tree} {base n m : ℕ} {instrs : List Instr} (h : ℕ) → AreBelow n names → m ≤ limit → There base instrs → IsOffset fs names e base n instrs m → Plain base h instrs (h + 1)
      fits_offset h below le at (whole text place base n) = fits_const base h (pos 0)
      fits_offset h below le at (row e place spot base n k m a b r g d q) =
          let x = grows_offset d in let y = grows q in
          let rest = right base a (b ++ row_instr r ∷ []) at in
          plain_then base h (h + 1) (h + 1) a (b ++ row_instr r ∷ []) (fits_offset h below (omega (arith, x, y)) (left base a (b ++ row_instr r ∷ []) at) d)
          (plain_then (base + length a) (h + 1) (h + 1 + 1) (h + 1) b (row_instr r ∷ []) (fits_in (h + 1) (below_more n k names x below) le (left (base + length a) b (row_instr r ∷ []) rest) q) (fits_row (base + length a + length b) h r))

      pub fits_test_in : {e : Tree} {base n far m : ℕ} {instrs : List Instr} (h : ℕ) → AreBelow n names → m ≤ limit → base + length instrs ≤ far → There base instrs → IsTest fs names e base n far instrs m → Fits code callable limit base h instrs h far h
      fits_test_in h below le ge at (tested e base n m far instrs g) =
          let size : length (instrs ++ op.JumpIfNot far ∷ []) ≡ length instrs + 1 = length-append instrs (op.JumpIfNot far ∷ []) in
          let last = fits_branch (base + length instrs) h far (omega (arith, ge, size)) in
          (fits_then base h (h + 1) h (base + length instrs) (h + 1) far h instrs (op.JumpIfNot far ∷ []) (fits_in h below le (left base instrs (op.JumpIfNot far ∷ []) at) g) last (omega arith) last.first (inl (omega arith)) (omega (arith, ge, size))).0
      fits_test_in h below le ge at (both_tested l r place base n k m far a b t g d) =
          let x = grows_test g in let y = grows_test d in
          let size : length (a ++ b) ≡ length a + length b = length-append a b in
          let second = fits_test_in h (below_more n k names x below) le (omega (arith, ge, size)) (right base a b at) d in
          (fits_then base h h h far h far h a b (fits_test_in h below (omega (arith, x, y)) (omega (arith, ge, size)) (left base a b at) g) second (omega (arith, ge, size)) second.exit (inr refl) (omega (arith, ge, size))).0

-- ---- if there are no functions

pub no_routines : (code : Code) (callable limit : ℕ) → HasRoutines code callable limit []
no_routines code callable limit text f e = cc

pub fits : (code : Code) (callable limit : ℕ) (names : List Name) {e : Tree} {base n m : ℕ} {instrs : List Instr} (h : ℕ) → AreBelow n names → m ≤ limit → StandsAt code.instrs base instrs → IsCode [] names e base n instrs m → Plain code callable limit base h instrs (h + 1)
fits code callable limit names h below le at coded = fits_in code callable limit [] (no_routines code callable limit) names h below le at coded

pub fits_test : (code : Code) (callable limit : ℕ) (names : List Name) {e : Tree} {base n far m : ℕ} {instrs : List Instr} (h : ℕ) → AreBelow n names → m ≤ limit → base + length instrs ≤ far → StandsAt code.instrs base instrs → IsTest [] names e base n far instrs m → Fits code callable limit base h instrs h far h
fits_test code callable limit names h below le ge at coded = fits_test_in code callable limit [] (no_routines code callable limit) names h below le ge at coded
