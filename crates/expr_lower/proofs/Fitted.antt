-- Code of a list fits where it stands.
use Rattle.std.proofs.Common.{◌≡◌, ℕ, suc, ◌+◌, ◌*◌, ◌<◌, ◌≤◌, List, [], ◌∷◌, ◌++◌, length, refl, sym, ap, ◌∙◌, subst, Option, None, Some, arith, append_assoc, length-append}
use Rattle.std.specs.Prelude.{slice_get, pos}
use Rattle.rvc_base.specs.Storing.{IsSize}
use Rattle.cal_ast.specs.Tree as tree
use Rattle.cal_ast.specs.Tree.{Tree}
use Rattle.cal_model.specs.Value.{Shape, Many, scalars_of_type}
use Rattle.code_ir.specs.declared.instr.Instr.{Instr}
use Rattle.code_ir.specs.declared.instr.Instr.TheVariants as op
use Rattle.code_ir.specs.Code.{Code}
use Rattle.lower_base.specs.declared.names.Seat.{Seat}
use Rattle.lower_base.specs.declared.names.Seat.TheVariants.{Cell, Tokens}
use Rattle.lower_base.specs.Callees.{Function}
use Rattle.lower_base.specs.Calling.{HasRoutines}
use Rattle.lower_base.specs.Fitting.{Fits}
use Rattle.lower_base.specs.Held.{AreBelow, SeatIsBelow}
use Rattle.lower_base.specs.Names.{Name, named}
use Rattle.lower_base.specs.Parted.{Part, number_of, part_named}
use Rattle.lower_base.proofs.PartValues.{IsPartOf, part_found, sized_is}
use Rattle.lower_base.specs.Placed.{StandsAt}
use Rattle.lower_base.proofs.Coded.{grows, grows_offset, grows_test}
use Rattle.lower_base.proofs.Fitted.{Plain, branch, fits_branch, fits_const, fits_in, fits_jump, fits_offset, fits_one, fits_test_in, plain_then}
use Rattle.lower_base.proofs.Keeping.{below_more}
use Rattle.lower_base.proofs.Routined.{front_below}
use Rattle.lower_base.proofs.Runs.{stands_left, stands_right}
use Rattle.expr_lower.specs.Filling.{apart_list, apart_tail, AreElements, AreFills, IsFill, at_first, either_list, elements as comprehension, each_number, filled_more, in_parens, item_more, items, list_element, next_number, no_elements, no_item, one_cell, one_element, part_list, set_number, take_instr, whole_list}
use Rattle.lower_base.specs.Generators.{AllCount, Counted}
use Rattle.expr_lower.proofs.Counters.{width}
use Rattle.expr_lower.proofs.Filled.{AreCounted, grows_elements, grows_fill, grows_fills}
use Rattle.expr_lower.proofs.FittedJumps.{fits_back, fits_none}
use Rattle.expr_lower.proofs.FittedParts.{fits_wide, load, store, store_in, then_exit, then_plain}
use Rattle.lower_base.proofs.Generated.{IsGenerator, generator}
use Rattle.lower_base.proofs.MeantIs.{meant_sized}
use Rattle.expr_lower.proofs.Shapes.{alike_sizes}

module _ (code : Code) (callable limit : ℕ) where
  abbrev Whole : ℕ → ℕ → List Instr → ℕ → Type 0
  Whole base h instrs k = Plain code callable limit base h instrs k

  -- one instruction, and others
  before : (base h k m : ℕ) (i : Instr) (rest : List Instr) → Whole base h (i ∷ []) k → Whole (base + 1) k rest m → Whole base h (i ∷ rest) m
  before base h k m i rest x y = plain_then code callable limit base h k m (i ∷ []) rest x y

  add : (base h : ℕ) → Whole base (h + 1 + 1) (op.Add ∷ []) (h + 1)
  add base h = fits_one code callable limit base (h + 1 + 1) (h + 1) op.Add (omega arith) (omega arith) refl tt tt tt tt

  turn : (base h : ℕ) → Whole base h (op.Turn ∷ []) h
  turn base h = fits_one code callable limit base h h op.Turn (omega arith) (omega arith) refl tt tt tt tt

  fits_take : (base h c size : ℕ) (seat : Seat) → c + size ≤ limit → SeatIsBelow limit size seat → Whole base h (take_instr c size seat ∷ []) h
  fits_take base h c size (Cell s) room below = fits_one code callable limit base h h (op.Copy c s size None) (omega arith) (omega arith) refl (room, below) tt tt tt
  fits_take base h c size (Tokens port first step) room below = fits_one code callable limit base h h (op.TokenList c port first step size) (omega arith) (omega arith) refl room tt tt tt

  fits_more : (base h filled each : ℕ) → filled + 1 ≤ limit → Whole base h (filled_more filled each) h
  fits_more base h filled each le =
      before base h (h + 1) h (op.Load filled) (op.Const (pos each) ∷ op.Add ∷ op.Store filled None ∷ []) (load code callable limit base h filled le)
      (before (base + 1) (h + 1) (h + 1 + 1) h (op.Const (pos each)) (op.Add ∷ op.Store filled None ∷ []) (fits_const code callable limit (base + 1) (h + 1) (pos each))
      (before (base + 1 + 1) (h + 1 + 1) (h + 1) h op.Add (op.Store filled None ∷ []) (add (base + 1 + 1) h) (store code callable limit (base + 1 + 1 + 1) h filled le)))

  fits_set : (base h k : ℕ) (x : Counted) → IsSize x.kind → k + 2 ≤ limit → Whole base (h + 1) (set_number k x) h
  fits_set base h k x sized le =
      before base (h + 1) h h (op.Store k None) (op.Load k ∷ op.Store (k + 1) (Some x.kind) ∷ []) (store code callable limit base h k (omega (arith, le)))
      (before (base + 1) h (h + 1) h (op.Load k) (op.Store (k + 1) (Some x.kind) ∷ []) (load code callable limit (base + 1) h k (omega (arith, le)))
      (store_in code callable limit (base + 1 + 1) h (k + 1) x.kind (omega (arith, le)) sized))

  fits_first : (base h k : ℕ) (gens : Tree) → AllCount gens → k + width gens ≤ limit → Whole base h (at_first k gens) h
  fits_first base h k (tree.cons g gens) count le =
      let x : Counted = count.0.0 in
      let f : IsGenerator g x = generator g x count.0.1 in
      let sized : IsSize x.kind = meant_sized f.shape x.kind f.kind in
      let rest : List Instr = at_first (k + 2) gens in
      let is : op.Const x.low ∷ (set_number k x ++ rest) ≡ at_first k (tree.cons g gens) = sym (ap (λ (o : Option Counted). elim o [ None ↦ [] | Some y ↦ op.Const y.low ∷ (set_number k y ++ at_first (k + 2) gens) ]) count.0.1) in
      subst (λ instrs. Whole base h instrs h) is
      (before base h (h + 1) h (op.Const x.low) (set_number k x ++ rest) (fits_const code callable limit base h x.low)
      (plain_then code callable limit (base + 1) (h + 1) h h (set_number k x) rest (fits_set (base + 1) h k x sized (omega (arith, le)))
      (fits_first (base + 1 + 3) h (k + 2) gens count.1 (omega (arith, le)))))
  fits_first base h k gens count le = fits_none code callable limit base h

  -- the elements for each number
  fits_numbers : (turn_at h k out : ℕ) (x : Counted) (gens : Tree) (a : List Instr) → IsSize x.kind → AllCount gens → k + 2 + width gens ≤ limit → Whole turn_at h a h → slice_get code.instrs turn_at ≡ Some op.Turn
      → out ≡ turn_at + length a + length (next_number k x gens turn_at 0)
      → Whole turn_at h (a ++ next_number k x gens turn_at out) h
  fits_numbers turn_at h k out x gens a sized count le body turns out_is =
      let first : List Instr = at_first (k + 2) gens in
      let e1 : List Instr = op.Load k ∷ op.Const x.high ∷ op.Lt ∷ [] in
      let e2 : List Instr = op.JumpIfNot out ∷ [] in
      let e3 : List Instr = op.Load k ∷ op.Const (pos 1) ∷ op.Add ∷ (set_number k x ++ first) in
      let q1 : ℕ = turn_at + length a in
      let q2 : ℕ = q1 + length e1 in
      let q3 : ℕ = q2 + length e2 in
      let less : Whole q1 h e1 (h + 1) =
      before q1 h (h + 1) (h + 1) (op.Load k) (op.Const x.high ∷ op.Lt ∷ []) (load code callable limit q1 h k (omega (arith, le)))
      (before (q1 + 1) (h + 1) (h + 1 + 1) (h + 1) (op.Const x.high) (op.Lt ∷ []) (fits_const code callable limit (q1 + 1) (h + 1) x.high)
      (fits_one code callable limit (q1 + 1 + 1) (h + 1 + 1) (h + 1) op.Lt (omega arith) (omega arith) refl tt tt tt tt)) in
      let next : Whole q3 h e3 h =
      before q3 h (h + 1) h (op.Load k) (op.Const (pos 1) ∷ op.Add ∷ (set_number k x ++ first)) (load code callable limit q3 h k (omega (arith, le)))
      (before (q3 + 1) (h + 1) (h + 1 + 1) h (op.Const (pos 1)) (op.Add ∷ (set_number k x ++ first)) (fits_const code callable limit (q3 + 1) (h + 1) (pos 1))
      (before (q3 + 1 + 1) (h + 1 + 1) (h + 1) h op.Add (set_number k x ++ first) (add (q3 + 1 + 1) h)
      (plain_then code callable limit (q3 + 1 + 1 + 1) (h + 1) h h (set_number k x) first (fits_set (q3 + 1 + 1 + 1) h k x sized (omega (arith, le)))
      (fits_first (q3 + 1 + 1 + 1 + 3) h (k + 2) gens count le)))) in
      let long : length (first ++ op.Jump turn_at ∷ []) ≡ length first + 1 = length-append first (op.Jump turn_at ∷ []) in
      let far : out ≡ q3 + length e3 + 1 = omega (arith, out_is, long) in
      let r3 : Fits code callable limit q3 h e3 h out h = fits_wide code callable limit q3 h h out h e3 next (omega (arith, far)) in
      let r2 = then_exit code callable limit q2 (h + 1) h h out h e2 e3 (fits_branch code callable limit q2 h out (omega (arith, far))) r3 (omega (arith, far)) in
      let r1 = then_plain code callable limit q1 h (h + 1) h out h e1 (e2 ++ e3) less r2.0 (omega (arith, far)) in
      let rc = then_plain code callable limit turn_at h h h out h a (e1 ++ (e2 ++ e3)) body r1.0 (omega (arith, far)) in
      let size : length (a ++ (e1 ++ (e2 ++ e3))) ≡ length a + length (e1 ++ (e2 ++ e3)) = length-append a (e1 ++ (e2 ++ e3)) in
      let whole : (a ++ (e1 ++ (e2 ++ e3))) ++ op.Jump turn_at ∷ [] ≡ a ++ next_number k x gens turn_at out = append_assoc a (e1 ++ (e2 ++ e3)) (op.Jump turn_at ∷ []) in
      subst (λ is. Whole turn_at h is h) whole
      (fits_back code callable limit turn_at h turn_at out (a ++ (e1 ++ (e2 ++ e3))) rc.0 (omega (arith, size, far)) (omega arith) (omega arith) rc.0.first turns)

  name_below : (c : ℕ) (t : Shape) (x : Name) (names : List Name) (text : List ℕ) → AreBelow c names → named text names ≡ Some x → scalars_of_type t ≡ scalars_of_type x.shape → c ≤ limit → SeatIsBelow limit (scalars_of_type t) x.seat
  name_below c t x names text below is same le = subst (λ n. SeatIsBelow limit n x.seat) (sym same) (below_more c limit names le below text x is)

  -- the whole list in which a part is lies below
  part_there : (c from : ℕ) (names : List Name) (e : Tree) (p : Part) → AreBelow c names → part_named names e ≡ Some p → p.seat ≡ Cell from → from + p.size ≤ c
  part_there c from names e p below is seat =
      let f : IsPartOf names p = part_found names e p is in
      let many : scalars_of_type f.x.shape ≡ p.size = sized_is f.x.shape p.size f.size in
      subst (λ k. from + k ≤ c) many (subst (λ z. SeatIsBelow c (scalars_of_type f.x.shape) z) (f.seat ∙ seat) (below f.text f.x f.is))

  -- what fits at a place fits at another that is the same
  at_place : (place base h : ℕ) (instrs : List Instr) → place ≡ base → StandsAt code.instrs base instrs → (StandsAt code.instrs place instrs → Whole place h instrs h) → Whole base h instrs h
  at_place place base h instrs same stands fits = subst (λ p. Whole p h instrs h) same (fits (subst (λ p. StandsAt code.instrs p instrs) (sym same) stands))

  module _ (fs : List Function) (has : HasRoutines code callable limit fs) where
    mutual
      pub fits_fill : {names : List Name} {e : Tree} {t : Shape} {c base n m : ℕ} {instrs : List Instr} (h : ℕ) → AreBelow c names → c + scalars_of_type t ≤ n → m ≤ limit → StandsAt code.instrs base instrs → IsFill fs names e t c base n instrs m → Whole base h instrs h
      fits_fill h below room le stands (one_cell names e t c base n m instrs g) =
          let x = grows g in let up : c ≤ n = omega (arith, room) in
          plain_then code callable limit base h (h + 1) h instrs (op.Store c None ∷ []) (fits_in code callable limit fs has names h (below_more c n names up below) le (stands_left code.instrs base instrs (op.Store c None ∷ []) stands) g) (store code callable limit (base + length instrs) h c (omega (arith, room, x, le)))
      fits_fill h below room le stands (whole_list names text t at c base n x is same) =
          fits_take base h c (scalars_of_type t) x.seat (omega (arith, room, le)) (name_below c t x names text below is (alike_sizes t x.shape same) (omega (arith, room, le)))
      fits_fill h below room le stands (part_list names e t c base n m from instrs p is seat same g) =
          let x = grows_offset g in
          let up : c ≤ n = omega (arith, room) in
          let there : from + p.size ≤ c = part_there c from names e p below is seat in
          plain_then code callable limit base h (h + 1) h instrs (op.CopyFrom c from p.size (scalars_of_type t) ∷ []) (fits_offset code callable limit fs has names h (below_more c n names up below) le (stands_left code.instrs base instrs (op.CopyFrom c from p.size (scalars_of_type t) ∷ []) stands) g)
          (fits_one code callable limit (base + length instrs) (h + 1) h (op.CopyFrom c from p.size (scalars_of_type t)) (omega arith) (omega arith) refl (omega (arith, room, x, le), omega (arith, there, room, x, le)) tt tt tt)
      fits_fill h below room le stands (apart_list names e place t many at c base n k m a b small g d) =
          let x = grows_fill g in let y = grows d in
          let up : c ≤ n = omega (arith, room) in
          let each : ℕ = scalars_of_type t in
          let tail : List Instr = apart_tail c n many each in
          let rest = stands_right code.instrs base a (op.Const (pos 0) ∷ (b ++ tail)) stands in
          let q : ℕ = base + length a + 1 + length b in
          plain_then code callable limit base h h h a (op.Const (pos 0) ∷ (b ++ tail)) (fits_fill h (below_more c n names up below) (omega arith) (omega (arith, y, le)) (stands_left code.instrs base a (op.Const (pos 0) ∷ (b ++ tail)) stands) g)
          (before (base + length a) h (h + 1) h (op.Const (pos 0)) (b ++ tail) (fits_const code callable limit (base + length a) h (pos 0))
          (plain_then code callable limit (base + length a + 1) (h + 1) (h + 1 + 1) h b tail (fits_in code callable limit fs has names (h + 1) (below_more c k names (omega (arith, up, x)) below) le (stands_left code.instrs (base + length a + 1) b tail rest.1) d)
          (before q (h + 1 + 1) (h + 1) h (op.Index many each) (op.CopyFrom c n (many * each) each ∷ []) (fits_one code callable limit q (h + 1 + 1) (h + 1) (op.Index many each) (omega arith) (omega arith) refl tt tt tt tt)
          (fits_one code callable limit (q + 1) (h + 1) h (op.CopyFrom c n (many * each) each) (omega arith) (omega arith) refl (omega (arith, room, x, y, le), omega (arith, x, y, le)) tt tt tt))))
      fits_fill h below room le stands (in_parens names e t at c base n m instrs g) = fits_fill h below room le stands g
      fits_fill h below room le stands (items names es t at c base n m instrs g) = fits_fills h below room le stands g
      fits_fill h below room le stands (either_list names test first other t at c base n k j m else_at end a b d x y z e f) =
          let p = grows_test x in let q = grows_fill y in let r = grows_fill z in
          let up : c ≤ n = omega (arith, room) in
          let tail : List Instr = op.Jump end ∷ d in
          let rest = stands_right code.instrs base a (b ++ tail) stands in
          let place : base + length a + length b ≡ base + length a + length b = refl in
          let there : StandsAt code.instrs (base + length a + length b + 1) d = (stands_right code.instrs (base + length a) b tail rest).1 in
          let third : Whole (base + length a + length b + 1) h d h =
          at_place else_at (base + length a + length b + 1) h d e there (λ st. fits_fill h below (omega (arith, room, p, q)) le st z) in
          let last = fits_jump code callable limit (base + length a + length b) h h end d third (omega (arith, e, f)) in
          branch code callable limit h h base else_at a b tail (fits_test_in code callable limit fs has names h (below_more c n names up below) (omega (arith, q, r, le)) (omega (arith, e)) (stands_left code.instrs base a (b ++ tail) stands) x)
          (fits_fill h below (omega (arith, room, p)) (omega (arith, r, le)) (stands_left code.instrs (base + length a) b tail rest) y) last.0
          (omega (arith, e)) (omega (arith, e)) (last.1 else_at (omega (arith, e)) ∙ ap third.height e ∙ third.first)
      fits_fill h below room le stands (comprehension names item gens t at c base n m many turn_at instrs e small f g) =
          let r : AreCounted gens (n + 1) m = grows_elements g in
          let wide = r.wide in
          let head : List Instr = at_first (n + 1) gens in
          let rest = stands_right code.instrs (base + 1) head instrs stands.1 in
          let up : c ≤ n + 1 = omega (arith, room) in
          before base h h h (op.Zero n 1) (head ++ instrs) (fits_one code callable limit base h h (op.Zero n 1) (omega arith) (omega arith) refl (omega (arith, wide, le)) tt tt tt)
          (plain_then code callable limit (base + 1) h h h head instrs (fits_first (base + 1) h (n + 1) gens r.count (omega (arith, wide, le)))
          (at_place turn_at (base + 1 + length head) h instrs f rest (λ st. fits_elements h (below_more c (n + 1) names up below) (omega (arith, room)) (omega arith) le st g)))
      fits_fill h below room le stands (no_elements names item gens t at c base n e) = fits_none code callable limit base h

      pub fits_fills : {names : List Name} {es : Tree} {t : Shape} {c base n m : ℕ} {instrs : List Instr} (h : ℕ) → AreBelow c names → c + number_of es * scalars_of_type t ≤ n → m ≤ limit → StandsAt code.instrs base instrs → AreFills fs names es t c base n instrs m → Whole base h instrs h
      fits_fills h below room le stands (no_item names t c base n) = fits_none code callable limit base h
      fits_fills h below room le stands (item_more names e es t c base n k m a b g d) =
          let x = grows_fill g in let y = grows_fills d in
          let sum : suc (number_of es) * scalars_of_type t ≡ scalars_of_type t + number_of es * scalars_of_type t = omega arith in
          plain_then code callable limit base h h h a b (fits_fill h below (omega (arith, room, sum)) (omega (arith, y, le)) (stands_left code.instrs base a b stands) g)
          (fits_fills h (below_more c (c + scalars_of_type t) names (omega arith) below) (omega (arith, room, sum, x)) le (stands_right code.instrs base a b stands) d)

      fits_elements : {gens item : Tree} {t : Shape} {c all filled turn_at : ℕ} {names : List Name} {k m : ℕ} {instrs : List Instr} (h : ℕ) → AreBelow k names → c + all ≤ filled → filled < k → m ≤ limit → StandsAt code.instrs turn_at instrs → AreElements fs gens item t c all filled turn_at names k instrs m → Whole turn_at h instrs h
      fits_elements h below room less le stands (one_element item t c all filled turn_at names k m instrs g) =
          let x = grows g in
          let place : turn_at + 2 ≡ turn_at + 1 + 1 = omega arith in
          let last : List Instr = op.StoreAt c all None ∷ filled_more filled 1 in
          let q : ℕ = turn_at + 1 + 1 + length instrs in
          let inner : Whole (turn_at + 1 + 1) (h + 1) instrs (h + 1 + 1) = subst (λ p. Whole p (h + 1) instrs (h + 1 + 1)) place (fits_in code callable limit fs has names (h + 1) below le (stands_left code.instrs (turn_at + 2) instrs last (subst (λ p. StandsAt code.instrs p (instrs ++ last)) (sym place) stands.1.1)) g) in
          before turn_at h h h op.Turn (op.Load filled ∷ (instrs ++ last)) (turn turn_at h)
          (before (turn_at + 1) h (h + 1) h (op.Load filled) (instrs ++ last) (load code callable limit (turn_at + 1) h filled (omega (arith, less, x, le)))
          (plain_then code callable limit (turn_at + 1 + 1) (h + 1) (h + 1 + 1) h instrs last inner
          (before q (h + 1 + 1) h h (op.StoreAt c all None) (filled_more filled 1) (fits_one code callable limit q (h + 1 + 1) h (op.StoreAt c all None) (omega arith) (omega arith) refl (omega (arith, room, less, x, le)) tt tt tt)
          (fits_more (q + 1) h filled 1 (omega (arith, less, x, le))))))
      fits_elements h below room less le stands (list_element item t size c all filled turn_at names k m instrs g) =
          let x = grows_fill g in
          let each : ℕ = scalars_of_type (Many size t) in
          let last : List Instr = op.Load filled ∷ op.CopyTo c all k each None ∷ filled_more filled each in
          let q : ℕ = turn_at + 1 + length instrs in
          before turn_at h h h op.Turn (instrs ++ last) (turn turn_at h)
          (plain_then code callable limit (turn_at + 1) h h h instrs last (fits_fill h below (omega arith) le (stands_left code.instrs (turn_at + 1) instrs last stands.1) g)
          (before q h (h + 1) h (op.Load filled) (op.CopyTo c all k each None ∷ filled_more filled each) (load code callable limit q h filled (omega (arith, less, x, le)))
          (before (q + 1) (h + 1) h h (op.CopyTo c all k each None) (filled_more filled each) (fits_one code callable limit (q + 1) (h + 1) h (op.CopyTo c all k each None) (omega arith) (omega arith) refl (omega (arith, room, less, x, le), omega (arith, x, le)) tt tt tt)
          (fits_more (q + 1 + 1) h filled each (omega (arith, less, x, le))))))
      fits_elements h below room less le stands (each_number g gens item t x c all filled turn_at out names k m instrs e d f) =
          let r : AreCounted gens (k + 2) m = grows_elements d in
          let w = r.wide in
          let gen : IsGenerator g x = generator g x e in
          let last : List Instr = next_number k x gens turn_at out in
          fits_numbers turn_at h k out x gens instrs (meant_sized gen.shape x.kind gen.kind) r.count (omega (arith, w, le))
          (fits_elements h (front_below names x.text x.kind (k + 1) (k + 2) (omega arith) (below_more k (k + 2) names (omega arith) below)) room (omega (arith, less)) le (stands_left code.instrs turn_at instrs last stands) d)
          (turn_first instrs last stands d) f

      -- code of elements begins with a turn
      turn_first : {gens item : Tree} {t : Shape} {c all filled turn_at : ℕ} {names : List Name} {k m : ℕ} (instrs last : List Instr) → StandsAt code.instrs turn_at (instrs ++ last) → AreElements fs gens item t c all filled turn_at names k instrs m → slice_get code.instrs turn_at ≡ Some op.Turn
      turn_first _ last stands (one_element item t c all filled turn_at names k m instrs g) = stands.0
      turn_first _ last stands (list_element item t size c all filled turn_at names k m instrs g) = stands.0
      turn_first _ last stands (each_number g gens item t x c all filled turn_at out names k m instrs e d f) =
          turn_first instrs (next_number k x gens turn_at out ++ last) (subst (λ is. StandsAt code.instrs turn_at is) (append_assoc instrs (next_number k x gens turn_at out) last) stands) d
