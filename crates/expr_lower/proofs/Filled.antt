-- Code of a list fills cells with it.
use Rattle.std.proofs.Common.{◌≡◌, ℕ, suc, ◌+◌, ◌*◌, ◌<◌, ◌≤◌, inl, inr, ⊎_elim, ℤ, pos, List, ◌∷◌, ◌++◌, length, true, refl, sym, ap, ◌∙◌, subst, None, Some, arith, length-append}
use Rattle.std.specs.Prelude.{if◌then◌else◌, nat_le, slice_get, slice_set}
use Rattle.std.proofs.lemmas.Bool.Decides.{nat_tests}
use Rattle.std.proofs.lemmas.List.{length-set}
use Rattle.rvc_base.specs.Width.{is_num}
use Rattle.cal_ast.specs.Tree as tree
use Rattle.cal_ast.specs.Tree.{Tree}
use Rattle.cal_model.specs.Value.{Shape, Single, Many, Value, Items, scalars_of_type}
use Rattle.cal_model.specs.Outcome.{Out, Gives, Traps, Lacks, Clashes}
use Rattle.cal_model.specs.Expression.{elements, eval}
use Rattle.code_ir.specs.declared.instr.Instr.{Instr}
use Rattle.code_ir.specs.declared.instr.Instr.TheVariants as op
use Rattle.code_ir.specs.declared.outcome.Outcome.{Outcome}
use Rattle.code_ir.specs.declared.outcome.Outcome.TheVariants as outcome
use Rattle.code_ir.specs.Effect.{Leaves, Breaks, effect}
use Rattle.code_ir.specs.Running.{State, Reaches, Ends}
use Rattle.code_ir.proofs.Ends.{one-end}
use Rattle.code_ir.proofs.Marks.{get-set, get-other}
use Rattle.lower_base.specs.declared.names.Seat.TheVariants.{Cell}
use Rattle.lower_base.specs.Callees.{Function}
use Rattle.lower_base.specs.Calling.{Serves}
use Rattle.lower_base.specs.Flat.{flat_all}
use Rattle.lower_base.specs.Following.{CutsOff, Follows}
use Rattle.lower_base.specs.Held.{AreBelow, Keeps, StandAt}
use Rattle.lower_base.specs.Names.{Name}
use Rattle.lower_base.specs.Parted.{number_of}
use Rattle.lower_base.specs.Placed.{StandsAt, World, state}
use Rattle.lower_base.proofs.Coded.{grows, grows_offset, grows_test}
use Rattle.lower_base.proofs.Keeping.{keeps_join}
use Rattle.lower_base.proofs.Runs.{ends_back, follows_then, reaches_join, stands_left, stands_right}
use Rattle.expr_lower.specs.Filled.{EndsFilled, Fills, FillsWith}
use Rattle.expr_lower.specs.Filling.{AreElements, AreFills, IsFill, apart_list, at_first, either_list, elements as comprehension, each_number, in_parens, item_more, items, list_element, no_elements, no_item, one_cell, one_element, part_list, whole_list, filled_more}
use Rattle.lower_base.specs.Generators.{AllCount, how_many}
use Rattle.expr_lower.proofs.Counters.{GoesToFirst, goes_to_first, width}
use Rattle.expr_lower.proofs.Elements.{AtElements, DoesElements, does_list, does_one}
use Rattle.expr_lower.proofs.Forms.{FillsAt, FillsEach, Ready, fills_either, fills_items, fills_more, fills_name, fills_none, fills_nothing, fills_one, ready_still}
use Rattle.expr_lower.proofs.PartForms.{fills_part}
use Rattle.expr_lower.proofs.ApartLists.{fills_apart}
use Rattle.lower_base.proofs.Generated.{IsMany, many_found}
use Rattle.expr_lower.proofs.Going.{IsSet, below_clear, went_keeps}
use Rattle.expr_lower.proofs.Loops.{does_each}
use Rattle.expr_lower.proofs.Steps.{cut_later, straight_reaches}

-- ---- cells

-- the code of elements counts with each of its generators, whose cells lie below those that it leaves
pub record AreCounted (gens : Tree) (k m : ℕ) : Type 0 where
  pub count : AllCount gens
  pub wide : k + width gens ≤ m

mutual
  pub grows_fill : {fs : List Function} {names : List Name} {e : Tree} {t : Shape} {c base n m : ℕ} {code : List Instr} → IsFill fs names e t c base n code m → n ≤ m
  grows_fill (one_cell names e t c base n m code h) = grows h
  grows_fill (whole_list names text t at c base n x is same) = omega arith
  grows_fill (part_list names e t c base n m from code p is seat same h) = grows_offset h
  grows_fill (apart_list names e place t many at c base n k m a b small h g) = let x = grows_fill h in let y = grows g in omega (arith, x, y)
  grows_fill (in_parens names e t at c base n m code h) = grows_fill h
  grows_fill (items names es t at c base n m code h) = grows_fills h
  grows_fill (either_list names test first other t at c base n k h m else_at end a b d x y z e f) = let p = grows_test x in let q = grows_fill y in let r = grows_fill z in omega (arith, p, q, r)
  grows_fill (comprehension names item gens t at c base n m many turn code e f g h) = let w = (grows_elements h).wide in omega (arith, w)
  grows_fill (no_elements names item gens t at c base n e) = omega arith

  pub grows_fills : {fs : List Function} {names : List Name} {es : Tree} {t : Shape} {c base n m : ℕ} {code : List Instr} → AreFills fs names es t c base n code m → n ≤ m
  grows_fills (no_item names t c base n) = omega arith
  grows_fills (item_more names e es t c base n k m a b h g) = let x = grows_fill h in let y = grows_fills g in omega (arith, x, y)

  pub grows_elements : {fs : List Function} {gens item : Tree} {t : Shape} {c all filled turn : ℕ} {names : List Name} {k m : ℕ} {code : List Instr} → AreElements fs gens item t c all filled turn names k code m → AreCounted gens k m
  grows_elements (one_element item t c all filled turn names k m code h) = record { count = tt; wide = let x = grows h in omega (arith, x) }
  grows_elements (list_element item t size c all filled turn names k m code h) = record { count = tt; wide = let x = grows_fill h in omega (arith, x) }
  grows_elements (each_number g gens item t x c all filled turn out names k m code e h f) =
      let r : AreCounted gens (k + 2) m = grows_elements h in
      record { count = ((x, e), r.count); wide = let w = r.wide in omega (arith, w) }

-- ---- comprehensions

zero_leaves : (c : ℕ) (tokens : ℕ → List ℤ) (stack cells : List ℤ) → c < length cells → effect tokens (op.Zero c 1) stack cells ≡ Leaves stack (slice_set cells c (pos 0))
zero_leaves c tokens stack cells less =
    let near : nat_le (c + 1) (length cells) ≡ true = grind (arith, nat_tests, less) in
    ap (λ b. if b then Leaves stack (slice_set cells c (pos 0)) else Breaks) near

one_many : (many : ℕ) → how_many tree.nil ≡ Some many → many ≡ 1
one_many many e = cc

module _ (fs : List Function) (globals : List Name) (w : World) (serves : Serves w globals fs) (frames : List ℕ) where
  does_elements : (names : List Name) (item gens : Tree) (t : Shape) (at c base n m many turn : ℕ) (code : List Instr) → (fits : c + many * scalars_of_type t ≤ n) → (small : is_num (pos (many * scalars_of_type t)) ≡ true) → turn ≡ base + 1 + length (at_first (n + 1) gens) → AreCounted gens (n + 1) m
      → DoesElements fs globals w serves frames c (many * scalars_of_type t) n fits small gens item t turn names (n + 1) code m many
      → FillsAt fs globals w serves frames names (tree.comp item gens at) (Many many t) c base (op.Zero n 1 ∷ (at_first (n + 1) gens ++ code)) m
  does_elements names item gens t at c base n m many turn code fits small turn_is counted does env stack cells left stands r =
      let head : List Instr = at_first (n + 1) gens in
      let all : ℕ = many * scalars_of_type t in
      let s : State = state base stack frames cells left in
      let room = r.room in
      let wide = counted.wide in
      let one : List ℤ = slice_set cells n (pos 0) in
      let size : length one ≡ length cells = length-set cells n (pos 0) in
      let there : n < length cells = omega (arith, room, wide) in
      let first : GoesToFirst w frames (n + 1) (base + 1) gens stack one left = goes_to_first w frames (n + 1) (base + 1) gens stack one left counted.count (omega (arith, room, wide, size)) (stands_left w.code.instrs (base + 1) head code stands.1) in
      let keeps : Keeps c m w.low w.high cells first.now = record {
        size = first.same_size ∙ size;
        cell = λ d free apart. first.others d (⊎_elim (λ (a : d < c). inl (omega (arith, a, fits))) (λ (a : m ≤ d). inr (omega (arith, a, wide))) free)
            ∙ get-other cells n d (pos 0) (λ e. ⊎_elim (λ (a : d < c). absurd (omega (arith, a, e, fits))) (λ (a : m ≤ d). absurd (omega (arith, a, e, wide))) free);
      } in
      let u : State = state turn stack frames first.now left in
      let on : Reaches w.code w.tokens s u = subst (λ p. Reaches w.code w.tokens s (state p stack frames first.now left)) (sym turn_is)
      (reaches_join (straight_reaches w base (op.Zero n 1) stack stack frames cells one left (λ code tokens x. refl) stands.0 (zero_leaves n w.tokens stack cells there)) first.reaches) in
      let now : Ready fs globals w serves frames names env c m first.now = ready_still fs globals w serves frames names env c m cells first.now keeps r in
      let set : IsSet fs globals w serves frames c n names env (n + 1) m first.now = record {
        clear = (below_clear fs globals w serves frames c n (n + 1) names now.below.0, below_clear fs globals w serves frames c n (n + 1) globals now.below.1);
        apart = now.apart;
        free = now.free;
        room = now.room;
        held = now.held;
      } in
      let rest : StandsAt w.code.instrs turn code = subst (λ p. StandsAt w.code.instrs p code) (sym turn_is) (stands_right w.code.instrs (base + 1) head code stands.1) in
      let counts : slice_get first.now n ≡ Some (pos 0) = first.others n (inl (omega arith)) ∙ get-set cells n (pos 0) there in
      let end : turn + length code ≡ base + length (op.Zero n 1 ∷ (head ++ code)) = omega (arith, turn_is, length-append head code) in
      let zero_more : c + 0 ≡ c = omega arith in
      follows_then (elements gens (λ inner j. eval item w.calls inner j) w.calls env left) (λ vs j. Gives (Items vs) j) (AtElements fs globals w serves frames c all n fits small (n + 1) m 0 many t u (turn + length code)) (CutsOff w c m u)
      (Fills w c m c (Many many t) s (base + length (op.Zero n 1 ∷ (head ++ code)))) (CutsOff w c m s)
      (does env stack first.now left 0 rest set counts (omega arith) first.first)
      (λ vs j p. record {
        cells = p.cells;
        reaches = subst (λ q. Reaches w.code w.tokens s (state q stack frames p.cells j)) end (reaches_join on p.reaches);
        keeps = keeps_join keeps (went_keeps fs globals w serves frames c n (n + 1) m 0 first.now p.cells (omega arith) (omega (arith, wide)) p.went);
        shaped = (p.as_many, p.shaped);
        stands = subst (λ d. StandAt (Cell d) w.tokens p.cells (flat_all vs)) zero_more p.stands;
      })
      (λ d q. cut_later w c m s u d on keeps q)

  -- ---- all forms

  mutual
    pub fills_in : {names : List Name} {e : Tree} {t : Shape} {c base n m : ℕ} {code : List Instr} → IsFill fs names e t c base n code m → c + scalars_of_type t ≤ n → FillsAt fs globals w serves frames names e t c base code m
    fills_in (one_cell names e t c base n m code h) le = fills_one fs globals w serves frames names e t c base n m code h le (grows h)
    fills_in (whole_list names text t at c base n x is same) le = fills_name fs globals w serves frames names text t at c base n x is same le
    fills_in (part_list names e t c base n m from code p is seat same h) le = fills_part fs globals w serves frames names e t c base n m from code p is seat same h le (grows_offset h)
    fills_in (apart_list names e place t many at c base n k m a b small h g) le = fills_apart fs globals w serves frames names e place t many at c base n k m a b small le (grows_fill h) (grows g) (fills_in h (omega arith)) g
    fills_in (in_parens names e t at c base n m code h) le = fills_in h le
    fills_in (items names es t at c base n m code h) le = fills_items fs globals w serves frames names es t at c base m code (fills_each h le)
    fills_in (either_list names test first other t at c base n k h m else_at end a b d x y z e f) le =
        let p = grows_test x in let q = grows_fill y in let r = grows_fill z in
        fills_either fs globals w serves frames names test first other t at c base n k h m else_at end a b d (omega (arith, le)) p q r e f x (fills_in y (omega (arith, le, p))) (fills_in z (omega (arith, le, p, q)))
    fills_in (comprehension names item gens t at c base n m many turn code e small f h) le =
        does_elements names item gens t at c base n m many turn code le small f (grows_elements h) (does_all h le small (omega arith) many e)
    fills_in (no_elements names item gens t at c base n e) le = fills_nothing fs globals w serves frames names item gens t at c base n e

    pub fills_each : {names : List Name} {es : Tree} {t : Shape} {c base n m : ℕ} {code : List Instr} → AreFills fs names es t c base n code m → c + number_of es * scalars_of_type t ≤ n → FillsEach fs globals w serves frames names es t c base code m
    fills_each (no_item names t c base n) le = fills_none fs globals w serves frames names t c base n
    fills_each (item_more names e es t c base n k m a b h g) le =
        let x = grows_fill h in
        let sum : suc (number_of es) * scalars_of_type t ≡ scalars_of_type t + number_of es * scalars_of_type t = omega arith in
        fills_more fs globals w serves frames names e es t c base n k m a b (omega (arith, le, sum)) x (grows_fills g) (fills_in h (omega (arith, le, sum))) (fills_each g (omega (arith, le, sum, x)))

    pub does_all : {gens item : Tree} {t : Shape} {c all filled turn : ℕ} {names : List Name} {k m : ℕ} {code : List Instr} → AreElements fs gens item t c all filled turn names k code m → (fits : c + all ≤ filled) → (small : is_num (pos all) ≡ true) → filled < k → (many : ℕ) → how_many gens ≡ Some many
        → DoesElements fs globals w serves frames c all filled fits small gens item t turn names k code m many
    does_all (one_element item t c all filled turn names k m code h) fits small le many e =
        subst (λ n. DoesElements fs globals w serves frames c all filled fits small tree.nil item (Single t) turn names k (op.Turn ∷ op.Load filled ∷ (code ++ op.StoreAt c all None ∷ filled_more filled 1)) m n) (sym (one_many many e))
        (does_one fs globals w serves frames c all filled fits small item t turn names k m code h le (grows h))
    does_all (list_element item t size c all filled turn names k m code h) fits small le many e =
        subst (λ n. DoesElements fs globals w serves frames c all filled fits small tree.nil item (Many size t) turn names k (op.Turn ∷ (code ++ op.Load filled ∷ op.CopyTo c all k (scalars_of_type (Many size t)) None ∷ filled_more filled (scalars_of_type (Many size t)))) m n) (sym (one_many many e))
        (does_list fs globals w serves frames c all filled fits small item (Many size t) turn names k m code le (grows_fill h) (fills_in h (omega arith)))
    does_all (each_number g gens item t x c all filled turn out names k m code e h f) fits small le many is =
        let r : AreCounted gens (k + 2) m = grows_elements h in
        let many_is : IsMany x gens many = many_found g gens x many e is in
        does_each fs globals w serves frames c all filled fits small g gens item t turn out x names k m many many_is.each code e many_is.is le r.wide r.count f
        (does_all h fits small (omega (arith, le)) many_is.each many_is.inside)

-- ---- and no other end

ends_filled : (w : World) (c m : ℕ) (t : Shape) (s : State) (end : ℕ) (out : Out Value) (o : Outcome) (last : List ℤ) → Follows out (Fills w c m c t s end) (CutsOff w c m s) → Ends w.code w.tokens s o last → EndsFilled w c s end out o last
ends_filled w c m t s end (Gives v left) o last p r = (p.cells, p.stands, ends_back o last p.reaches r)
ends_filled w c m t s end (Traps d) o last q r = (one-end w.code w.tokens (outcome.Trap d) q.cells r q.ends).0
ends_filled w c m t s end Lacks o last q r = tt
ends_filled w c m t s end Clashes o last q r = tt

pub fills_with : {fs : List Function} (names : List Name) (e : Tree) (t : Shape) (c base n m : ℕ) (code : List Instr) → AreBelow c names → c + scalars_of_type t ≤ n → IsFill fs names e t c base n code m → FillsWith fs names e t c base m code
fills_with {fs = fs} names e t c base n m code below le coded = record {
  goes = λ w globals env stack frames cells left stands serves p free room.
      fills_in fs globals w serves frames coded le env stack cells left stands
      (record { below = (below, p.globals_below); apart = (p.apart, p.globals_apart); free = free; room = room; held = (p.holds, p.holds_globals, p.room) });
  only = λ w globals env stack frames cells left stands serves p free room o last r.
      ends_filled w c m t (state base stack frames cells left) (base + length code) (eval e w.calls env left) o last
      (fills_in fs globals w serves frames coded le env stack cells left stands
      (record { below = (below, p.globals_below); apart = (p.apart, p.globals_apart); free = free; room = room; held = (p.holds, p.holds_globals, p.room) })) r;
}
