-- Code of lists that was added to a draft, part by part.
use Rattle.std.proofs.Common.{◌≡◌, ℕ, ◌+◌, ◌*◌, ◌<◌, List, [], ◌∷◌, ◌++◌, length, map, true, refl, sym, ap, ◌∙◌, subst, Option, None, Some, arith, append_assoc, append-nil, length-append}
use Rattle.std.specs.Prelude.{◌^◌, pos}
use Rattle.std.proofs.lemmas.Bool.Decides.{nat_tests}
use Rattle.std.proofs.lemmas.List.{length-map}
use Rattle.rvc_base.specs.declared.scalar.Scalar.{Scalar}
use Rattle.rvc_base.specs.Width.{is_num}
use Rattle.cal_ast.specs.Tree as tree
use Rattle.cal_ast.specs.Tree.{Tree}
use Rattle.cal_model.specs.Value.{Shape, Single, Many, scalars_of_type}
use Rattle.code_ir.specs.declared.instr.Instr.{Instr}
use Rattle.code_ir.specs.declared.instr.Instr.TheVariants as op
use Rattle.lower_base.specs.declared.draft.Draft.{Draft}
use Rattle.lower_base.specs.Callees.{Function}
use Rattle.lower_base.specs.declared.names.Seat.{Seat}
use Rattle.lower_base.specs.declared.names.Seat.TheVariants.{Cell, Tokens}
use Rattle.lower_base.specs.Coding.{IsCode, IsOffset, IsOpenTest, aimed}
use Rattle.lower_base.specs.Linking.{Links}
use Rattle.lower_base.specs.Listed.{single_of}
use Rattle.lower_base.specs.Lowered.{Adds, IsPut}
use Rattle.lower_base.specs.Names.{Name, local}
use Rattle.lower_base.specs.Parted.{Part, number_of, part_named, sized}
use Rattle.lower_base.proofs.Adding.{put_adds, same_adds, then_adds, then_put}
use Rattle.lower_base.proofs.PartValues.{IsWhole, sized_is, sized_list, whole_found}
use Rattle.lower_base.proofs.Rowed.{small_num}
use Rattle.expr_lower.specs.declared.lists.Target.{Target}
use Rattle.expr_lower.specs.FillWords.{AddsIn, has_no_items}
use Rattle.expr_lower.specs.Filling as filling
use Rattle.expr_lower.specs.Filling.{AreElements, AreFills, IsFill, alike, at_first, either_list, each_number, filled_more, item_more, list_element, next_number, no_item, one_element, part_list, take_instr, whole_list}
use Rattle.lower_base.specs.Generators.{AllCount, Counted, counted_by, how_many, makes_none, spanned, times}
use Rattle.expr_lower.specs.GoingOn.{GoesOn}
use Rattle.expr_lower.specs.LeftOut.{first_cell}
use Rattle.expr_lower.specs.Reserving.{HasMore}

length_join : (old mid a : List Instr) → mid ≡ old ++ a → length mid ≡ length old + length a
length_join old mid a e = ap length e ∙ length-append old a

module _ (fs : List Function) (names : List Name) where
  -- ---- names and items

  pub whole_adds : (text : List ℕ) (t : Shape) (at c size : ℕ) (p : Part) (old new : Draft) → part_named names (tree.variable text at) ≡ Some p → alike t p.shape ≡ true → sized t ≡ Some size → IsPut (take_instr c size p.seat ∷ []) old new
      → Adds (IsFill fs names (tree.variable text at) t c) old new
  whole_adds text t at c size p old new e same is put =
      let f : IsWhole names text p = whole_found names text at p e in
      let wide : scalars_of_type t ≡ size = sized_is t size is in
      let instr : take_instr c size p.seat ≡ take_instr c (scalars_of_type t) f.x.seat = ap (λ k. take_instr c k p.seat) (sym wide) ∙ ap (λ s. take_instr c (scalars_of_type t) s) (sym f.seat) in
      put_adds (IsFill fs names (tree.variable text at) t c) (take_instr c (scalars_of_type t) f.x.seat ∷ []) old new (subst (λ i. IsPut (i ∷ []) old new) instr put)
      (λ base n. whole_list names text t at c base n f.x f.is (subst (λ u. alike t u ≡ true) (sym f.shape) same))

  pub part_adds : (e : Tree) (t : Shape) (c size from : ℕ) (p : Part) (old mid new : Draft) → part_named names e ≡ Some p → alike t p.shape ≡ true → first_cell p.seat ≡ Some from → sized t ≡ Some size
      → Adds (IsOffset fs names e) old mid → IsPut (op.CopyFrom c from p.size size ∷ []) mid new → Adds (IsFill fs names e t c) old new
  part_adds e t c size from p old mid new is same cell wide a put =
      let many : size ≡ scalars_of_type t = sym (sized_is t size wide) in
      then_put (IsOffset fs names e) (IsFill fs names e t c) (op.CopyFrom c from p.size (scalars_of_type t) ∷ []) old mid new
      (λ base n m code h. part_list names e t c base n m from code p is (in_cell p.seat from cell) same h) a (subst (λ k. IsPut (op.CopyFrom c from p.size k ∷ []) mid new) many put)
    where
      in_cell : (seat : Seat) (from : ℕ) → first_cell seat ≡ Some from → seat ≡ Cell from
      in_cell (Cell s) from e = let same : s ≡ from = cc in ap Cell same
      in_cell (Tokens port first step) from e = cc

  pub items_add : (es : Tree) (t : Shape) (at c count : ℕ) (old new : Draft) → number_of es ≡ count → Adds (AreFills fs names es t c) old new → Adds (IsFill fs names (tree.list es at) (Many count t) c) old new
  items_add es t at c count old new e a =
      subst (λ n. Adds (IsFill fs names (tree.list es at) (Many n t) c) old new) e
      (same_adds (AreFills fs names es t c) (IsFill fs names (tree.list es at) (Many (number_of es) t) c) old new (λ base n m code h. filling.items names es t at c base n m code h) a)

  pub none_add : (t : Shape) (c : ℕ) (draft : Draft) → Adds (AreFills fs names tree.nil t c) draft draft
  none_add t c draft = record { code = []; is = sym (append-nil draft.instrs.items); routines = refl; has = no_item names t c (length draft.instrs.items) draft.cells }

  pub more_add : (e es : Tree) (t : Shape) (c each : ℕ) (old mid new : Draft) → sized t ≡ Some each → Adds (IsFill fs names e t c) old mid → Adds (AreFills fs names es t (c + each)) mid new → Adds (AreFills fs names (tree.cons e es) t c) old new
  more_add e es t c each old mid new is a b =
      then_adds (IsFill fs names e t c) (AreFills fs names es t (c + scalars_of_type t)) (AreFills fs names (tree.cons e es) t c) old mid new (λ base n k m x y g h. item_more names e es t c base n k m x y g h) a
      (subst (λ n. Adds (AreFills fs names es t (c + n)) mid new) (sym (sized_is t each is)) b)

  -- ---- branches

  pub choice_adds : (test first other : Tree) (t : Shape) (at c : ℕ) (old d1 d2 d3 d4 new : Draft) (i : Instr) (start exits out jump end : ℕ)
      → Adds (IsOpenTest fs names test) old d1 → Adds (IsFill fs names first t c) d1 d2 → IsPut (i ∷ []) d2 d3 → Adds (IsFill fs names other t c) d3 d4
      → start ≡ length old.instrs.items → exits ≡ length d1.instrs.items → jump ≡ length d2.instrs.items → out ≡ length d3.instrs.items → end ≡ length d4.instrs.items
      → Links d4.instrs.items new.instrs.items start exits out jump end → new.routines.items ≡ d4.routines.items → new.cells ≡ d4.cells
      → Adds (IsFill fs names (tree.if_expr test first other at) t c) old new
  choice_adds test first other t at c old d1 d2 d3 d4 new i start exits out jump end x f p o start_is exits_is jump_is out_is end_is links routines cells =
      let l1 = length_join old.instrs.items d1.instrs.items x.code x.is in
      let l2 = length_join d1.instrs.items d2.instrs.items f.code f.is in
      let l3 = length_join d2.instrs.items d3.instrs.items (i ∷ []) p.is in
      let l4 = length_join d3.instrs.items d4.instrs.items o.code o.is in
      let a : List Instr = map (aimed out) x.code in
      let la : length a ≡ length x.code = length-map x.code (aimed out) in
      let all : d4.instrs.items ≡ (((old.instrs.items ++ x.code) ++ f.code) ++ i ∷ []) ++ o.code = cc (o.is, p.is, f.is, x.is) in
      let flat : (((old.instrs.items ++ x.code) ++ f.code) ++ i ∷ []) ++ o.code ≡ old.instrs.items ++ (x.code ++ (f.code ++ i ∷ o.code)) = simp append_assoc in
      let m1 : exits ≡ start + length x.code = omega (arith, l1) in
      let m2 : jump ≡ exits + length f.code = omega (arith, l2) in
      let e1 : out ≡ length old.instrs.items + length a + length f.code + 1 = omega (arith, l1, l2, l3, la) in
      let e2 : end ≡ out + length o.code = omega (arith, l4) in
      let at1 : length d1.instrs.items ≡ length old.instrs.items + length a = omega (arith, l1, la) in
      record {
        code = a ++ (f.code ++ op.Jump end ∷ o.code);
        is = links old.instrs.items x.code f.code o.code i (all ∙ flat) start_is m1 m2;
        routines = routines ∙ o.routines ∙ p.routines ∙ f.routines ∙ x.routines;
        has = subst (λ m. IsFill fs names (tree.if_expr test first other at) t c (length old.instrs.items) old.cells (a ++ (f.code ++ op.Jump end ∷ o.code)) m) (sym cells)
            (either_list names test first other t at c (length old.instrs.items) old.cells d1.cells d2.cells d4.cells out end a f.code o.code (x.has out)
            (subst (λ q. IsFill fs names first t c q d1.cells f.code d2.cells) at1 f.has)
            (subst (λ q. IsFill fs names other t c q d2.cells o.code d4.cells) (sym out_is) (subst (λ k. IsFill fs names other t c (length d3.instrs.items) k o.code d4.cells) p.cells o.has))
            e1 e2);
      }

  -- ---- elements

  pub one_adds : (item : Tree) (t : Scalar) (to : Target) (old d1 d2 d3 new : Draft) → to.turn ≡ length old.instrs.items → IsPut (op.Turn ∷ op.Load to.filled ∷ []) old d1 → Adds (IsCode fs names item) d1 d2 → IsPut (op.StoreAt to.cell to.all None ∷ []) d2 d3 → IsPut (filled_more to.filled 1) d3 new
      → AddsIn names fs tree.nil item (Single t) to old.cells old new
  one_adds item t to old d1 d2 d3 new at p a q r =
      let l1 = length_join old.instrs.items d1.instrs.items (op.Turn ∷ op.Load to.filled ∷ []) p.is in
      let place : length d1.instrs.items ≡ to.turn + 2 = omega (arith, l1, at) in
      let last : List Instr = op.StoreAt to.cell to.all None ∷ filled_more to.filled 1 in
      let all : new.instrs.items ≡ (((old.instrs.items ++ op.Turn ∷ op.Load to.filled ∷ []) ++ a.code) ++ op.StoreAt to.cell to.all None ∷ []) ++ filled_more to.filled 1 = cc (r.is, q.is, a.is, p.is) in
      let cells : new.cells ≡ d2.cells = r.cells ∙ q.cells in
      record {
        code = op.Turn ∷ op.Load to.filled ∷ (a.code ++ last);
        is = all ∙ simp append_assoc;
        routines = r.routines ∙ q.routines ∙ a.routines ∙ p.routines;
        has = subst (λ m. AreElements fs tree.nil item (Single t) to.cell to.all to.filled to.turn names old.cells (op.Turn ∷ op.Load to.filled ∷ (a.code ++ last)) m) (sym cells)
            (one_element item t to.cell to.all to.filled to.turn names old.cells d2.cells a.code
            (subst (λ y. IsCode fs names item y old.cells a.code d2.cells) place (subst (λ n. IsCode fs names item (length d1.instrs.items) n a.code d2.cells) p.cells a.has)));
      }

  pub list_adds : (item : Tree) (t : Shape) (size each area : ℕ) (to : Target) (old d0 d1 d2 d3 new : Draft) → to.turn ≡ length old.instrs.items → sized (Many size t) ≡ Some each → HasMore each old d0 area → IsPut (op.Turn ∷ []) d0 d1 → Adds (IsFill fs names item (Many size t) area) d1 d2
      → IsPut (op.Load to.filled ∷ op.CopyTo to.cell to.all area each None ∷ []) d2 d3 → IsPut (filled_more to.filled each) d3 new
      → AddsIn names fs tree.nil item (Many size t) to old.cells old new
  list_adds item t size each area to old d0 d1 d2 d3 new at is more p a q r =
      let shape : Shape = Many size t in
      let wide : scalars_of_type shape ≡ each = sized_is shape each is in
      let l1 = length_join d0.instrs.items d1.instrs.items (op.Turn ∷ []) p.is in
      let same = ap length more.instrs in
      let place : length d1.instrs.items ≡ to.turn + 1 = omega (arith, l1, at, same) in
      let last : List Instr = op.Load to.filled ∷ op.CopyTo to.cell to.all area each None ∷ filled_more to.filled each in
      let code : List Instr = op.Turn ∷ (a.code ++ last) in
      let all : new.instrs.items ≡ (((old.instrs.items ++ op.Turn ∷ []) ++ a.code) ++ op.Load to.filled ∷ op.CopyTo to.cell to.all area each None ∷ []) ++ filled_more to.filled each = cc (r.is, q.is, a.is, p.is, more.instrs) in
      let cells : new.cells ≡ d2.cells = r.cells ∙ q.cells in
      let k : d1.cells ≡ old.cells + each = p.cells ∙ more.cells in
      let made : AreElements fs tree.nil item shape to.cell to.all to.filled to.turn names old.cells
      (op.Turn ∷ (a.code ++ op.Load to.filled ∷ op.CopyTo to.cell to.all old.cells (scalars_of_type shape) None ∷ filled_more to.filled (scalars_of_type shape))) d2.cells =
      list_element item t size to.cell to.all to.filled to.turn names old.cells d2.cells a.code
      (subst (λ y. IsFill fs names item shape old.cells (to.turn + 1) (old.cells + y) a.code d2.cells) (sym wide)
      (subst (λ y. IsFill fs names item shape y (to.turn + 1) (old.cells + each) a.code d2.cells) more.is
      (subst (λ y. IsFill fs names item shape area y (old.cells + each) a.code d2.cells) place
      (subst (λ n. IsFill fs names item shape area (length d1.instrs.items) n a.code d2.cells) k a.has))))
      in
      record {
        code = code;
        is = all ∙ simp append_assoc;
        routines = r.routines ∙ q.routines ∙ a.routines ∙ p.routines ∙ more.routines;
        has = subst (λ m. AreElements fs tree.nil item shape to.cell to.all to.filled to.turn names old.cells code m) (sym cells)
            (subst (λ y. AreElements fs tree.nil item shape to.cell to.all to.filled to.turn names old.cells (op.Turn ∷ (a.code ++ op.Load to.filled ∷ op.CopyTo to.cell to.all y each None ∷ filled_more to.filled each)) d2.cells) (sym more.is)
            (subst (λ y. AreElements fs tree.nil item shape to.cell to.all to.filled to.turn names old.cells (op.Turn ∷ (a.code ++ op.Load to.filled ∷ op.CopyTo to.cell to.all old.cells y None ∷ filled_more to.filled y)) d2.cells) wide made));
      }

  pub each_adds : (g gens item : Tree) (t : Shape) (x : Counted) (to : Target) (k : ℕ) (old mid new : Draft) → counted_by g ≡ Some x → to.turn ≡ length old.instrs.items → AddsIn (local x.text x.kind (k + 1) ∷ names) fs gens item t to (k + 2) old mid → GoesOn k x gens to.turn mid new
      → AddsIn names fs (tree.cons g gens) item t to k old new
  each_adds g gens item t x to k old mid new e at a n =
      let last : List Instr = next_number k x gens to.turn n.out in
      let l1 = length_join old.instrs.items mid.instrs.items a.code a.is in
      let l2 = length_join mid.instrs.items new.instrs.items last n.put.is in
      let end = n.end in
      let far : n.out ≡ to.turn + length a.code + length (next_number k x gens to.turn 0) = omega (arith, l1, l2, end, at) in
      record {
        code = a.code ++ last;
        is = n.put.is ∙ ap (λ is. is ++ last) a.is ∙ append_assoc old.instrs.items a.code last;
        routines = n.put.routines ∙ a.routines;
        has = subst (λ m. AreElements fs (tree.cons g gens) item t to.cell to.all to.filled to.turn names k (a.code ++ last) m) (sym n.put.cells)
            (each_number g gens item t x to.cell to.all to.filled to.turn n.out names k mid.cells a.code e a.has far);
      }

  -- a comprehension that makes no element, where a list without items is meant
  pub nothing_adds : (item gens : Tree) (t : Shape) (at c : ℕ) (d : Draft) → makes_none gens ≡ true → has_no_items t ≡ true → Adds (IsFill fs names (tree.comp item gens at) t c) d d
  nothing_adds item gens (Single s) at c d e h = cc
  nothing_adds item gens (Many n items) at c d e h =
      let same : 0 ≡ n = grind (arith, nat_tests, h) in
      record {
        code = [];
        is = sym (append-nil d.instrs.items);
        routines = refl;
        has = subst (λ k. IsFill fs names (tree.comp item gens at) (Many k items) c (length d.instrs.items) d.cells [] d.cells) same (filling.no_elements names item gens items at c (length d.instrs.items) d.cells e);
      }

  pub comp_adds : (item gens : Tree) (t : Shape) (at many gens_count : ℕ) (to : Target) (old d0 d1 d2 new : Draft) → how_many gens ≡ Some many → sized (Many many t) ≡ Some to.all → HasMore gens_count old d0 to.filled → IsPut (op.Zero to.filled 1 ∷ []) d0 d1 → IsPut (at_first (to.filled + 1) gens) d1 d2 → to.turn ≡ length d2.instrs.items
      → AddsIn names fs gens item t to (to.filled + 1) d2 new
      → Adds (IsFill fs names (tree.comp item gens at) (Many many t) to.cell) old new
  comp_adds item gens t at many gens_count to old d0 d1 d2 new is size more p q turn_is a =
      let wide : many * scalars_of_type t ≡ to.all = sized_is (Many many t) to.all size in
      let head : List Instr = at_first (to.filled + 1) gens in
      let code : List Instr = op.Zero to.filled 1 ∷ (head ++ a.code) in
      let l1 = length_join d0.instrs.items d1.instrs.items (op.Zero to.filled 1 ∷ []) p.is in
      let l2 = length_join d1.instrs.items d2.instrs.items head q.is in
      let same = ap length more.instrs in
      let place : to.turn ≡ length old.instrs.items + 1 + length head = omega (arith, l1, l2, same, turn_is) in
      let small : is_num (pos to.all) ≡ true = small_num to.all (sized_small (Many many t) to.all size) in
      let all : new.instrs.items ≡ ((old.instrs.items ++ op.Zero to.filled 1 ∷ []) ++ head) ++ a.code = cc (a.is, q.is, p.is, more.instrs) in
      let has : IsFill fs names (tree.comp item gens at) (Many many t) to.cell (length old.instrs.items) to.filled code new.cells =
      filling.elements names item gens t at to.cell (length old.instrs.items) to.filled new.cells many to.turn a.code is (subst (λ n. is_num (pos n) ≡ true) (sym wide) small) place
      (subst (λ n. AreElements fs gens item t to.cell n to.filled to.turn names (to.filled + 1) a.code new.cells) (sym wide) a.has)
      in
      record {
        code = code;
        is = all ∙ simp append_assoc;
        routines = a.routines ∙ q.routines ∙ p.routines ∙ more.routines;
        has = subst (λ n. IsFill fs names (tree.comp item gens at) (Many many t) to.cell (length old.instrs.items) n code new.cells) more.is has;
      }
    where
      sized_small : (s : Shape) (n : ℕ) → sized s ≡ Some n → n < 2 ^ 32
      sized_small (Single t) n e = let one : ◌≡◌ {A = Option ℕ} (Some 1) (Some n) = e in let same : 1 ≡ n = cc in omega (arith, same)
      sized_small (Many m items) n e = (sized_list m items n e).less

  -- .. of a type that is no single one
  pub list_element_adds : (item : Tree) (t : Shape) (each area : ℕ) (to : Target) (old d0 d1 d2 d3 new : Draft) → single_of t ≡ None → to.turn ≡ length old.instrs.items → sized t ≡ Some each → HasMore each old d0 area → IsPut (op.Turn ∷ []) d0 d1 → Adds (IsFill fs names item t area) d1 d2
      → IsPut (op.Load to.filled ∷ op.CopyTo to.cell to.all area each None ∷ []) d2 d3 → IsPut (filled_more to.filled each) d3 new
      → AddsIn names fs tree.nil item t to old.cells old new
  list_element_adds item (Single t) each area to old d0 d1 d2 d3 new none at is more p a q r = cc
  list_element_adds item (Many size t) each area to old d0 d1 d2 d3 new none at is more p a q r = list_adds item t size each area to old d0 d1 d2 d3 new at is more p a q r

-- generators that make so many elements count
one_counts : (g gens : Tree) (n : ℕ) (o : Option Counted) (p : Option ℕ) → counted_by g ≡ o → how_many gens ≡ p → ◌≡◌ {A = Option ℕ} (elim o [ None ↦ None | Some x ↦ times (spanned x.low x.high) p ]) (Some n) → ((k : ℕ) → how_many gens ≡ Some k → AllCount gens)
    → AllCount (tree.cons g gens)
one_counts g gens n None p q r h rest = cc
one_counts g gens n (Some x) None q r h rest = absurd (no_times (spanned x.low x.high) h)
  where
    no_times : (o : Option ℕ) → times o None ≡ Some n → ⊥
    no_times None h = cc
    no_times (Some k) h = cc
one_counts g gens n (Some x) (Some k) q r h rest = ((x, q), rest k r)

pub all_count : (gens : Tree) (n : ℕ) → how_many gens ≡ Some n → AllCount gens
all_count (tree.cons g gens) n e = one_counts g gens n (counted_by g) (how_many gens) refl refl e (λ k f. all_count gens k f)
all_count other n e = tt

-- one number is made
pub one_many : (a b : ℕ) → ◌≡◌ {A = Option ℕ} (Some a) (Some b) → a ≡ b
one_many a b e = cc
