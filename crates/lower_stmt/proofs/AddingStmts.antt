-- Code of statements that was added to a draft, part by part.
use Rattle.std.specs.Prelude.{if◌then◌else◌, nat_eq}
use Rattle.std.proofs.lemmas.Bool.Decides.{nat_tests}
use Rattle.std.proofs.Common.{◌≡◌, ◌≢◌, true, false, ℕ, pos, zero, suc, ◌+◌, ◌<◌, ◌≤◌, List, [], ◌∷◌, ◌++◌, length, map, take, drop, get_or, Bool, refl, sym, ap, ◌∙◌, subst, Option, None, Some, arith, append_assoc, length-append}
use Rattle.std.proofs.lemmas.List.{append-nil, length-map, map-append, take_more, take_all, take-append-drop}
use Rattle.rvc_base.specs.declared.scalar.Scalar.{Scalar}
use Rattle.cal_ast.specs.Tree as tree
use Rattle.cal_ast.specs.Tree.{Tree, listed}
use Rattle.cal_model.specs.Value.{Shape, Single, Many, scalars_of_type}
use Rattle.code_ir.specs.declared.instr.Instr.{Instr}
use Rattle.code_ir.specs.declared.instr.Instr.TheVariants as op
use Rattle.cal_model.specs.View.{shape_view}
use Rattle.lower_stmt.specs.declared.counter.Counter.{Counter}
use Rattle.lower_stmt.specs.declared.targets.Target.{Target}
use Rattle.lower_stmt.specs.declared.counter.Span.{Span}
use Rattle.lower_stmt.specs.SeenStmts.{CountsSpan, IsTarget, put_code}
use Rattle.lower_base.specs.Parted.{Part, alike, number_of, part_named, sized}
use Rattle.expr_lower.specs.FillWords.{HasCells}
use Rattle.expr_lower.specs.Filling.{IsFill}
use Rattle.lower_stmt.specs.Targets.{cell_of, cell_named, cells_at, cells_of, cells_named, leaf_of, part_in, source_in, source_of, whole_cells_in}
use Rattle.lower_base.proofs.PartValues.{IsWhole, sized_is, whole_found}
use Rattle.lower_base.specs.declared.draft.Draft.{Draft}
use Rattle.lower_base.specs.declared.fault.LowerFault.{LowerFault}
use Rattle.lower_base.specs.declared.fault.LowerFault.TheVariants.{Memory, TooLong, TooManyCells, NotLowered}
use Rattle.lower_base.specs.declared.names.ItemList.{ItemList}
use Rattle.lower_stmt.specs.declared.targets.ListCells.{ListCells}
use Rattle.lower_base.specs.declared.names.OneCell.{OneCell}
use Rattle.lower_base.specs.declared.names.Seat.{Seat}
use Rattle.lower_base.specs.declared.names.Seat.TheVariants.{Cell, Tokens}
use Rattle.lower_base.specs.Names.{Name, named, local}
use Rattle.lower_base.specs.Held.{AreBelow}
use Rattle.lower_stmt.specs.Changing.{AreTyped, NamesApart}
use Rattle.lower_base.specs.Coding.{IsCode, IsTest, IsOpenTest, aimed, AreArgs}
use Rattle.lower_stmt.specs.Executing.{IsExecuted}
use Rattle.lower_base.specs.Growing.{IsFault, first_cell, left_out_in, ◌or_else◌, left_out_args}
use Rattle.lower_base.specs.Listed.{list_named}
use Rattle.lower_base.specs.Linking.{Closes, Links}
use Rattle.lower_stmt.specs.Jumping.{SetsExit, SetsJump}
use Rattle.lower_base.specs.Lowered.{Adds, IsPut}
use Rattle.lower_base.specs.Meant.{single_meant}
use Rattle.expr_lower.specs.ShapeMeant.{shape_meant}
use Rattle.lower_stmt.specs.ListStarting.{left_out_list_start, local_of}
use Rattle.lower_stmt.specs.StartWords.{TakesListStart}
use Rattle.lower_stmt.specs.Stating.{IsKept, IsStmt, copy_code, no_place, part_tail, place_more, set_filled, set_items, set_list, set_part, set_part_list, set_whole, step_code, AreStmts, set, set_item, if_alone, if_else, while_code, each_code, each_counted, none, one_more, IsBlock, variable_more, count_first, count_next, counter_at, each_bounds, each_head, each_less, each_next, each_tail, each_turn, call, run_code, list_more}
use Rattle.lower_base.specs.Starting.{IsStart, left_out_start}
use Rattle.lower_stmt.specs.Reserving.{HasMore, HasTaken}
use Rattle.lower_base.specs.Taking.{HasOneMore}
use Rattle.lower_base.specs.Callees.{Function}
use Rattle.lower_stmt.specs.StmtGrowing.{left_out_chosen, left_out_deep, left_out_each, left_out_filled, left_out_items, left_out_part, left_out_put, left_out_set, left_out_stmt, left_out_all, left_out_vars}
use Rattle.lower_base.proofs.Adding.{length_join, put_adds}
use Rattle.lower_base.proofs.BoundWhole.{bound_whole}
use Rattle.expr_lower.specs.LeftOut.{left_out_fill}
use Rattle.lower_stmt.proofs.DeepItems.{grows_kept, part_leaf, part_sized}
use Rattle.lower_stmt.proofs.ErasedStmts.{any_cell, any_cell_vars}
use Rattle.lower_stmt.proofs.Executed.{executes, grows_all}
use Rattle.lower_stmt.proofs.FittedStmts.{fits_all}
use Rattle.lower_base.proofs.Listing.{IsListName, found}
use Rattle.lower_base.proofs.Weights.{weight}
use Rattle.lower_stmt.specs.Procedures.{Routines, Procedure, no_routines, procedure_for}
use Rattle.lower_stmt.specs.Calls.{HasRunRoutines}
use Rattle.code_ir.specs.Code.{Code}

-- ---- statements in a row

-- one statement more at the end
all_more : {rs : Routines} (ts : List Tree) (t : Tree) {names : List Name} {base n k m : ℕ} {a b : List Instr} → AreStmts rs names (listed ts) base n a k → IsStmt rs names t (base + length a) k b m
    → AreStmts rs names (listed (ts ++ t ∷ [])) base n (a ++ b) m
all_more {rs = rs} [] t {m = m} {b = b} (none names base n) h =
    subst (λ is. AreStmts rs names (tree.cons t tree.nil) base n is m) (append-nil b)
    (one_more names t tree.nil base n m m b [] (subst (λ p. IsStmt rs names t p n b m) (let e : base + 0 ≡ base = omega arith in e) h) (none names (base + length b) m))
all_more {rs = rs} (s ∷ ts) t {m = m} {b = b} (one_more names first rest base n j k c d g f) h =
    let place : base + length (c ++ d) ≡ base + length c + length d = omega (arith, length-append c d) in
    subst (λ is. AreStmts rs names (tree.cons s (listed (ts ++ t ∷ []))) base n is m) (sym (append_assoc c d b))
    (one_more names s (listed (ts ++ t ∷ [])) base n j m c (d ++ b) g
    (all_more ts t f (subst (λ p. IsStmt rs names t p k b m) place h)))

-- what is left out of statements that are whole up to the last
left_more : (rs : Routines) (names : List Name) (ts : List Tree) (t : Tree) → left_out_all rs names (listed ts) ≡ None → left_out_all rs names (listed (ts ++ t ∷ [])) ≡ left_out_stmt rs names t
left_more rs names [] t e = none_after (left_out_stmt rs names t)
  where
    none_after : (o : Option ℕ) → o or_else None ≡ o
    none_after None = refl
    none_after (Some x) = refl
left_more rs names (s ∷ ts) t e =
    let parts = both_none (left_out_stmt rs names s) (left_out_all rs names (listed ts)) e in
    ap (λ o. o or_else left_out_all rs names (listed (ts ++ t ∷ []))) parts.0 ∙ left_more rs names ts t parts.1
  where
    both_none : (a b : Option ℕ) → a or_else b ≡ None → (a ≡ None) × (b ≡ None)
    both_none None b e = (refl, e)
    both_none (Some x) b e = cc

-- the statements that come later don't change what is the first that is left out
left_first : (rs : Routines) (names : List Name) (ts us : List Tree) (at : ℕ) → left_out_all rs names (listed ts) ≡ Some at → left_out_all rs names (listed (ts ++ us)) ≡ Some at
left_first rs names [] us at e = cc
left_first rs names (s ∷ ts) us at e = go (left_out_stmt rs names s) (left_first rs names ts us at) e
  where
    go : (o : Option ℕ) → (left_out_all rs names (listed ts) ≡ Some at → left_out_all rs names (listed (ts ++ us)) ≡ Some at) → o or_else left_out_all rs names (listed ts) ≡ Some at → o or_else left_out_all rs names (listed (ts ++ us)) ≡ Some at
    go None later e = later e
    go (Some x) later e = e

-- some of the statements are added
pub record AreAdded (rs : Routines) (names : List Name) (ts : List Tree) (old new : Draft) : Type 0 where
  pub added : Adds (AreStmts rs names (listed ts)) old new
  pub whole : left_out_all rs names (listed ts) ≡ None

pub none_added : {rs : Routines} (names : List Name) (old : Draft) → AreAdded rs names [] old old
none_added names old = record {
  added = record { code = []; is = sym (append-nil old.instrs.items); routines = refl; has = none names (length old.instrs.items) old.cells };
  whole = refl;
}

pub more_added : {rs : Routines} {X : Type 0} (f : X → Tree) (names : List Name) (xs : List X) (x : X) (i : ℕ) (old mid new : Draft) → i < length xs → x ≡ get_or xs i x
    → AreAdded rs names (map f (take i xs)) old mid → Adds (IsStmt rs names (f x)) mid new → left_out_stmt rs names (f x) ≡ None → AreAdded rs names (map f (take (i + 1) xs)) old new
more_added {rs = rs} f names xs x i old mid new small is before now whole =
    let split : map f (take (i + 1) xs) ≡ map f (take i xs) ++ f x ∷ [] = ap (map f) (take_more xs i x small ∙ ap (λ y. take i xs ++ y ∷ []) (sym is)) ∙ map-append f (take i xs) (x ∷ []) in
    let a = before.added in
    let place : length mid.instrs.items ≡ length old.instrs.items + length a.code = length_join old.instrs.items mid.instrs.items a.code a.is in
    subst (λ ts. AreAdded rs names ts old new) (sym split) (record {
      added = record {
        code = a.code ++ now.code;
        is = now.is ∙ ap (λ is. is ++ now.code) a.is ∙ append_assoc old.instrs.items a.code now.code;
        routines = now.routines ∙ a.routines;
        has = all_more (map f (take i xs)) (f x) a.has (subst (λ p. IsStmt rs names (f x) p mid.cells now.code new.cells) place now.has);
      };
      whole = left_more rs names (map f (take i xs)) (f x) before.whole ∙ whole;
    })

pub all_added : {rs : Routines} {X : Type 0} (f : X → Tree) (names : List Name) (xs : List X) (i : ℕ) (old new : Draft) → length xs ≤ i → AreAdded rs names (map f (take i xs)) old new → AreAdded rs names (map f xs) old new
all_added {rs = rs} f names xs i old new large h = subst (λ ys. AreAdded rs names (map f ys) old new) (take_all i xs large) h

-- the fault of a statement is that of all
pub fault_among : (rs : Routines) {X : Type 0} (f : X → Tree) (names : List Name) (xs : List X) (x : X) (i : ℕ) (draft : Draft) (fault : LowerFault) → i < length xs → x ≡ get_or xs i x
    → left_out_all rs names (listed (map f (take i xs))) ≡ None → IsFault (left_out_stmt rs names (f x)) draft fault → IsFault (left_out_all rs names (listed (map f xs))) draft fault
fault_among rs f names xs x i draft Memory small is whole h = tt
fault_among rs f names xs x i draft TooLong small is whole h = h
fault_among rs f names xs x i draft TooManyCells small is whole h = h
fault_among rs f names xs x i draft (NotLowered at) small is whole h =
    let split : map f (take (i + 1) xs) ≡ map f (take i xs) ++ f x ∷ [] = ap (map f) (take_more xs i x small ∙ ap (λ y. take i xs ++ y ∷ []) (sym is)) ∙ map-append f (take i xs) (x ∷ []) in
    let first : left_out_all rs names (listed (map f (take (i + 1) xs))) ≡ Some at = ap (λ ts. left_out_all rs names (listed ts)) split ∙ left_more rs names (map f (take i xs)) (f x) whole ∙ h in
    let all : map f (take (i + 1) xs) ++ map f (drop (i + 1) xs) ≡ map f xs = sym (map-append f (take (i + 1) xs) (drop (i + 1) xs)) ∙ ap (map f) (take-append-drop (i + 1) xs) in
    ap (λ ts. left_out_all rs names (listed ts)) (sym all) ∙ left_first rs names (map f (take (i + 1) xs)) (map f (drop (i + 1) xs)) at first

-- ---- assignments

pub record IsCellOf (names : List Name) (text : List ℕ) (c : OneCell) : Type 0 where
  pub x : Name
  pub is : named text names ≡ Some x
  pub seat : x.seat ≡ Cell c.cell
  pub shape : x.shape ≡ Single c.kind

pub cell_found : (names : List Name) (text : List ℕ) (c : OneCell) → cell_named names text ≡ Some c → IsCellOf names text c
cell_found names text c e = go (named text names) refl e
  where
    at_seat : (x : Name) (seat : Seat) (shape : Shape) → x.seat ≡ seat → x.shape ≡ shape → named text names ≡ Some x → cell_of seat shape ≡ Some c → IsCellOf names text c
    at_seat x (Cell d) (Single t) s p is h =
        let made : OneCell = record { cell = d; kind = t } in
        let same : made ≡ c = cc in
        record { x = x; is = is; seat = s ∙ ap (λ (o : OneCell). Cell o.cell) same; shape = p ∙ ap (λ (o : OneCell). Single o.kind) same }
    at_seat x (Cell d) (Many n items) s p is h = cc
    at_seat x (Tokens port first step) shape s p is h = cc

    go : (o : Option Name) → named text names ≡ o → elim o [ None ↦ None | Some x ↦ cell_of x.seat x.shape ] ≡ Some c → IsCellOf names text c
    go None is h = cc
    go (Some x) is h = at_seat x x.seat x.shape refl refl is h

pub record AreCellsOf (names : List Name) (text : List ℕ) (c : ListCells) : Type 0 where
  pub x : Name
  pub is : named text names ≡ Some x
  pub seat : x.seat ≡ Cell c.cell
  pub shape : x.shape ≡ Many c.size (Single c.kind)

pub cells_found : (names : List Name) (text : List ℕ) (c : ListCells) → cells_named names text ≡ Some c → AreCellsOf names text c
cells_found names text c e = go (list_named names (tree.variable text 0)) refl e
  where
    same_text : (a b : List ℕ) (p : ℕ) → tree.variable a 0 ≡ tree.variable b p → a ≡ b
    same_text a b p h = cc

    at_seat : (l : ItemList) (seat : Seat) → l.seat ≡ seat → list_named names (tree.variable text 0) ≡ Some l
        → elim seat [ Cell d ↦ Some (record { cell = d; size = l.size; kind = l.kind }) | Tokens port first step ↦ None ] ≡ Some c → AreCellsOf names text c
    at_seat l (Cell d) s is h =
        let f : IsListName names (tree.variable text 0) l = found names (tree.variable text 0) l is in
        let made : ListCells = record { cell = d; size = l.size; kind = l.kind } in
        let same : made ≡ c = cc in
        let called : text ≡ f.text = same_text text f.text f.place f.tree_is in
        record {
          x = f.x;
          is = subst (λ t. named t names ≡ Some f.x) (sym called) f.is;
          seat = f.seat ∙ s ∙ ap (λ (o : ListCells). Cell o.cell) same;
          shape = f.shape ∙ ap (λ (o : ListCells). Many o.size (Single o.kind)) same;
        }
    at_seat l (Tokens port first step) s is h = cc

    go : (o : Option ItemList) → list_named names (tree.variable text 0) ≡ o → elim o [ None ↦ None | Some l ↦ cells_of l ] ≡ Some c → AreCellsOf names text c
    go None is h = cc
    go (Some l) is h = at_seat l l.seat refl is h

pub set_adds : {rs : Routines} (names : List Name) (text : List ℕ) (value : Tree) (place at : ℕ) (c : OneCell) (old mid new : Draft) → cell_named names text ≡ Some c → Adds (IsCode rs.functions names value) old mid
    → IsPut (op.Store c.cell (Some c.kind) ∷ []) mid new → Adds (IsStmt rs names (tree.assign (tree.ident text place) tree.nil value at)) old new
set_adds {rs = rs} names text value place at c old mid new e a p =
    let f : IsCellOf names text c = cell_found names text c e in
    record {
      code = a.code ++ op.Store c.cell (Some c.kind) ∷ [];
      is = p.is ∙ ap (λ xs. xs ++ op.Store c.cell (Some c.kind) ∷ []) a.is ∙ append_assoc old.instrs.items a.code (op.Store c.cell (Some c.kind) ∷ []);
      routines = p.routines ∙ a.routines;
      has = subst (λ m. IsStmt rs names (tree.assign (tree.ident text place) tree.nil value at) (length old.instrs.items) old.cells (a.code ++ op.Store c.cell (Some c.kind) ∷ []) m) (sym p.cells)
          (set names text value place at (length old.instrs.items) old.cells mid.cells c.cell a.code f.x c.kind f.is f.seat f.shape a.has);
    }

pub list_adds : {rs : Routines} (names : List Name) (text : List ℕ) (value : Tree) (place at : ℕ) (c : ListCells) (l : ItemList) (old new : Draft) → cells_named names text ≡ Some c → list_named names value ≡ Some l → l.size ≡ c.size
    → IsPut (copy_code c.cell c.size c.kind l.seat) old new → Adds (IsStmt rs names (tree.assign (tree.ident text place) tree.nil value at)) old new
list_adds {rs = rs} names text value place at c l old new e g many p =
    let f : AreCellsOf names text c = cells_found names text c e in
    put_adds (IsStmt rs names (tree.assign (tree.ident text place) tree.nil value at)) (copy_code c.cell c.size c.kind l.seat) old new p
    (λ base n. set_list names text value place at base n c.cell c.size f.x c.kind l f.is f.seat f.shape g many)

-- one place more that is kept
pub kept_adds : {fs : List Function} (names : List Name) (place places : Tree) (c : ℕ) (old d1 d2 new : Draft) → Adds (IsCode fs names place) old d1 → IsPut (op.Store c None ∷ []) d1 d2 → Adds (IsKept fs names (c + 1) places) d2 new → Adds (IsKept fs names c (tree.cons place places)) old new
kept_adds {fs = fs} names place places c old d1 d2 new a p b =
    let i : Instr = op.Store c None in
    let l1 = length_join old.instrs.items d1.instrs.items a.code a.is in
    let l2 = length_join d1.instrs.items d2.instrs.items (i ∷ []) p.is in
    let at : length d2.instrs.items ≡ length old.instrs.items + length a.code + 1 = omega (arith, l1, l2) in
    let all : new.instrs.items ≡ ((old.instrs.items ++ a.code) ++ i ∷ []) ++ b.code = cc (b.is, p.is, a.is) in
    let flat : ((old.instrs.items ++ a.code) ++ i ∷ []) ++ b.code ≡ old.instrs.items ++ (a.code ++ i ∷ b.code) = simp append_assoc in
    record {
      code = a.code ++ i ∷ b.code;
      is = all ∙ flat;
      routines = b.routines ∙ p.routines ∙ a.routines;
      has = place_more place places c (length old.instrs.items) old.cells d1.cells new.cells a.code b.code a.has
          (subst (λ q. IsKept fs names (c + 1) places q d1.cells b.code new.cells) at (subst (λ q. IsKept fs names (c + 1) places (length d2.instrs.items) q b.code new.cells) p.cells b.has));
    }

pub kept_none : {fs : List Function} (names : List Name) (c : ℕ) (draft : Draft) → Adds (IsKept fs names c tree.nil) draft draft
kept_none names c draft = record { code = []; is = sym (append-nil draft.instrs.items); routines = refl; has = no_place c (length draft.instrs.items) draft.cells }

-- an assignment with one place, of what is no list of single values
pub one_place : (fs : List Function) (names : List Name) (text : List ℕ) (spot value : Tree) (at : ℕ) (ts : List Tree) → ts ≡ spot ∷ [] → cells_named names text ≡ None → left_out_set fs names text (listed ts) value at ≡ left_out_deep fs names text (listed ts) value at
one_place fs names text spot value at ts is e =
    subst (λ us. left_out_set fs names text (listed us) value at ≡ left_out_deep fs names text (listed us) value at) (sym is)
    (ap (λ (o : Option ListCells). elim o [ None ↦ left_out_deep fs names text (tree.cons spot tree.nil) value at | Some c ↦ left_out_in fs names spot or_else left_out_in fs names value ]) e)

-- .. or with two places or more
pub many_places : (fs : List Function) (names : List Name) (text : List ℕ) (value : Tree) (at : ℕ) (ts : List Tree) → 2 ≤ length ts → left_out_set fs names text (listed ts) value at ≡ left_out_deep fs names text (listed ts) value at
many_places fs names text value at [] h = absurd (omega (arith, h))
many_places fs names text value at (t ∷ []) h = absurd (omega (arith, h))
many_places fs names text value at (t ∷ u ∷ ts) h = refl

-- as many items as the list has, and another number
pub items_fit : (fs : List Function) (names : List Name) (c : ListCells) (items : Tree) (at count : ℕ) → count ≡ number_of items → count ≡ c.size → left_out_items fs names c items at ≡ left_out_each fs names items
items_fit fs names c items at count number size =
    let same : nat_eq (number_of items) c.size ≡ true = grind (arith, nat_tests, number, size) in
    ap (λ b. if b then left_out_each fs names items else Some at) same

pub items_differ : (fs : List Function) (names : List Name) (c : ListCells) (items : Tree) (at count : ℕ) → count ≡ number_of items → count ≢ c.size → left_out_items fs names c items at ≡ Some at
items_differ fs names c items at count number size =
    let other : number_of items ≢ c.size = λ e. size (number ∙ e) in
    go (nat_eq (number_of items) c.size) refl other
  where
    go : (b : Bool) → nat_eq (number_of items) c.size ≡ b → number_of items ≢ c.size → (if b then left_out_each fs names items else Some at) ≡ Some at
    go true e h = absurd (h (grind (arith, nat_tests, e)))
    go false e h = refl

whole_cells : (p : Part) (c : ListCells) (seat : Seat) → p.seat ≡ seat → cells_at p.seat p.size (leaf_of p.shape) ≡ Some c → (p.seat ≡ Cell c.cell) × (c.size ≡ p.size) × (c.kind ≡ leaf_of p.shape)
whole_cells p c (Cell d) at h =
    let made : ListCells = record { cell = d; size = p.size; kind = leaf_of p.shape } in
    let is : ◌≡◌ {A = Option ListCells} (Some made) (Some c) = sym (ap (λ s. cells_at s p.size (leaf_of p.shape)) at) ∙ h in
    let one : made ≡ c = cc in
    (at ∙ ap (λ (x : ListCells). Cell x.cell) one, ap (λ (x : ListCells). x.size) (sym one), ap (λ (x : ListCells). x.kind) (sym one))
whole_cells p c (Tokens port first step) at h =
    let is : ◌≡◌ {A = Option ListCells} None (Some c) = sym (ap (λ s. cells_at s p.size (leaf_of p.shape)) at) ∙ h in
    cc

pub filled_adds : {rs : Routines} (names : List Name) (text : List ℕ) (value : Tree) (place at first : ℕ) (p : Part) (c : ListCells) (old d0 d1 new : Draft) → part_named names (tree.variable text 0) ≡ Some p → whole_cells_in p ≡ Some c → HasMore c.size old d0 first
    → Adds (IsFill rs.functions names value p.shape first) d0 d1 → IsPut (op.Copy c.cell first c.size (Some c.kind) ∷ []) d1 new → Adds (IsStmt rs names (tree.assign (tree.ident text place) tree.nil value at)) old new
filled_adds {rs = rs} names text value place at first p c old d0 d1 new e g k a q =
    let f : IsWhole names text p = whole_found names text 0 p e in
    let cells = whole_cells p c p.seat refl g in
    let wide : scalars_of_type f.x.shape ≡ c.size = sized_is f.x.shape p.size f.size ∙ sym cells.1 in
    let leaf : leaf_of f.x.shape ≡ c.kind = ap leaf_of f.shape ∙ sym cells.2 in
    let here : List Instr = op.Copy c.cell old.cells (scalars_of_type f.x.shape) (Some (leaf_of f.x.shape)) ∷ [] in
    let last : List Instr = op.Copy c.cell first c.size (Some c.kind) ∷ [] in
    let same : last ≡ here = ap (λ n. op.Copy c.cell n c.size (Some c.kind) ∷ []) k.is ∙ ap (λ n. op.Copy c.cell old.cells n (Some c.kind) ∷ []) (sym wide) ∙ ap (λ t. op.Copy c.cell old.cells (scalars_of_type f.x.shape) (Some t) ∷ []) (sym leaf) in
    let start : length d0.instrs.items ≡ length old.instrs.items = ap length k.instrs in
    let taken : d0.cells ≡ old.cells + scalars_of_type f.x.shape = let y = k.cells in omega (arith, y, wide) in
    let all : new.instrs.items ≡ (old.instrs.items ++ a.code) ++ last = cc (q.is, a.is, k.instrs) in
    record {
      code = a.code ++ here;
      is = all ∙ append_assoc old.instrs.items a.code last ∙ ap (λ is. old.instrs.items ++ (a.code ++ is)) same;
      routines = q.routines ∙ a.routines ∙ k.routines;
      has = subst (λ m. IsStmt rs names (tree.assign (tree.ident text place) tree.nil value at) (length old.instrs.items) old.cells (a.code ++ here) m) (sym q.cells)
          (set_filled names text value place at (length old.instrs.items) old.cells d1.cells c.cell a.code f.x f.is (f.seat ∙ cells.0)
          (subst (λ t. IsFill rs.functions names value t old.cells (length old.instrs.items) (old.cells + scalars_of_type f.x.shape) a.code d1.cells) (sym f.shape)
          (subst (λ y. IsFill rs.functions names value p.shape y (length old.instrs.items) (old.cells + scalars_of_type f.x.shape) a.code d1.cells) k.is
          (subst (λ y. IsFill rs.functions names value p.shape first y (old.cells + scalars_of_type f.x.shape) a.code d1.cells) start
          (subst (λ y. IsFill rs.functions names value p.shape first (length d0.instrs.items) y a.code d1.cells) taken a.has)))));
    }

-- .. whose cells are there for its type
pub filled_room : (names : List Name) (text : List ℕ) (first : ℕ) (p : Part) (c : ListCells) (old d0 : Draft) → part_named names (tree.variable text 0) ≡ Some p → whole_cells_in p ≡ Some c → HasMore c.size old d0 first → HasCells p.shape first d0
filled_room names text first p c old d0 e g k =
    let f : IsWhole names text p = whole_found names text 0 p e in
    let cells = whole_cells p c p.seat refl g in
    let size = cells.1 in
    let more = k.cells in
    let is = k.is in
    (p.size, ap sized (sym f.shape) ∙ f.size, omega (arith, size, more, is))

-- ---- parts of lists

-- the name and the code of where a part is stored
record IsPlaced (names : List Name) (text : List ℕ) (places : Tree) (g : Target) : Type 0 where
  x : Name
  is : named text names ≡ Some x
  seat : x.seat ≡ Cell g.to.cell
  size : sized x.shape ≡ Some g.to.size
  part : part_in x.shape places ≡ Some (shape_view g.part.now)
  code : (n s : ℕ) → put_code g places n s ≡ part_tail g.to.cell g.to.size s (shape_view g.part.now) (step_code n x.shape places)

placed : (names : List Name) (text : List ℕ) (places : Tree) (g : Target) → IsTarget names text places g → IsPlaced names text places g
placed names text places g h =
    let p : Part = h.whole in
    let t : Shape = shape_view g.part.now in
    let w : IsWhole names text p = whole_found names text 0 p h.is in
    let cells = whole_cells p g.to p.seat refl h.cells in
    let list : shape_view g.list.now ≡ w.x.shape = sym h.list ∙ sym w.shape in
    let wide : g.size ≡ scalars_of_type t = sym (sized_is t g.size h.size) in
    let leaf : g.to.kind ≡ leaf_of t = cells.2 ∙ part_leaf p.shape places h.chosen in
    record {
      x = w.x;
      is = w.is;
      seat = w.seat ∙ cells.0;
      size = w.size ∙ ap Some (sym cells.1);
      part = ap (λ s. part_in s places) w.shape ∙ h.chosen;
      code = λ n s.
          ap (λ q. op.Const (pos 0) ∷ (step_code n q places ++ op.CopyTo g.to.cell g.to.size s g.size (Some g.to.kind) ∷ [])) list
          ∙ ap (λ q. op.Const (pos 0) ∷ (step_code n w.x.shape places ++ op.CopyTo g.to.cell g.to.size s q (Some g.to.kind) ∷ [])) wide
          ∙ ap (λ q. op.Const (pos 0) ∷ (step_code n w.x.shape places ++ op.CopyTo g.to.cell g.to.size s (scalars_of_type t) (Some q) ∷ [])) leaf;
    }

pub fill_adds : {rs : Routines} (names : List Name) (text : List ℕ) (places value : Tree) (place at many cell from : ℕ) (g : Target) (old d0 d1 d2 d3 new : Draft)
    → IsTarget names text places g → many ≡ number_of places → HasMore many old d0 cell → HasMore g.size d0 d1 from
    → Adds (IsKept rs.functions names cell places) d1 d2 → Adds (IsFill rs.functions names value (shape_view g.part.now) from) d2 d3 → IsPut (put_code g places cell from) d3 new
    → Adds (IsStmt rs names (tree.assign (tree.ident text place) places value at)) old new
fill_adds {rs = rs} names text places value place at many cell from g old d0 d1 d2 d3 new h number k1 k2 a b p =
    let t : Shape = shape_view g.part.now in
    let w : IsPlaced names text places g = placed names text places g h in
    let base : ℕ = length old.instrs.items in
    let n : ℕ = old.cells in
    let f : ℕ = n + number_of places in
    let wide : scalars_of_type t ≡ g.size = sized_is t g.size h.size in
    let behind : from ≡ f = let x = k2.is in let y = k1.cells in omega (arith, x, y, number) in
    let tail : List Instr = part_tail g.to.cell g.to.size f t (step_code n w.x.shape places) in
    let same : put_code g places cell from ≡ tail = ap (λ q. put_code g places q from) k1.is ∙ ap (λ q. put_code g places n q) behind ∙ w.code n f in
    let start : length d1.instrs.items ≡ base = ap length k2.instrs ∙ ap length k1.instrs in
    let l2 = length_join d1.instrs.items d2.instrs.items a.code a.is in
    let at2 : length d2.instrs.items ≡ base + length a.code = omega (arith, l2, start) in
    let taken : d1.cells ≡ f + scalars_of_type t = let x = k2.cells in let y = k1.cells in omega (arith, x, y, number, wide) in
    let last : List Instr = put_code g places cell from in
    let all : new.instrs.items ≡ ((old.instrs.items ++ a.code) ++ b.code) ++ last = cc (p.is, b.is, a.is, k2.instrs, k1.instrs) in
    let flat : ((old.instrs.items ++ a.code) ++ b.code) ++ last ≡ old.instrs.items ++ (a.code ++ (b.code ++ last)) = simp append_assoc in
    record {
      code = a.code ++ (b.code ++ tail);
      is = all ∙ flat ∙ ap (λ q. old.instrs.items ++ (a.code ++ (b.code ++ q))) same;
      routines = p.routines ∙ b.routines ∙ a.routines ∙ k2.routines ∙ k1.routines;
      has = subst (λ m. IsStmt rs names (tree.assign (tree.ident text place) places value at) base n (a.code ++ (b.code ++ tail)) m) (sym p.cells)
          (set_part names text places value place at base n d2.cells d3.cells g.to.cell g.to.size a.code b.code w.x t w.is w.seat w.size w.part
          (subst (λ q. IsKept rs.functions names q places base (f + scalars_of_type t) a.code d2.cells) k1.is
          (subst (λ q. IsKept rs.functions names cell places q (f + scalars_of_type t) a.code d2.cells) start (subst (λ q. IsKept rs.functions names cell places (length d1.instrs.items) q a.code d2.cells) taken a.has)))
          (subst (λ q. IsFill rs.functions names value t q (base + length a.code) d2.cells b.code d3.cells) behind
          (subst (λ q. IsFill rs.functions names value t from q d2.cells b.code d3.cells) at2 b.has)));
    }

-- .. whose cells are there for its type
pub part_room : {fs : List Function} (names : List Name) (text : List ℕ) (places : Tree) (cell from : ℕ) (g : Target) (d0 d1 d2 : Draft) → IsTarget names text places g → HasMore g.size d0 d1 from → Adds (IsKept fs names cell places) d1 d2
    → HasCells (shape_view g.part.now) from d2
part_room names text places cell from g d0 d1 d2 h k a =
    let more = k.cells in
    let is = k.is in
    let grown = grows_kept a.has in
    (g.size, h.size, omega (arith, more, is, grown))

-- the name whose list is assigned to a part
record IsSource (names : List Name) (t : Shape) (value : Tree) (d : ℕ) : Type 0 where
  text : List ℕ
  place : ℕ
  tree_is : value ≡ tree.variable text place
  y : Name
  is : named text names ≡ Some y
  seat : y.seat ≡ Cell d
  same : alike t y.shape ≡ true

source_found : (names : List Name) (t : Shape) (value : Tree) (d : ℕ) → source_of names t value ≡ Some d → IsSource names t value d
source_found names (Many n items) (tree.variable text at) d e = go (part_named names (tree.variable text at)) refl e
  where
    first_seat : (seat : Seat) → first_cell seat ≡ Some d → seat ≡ Cell d
    first_seat (Cell c) h = let same : c ≡ d = cc in ap Cell same
    first_seat (Tokens port first step) h = cc

    by : (p : Part) (b : Bool) → part_named names (tree.variable text at) ≡ Some p → alike (Many n items) p.shape ≡ b → (if b then first_cell p.seat else None) ≡ Some d → IsSource names (Many n items) (tree.variable text at) d
    by p true is s h =
        let w : IsWhole names text p = whole_found names text at p is in
        record { text = text; place = at; tree_is = refl; y = w.x; is = w.is; seat = w.seat ∙ first_seat p.seat h; same = ap (λ u. alike (Many n items) u) w.shape ∙ s }
    by p false is s h = cc

    go : (o : Option Part) → part_named names (tree.variable text at) ≡ o → source_in (Many n items) o ≡ Some d → IsSource names (Many n items) (tree.variable text at) d
    go None is h = cc
    go (Some p) is h = by p (alike (Many n items) p.shape) is refl h
source_found names (Single s) value d e = cc
source_found names t other d e = cc

-- nothing is left out of it
pub source_whole : (fs : List Function) (names : List Name) (t : Shape) (value : Tree) (d : ℕ) → source_of names t value ≡ Some d → left_out_fill fs names t value ≡ None
source_whole fs names (Many n items) (tree.variable text at) d e = go (part_named names (tree.variable text at)) e
  where
    by : (p : Part) (b : Bool) → (if b then first_cell p.seat else None) ≡ Some d → ◌≡◌ {A = Option ℕ} (if b then None else Some at) None
    by p true h = refl
    by p false h = cc

    go : (o : Option Part) → source_in (Many n items) o ≡ Some d → ◌≡◌ {A = Option ℕ} (elim o [ None ↦ Some at | Some p ↦ if alike (Many n items) p.shape then None else Some at ]) None
    go None h = cc
    go (Some p) h = by p (alike (Many n items) p.shape) h
source_whole fs names (Single s) value d e = cc
source_whole fs names t other d e = cc

pub copy_adds : {rs : Routines} (names : List Name) (text : List ℕ) (places value : Tree) (place at many cell from : ℕ) (g : Target) (old d0 d1 new : Draft)
    → IsTarget names text places g → source_of names (shape_view g.part.now) value ≡ Some from → many ≡ number_of places → HasMore many old d0 cell
    → Adds (IsKept rs.functions names cell places) d0 d1 → IsPut (put_code g places cell from) d1 new
    → Adds (IsStmt rs names (tree.assign (tree.ident text place) places value at)) old new
copy_adds {rs = rs} names text places value place at many cell from g old d0 d1 new h e number k a p =
    let t : Shape = shape_view g.part.now in
    let w : IsPlaced names text places g = placed names text places g h in
    let v : IsSource names t value from = source_found names t value from e in
    let base : ℕ = length old.instrs.items in
    let n : ℕ = old.cells in
    let f : ℕ = n + number_of places in
    let tail : List Instr = part_tail g.to.cell g.to.size from t (step_code n w.x.shape places) in
    let last : List Instr = put_code g places cell from in
    let same : last ≡ tail = ap (λ q. put_code g places q from) k.is ∙ w.code n from in
    let start : length d0.instrs.items ≡ base = ap length k.instrs in
    let taken : d0.cells ≡ f = let y = k.cells in omega (arith, y, number) in
    let all : new.instrs.items ≡ (old.instrs.items ++ a.code) ++ last = cc (p.is, a.is, k.instrs) in
    record {
      code = a.code ++ tail;
      is = all ∙ append_assoc old.instrs.items a.code last ∙ ap (λ q. old.instrs.items ++ (a.code ++ q)) same;
      routines = p.routines ∙ a.routines ∙ k.routines;
      has = subst (λ m. IsStmt rs names (tree.assign (tree.ident text place) places value at) base n (a.code ++ tail) m) (sym p.cells)
          (subst (λ q. IsStmt rs names (tree.assign (tree.ident text place) places q at) base n (a.code ++ tail) d1.cells) (sym v.tree_is)
          (set_part_list names text v.text places place v.place at base n d1.cells g.to.cell g.to.size from a.code w.x v.y t w.is w.seat w.size w.part v.is v.seat v.same
          (subst (λ q. IsKept rs.functions names q places base f a.code d1.cells) k.is
          (subst (λ q. IsKept rs.functions names cell places q f a.code d1.cells) start (subst (λ q. IsKept rs.functions names cell places (length d0.instrs.items) q a.code d1.cells) taken a.has)))));
    }

-- .. which has a size
pub part_has_size : (names : List Name) (text : List ℕ) (places : Tree) (p : Part) (t : Shape) → part_named names (tree.variable text 0) ≡ Some p → part_in p.shape places ≡ Some t → sized t ≡ None → ⊥
part_has_size names text places p t e part lacks =
    let w : IsWhole names text p = whole_found names text 0 p e in
    let some = part_sized p.shape places p.size (ap sized (sym w.shape) ∙ w.size) part in
    let both : Some some.0 ≡ None = sym some.1 ∙ lacks in
    cc

-- what is left out, when the part is there
pub part_open : (fs : List Function) (names : List Name) (text : List ℕ) (places value : Tree) (at : ℕ) (g : Target) → IsTarget names text places g
    → left_out_deep fs names text places value at ≡ (left_out_each fs names places or_else left_out_fill fs names (shape_view g.part.now) value)
part_open fs names text places value at g h =
    ap (λ o. left_out_chosen fs names o places value at) h.is
    ∙ ap (λ (o : Option ListCells). elim o [ None ↦ Some at | Some d ↦ left_out_put fs names (part_in h.whole.shape places) places value at ]) h.cells
    ∙ ap (λ o. left_out_put fs names o places value at) h.chosen

pub part_fault : (fs : List Function) (names : List Name) (text : List ℕ) (places value : Tree) (at : ℕ) (g : Target) (draft : Draft) (fault : LowerFault) → IsTarget names text places g → IsFault (left_out_each fs names places) draft fault
    → IsFault (left_out_deep fs names text places value at) draft fault
part_fault fs names text places value at g draft fault h f = subst (λ o. IsFault o draft fault) (sym (part_open fs names text places value at g h)) (first fault f)
  where
    first : (fault : LowerFault) → IsFault (left_out_each fs names places) draft fault → IsFault (left_out_each fs names places or_else left_out_fill fs names (shape_view g.part.now) value) draft fault
    first Memory f = tt
    first TooLong f = f
    first TooManyCells f = f
    first (NotLowered n) f = ap (λ o. o or_else left_out_fill fs names (shape_view g.part.now) value) f

-- ---- whole lists of names

pub whole_adds : {rs : Routines} (names : List Name) (text : List ℕ) (value : Tree) (place at from : ℕ) (p : Part) (c : ListCells) (old new : Draft) → part_named names (tree.variable text 0) ≡ Some p → whole_cells_in p ≡ Some c → source_of names p.shape value ≡ Some from
    → IsPut (op.Copy c.cell from c.size (Some c.kind) ∷ []) old new → Adds (IsStmt rs names (tree.assign (tree.ident text place) tree.nil value at)) old new
whole_adds {rs = rs} names text value place at from p c old new e g s q =
    let w : IsWhole names text p = whole_found names text 0 p e in
    let cells = whole_cells p c p.seat refl g in
    let v : IsSource names p.shape value from = source_found names p.shape value from s in
    let wide : scalars_of_type w.x.shape ≡ c.size = sized_is w.x.shape p.size w.size ∙ sym cells.1 in
    let leaf : leaf_of w.x.shape ≡ c.kind = ap leaf_of w.shape ∙ sym cells.2 in
    let alike_there : alike w.x.shape v.y.shape ≡ true = ap (λ t. alike t v.y.shape) w.shape ∙ v.same in
    put_adds (IsStmt rs names (tree.assign (tree.ident text place) tree.nil value at)) (op.Copy c.cell from c.size (Some c.kind) ∷ []) old new q
    (λ base n. subst (λ k. IsStmt rs names (tree.assign (tree.ident text place) tree.nil value at) base n (op.Copy c.cell from k (Some c.kind) ∷ []) n) wide
    (subst (λ t. IsStmt rs names (tree.assign (tree.ident text place) tree.nil value at) base n (op.Copy c.cell from (scalars_of_type w.x.shape) (Some t) ∷ []) n) leaf
    (subst (λ u. IsStmt rs names (tree.assign (tree.ident text place) tree.nil u at) base n (op.Copy c.cell from (scalars_of_type w.x.shape) (Some (leaf_of w.x.shape)) ∷ []) n) (sym v.tree_is)
    (set_whole names text v.text place v.place at base n c.cell from w.x v.y w.is (w.seat ∙ cells.0) v.is v.seat alike_there))))

-- of which nothing is left out
pub whole_none : (fs : List Function) (names : List Name) (text : List ℕ) (value : Tree) (at from : ℕ) (p : Part) (c : ListCells) → part_named names (tree.variable text 0) ≡ Some p → whole_cells_in p ≡ Some c → source_of names p.shape value ≡ Some from → left_out_filled fs names text value at ≡ None
whole_none fs names text value at from p c e g s =
    ap (λ o. left_out_part fs names o value at) e ∙ ap (λ (o : Option ListCells). elim o [ None ↦ Some at | Some d ↦ left_out_fill fs names p.shape value ]) g ∙ source_whole fs names p.shape value from s

pub items_adds : {rs : Routines} (names : List Name) (text : List ℕ) (items : Tree) (list place at count first : ℕ) (c : ListCells) (old d0 d1 new : Draft) → cells_named names text ≡ Some c → count ≡ number_of items → count ≡ c.size → HasMore count old d0 first
    → Adds (IsKept rs.functions names first items) d0 d1 → IsPut (copy_code c.cell c.size c.kind (Cell first)) d1 new → Adds (IsStmt rs names (tree.assign (tree.ident text place) tree.nil (tree.list items list) at)) old new
items_adds {rs = rs} names text items list place at count first c old d0 d1 new e number size k a p =
    let f : AreCellsOf names text c = cells_found names text c e in
    let last : List Instr = copy_code c.cell c.size c.kind (Cell first) in
    let here : List Instr = copy_code c.cell c.size c.kind (Cell old.cells) in
    let start : length d0.instrs.items ≡ length old.instrs.items = ap length k.instrs in
    let taken : d0.cells ≡ old.cells + c.size = let x = k.cells in omega (arith, x, size) in
    let all : new.instrs.items ≡ (old.instrs.items ++ a.code) ++ last = cc (p.is, a.is, k.instrs) in
    record {
      code = a.code ++ here;
      is = all ∙ append_assoc old.instrs.items a.code last ∙ ap (λ q. old.instrs.items ++ (a.code ++ copy_code c.cell c.size c.kind (Cell q))) k.is;
      routines = p.routines ∙ a.routines ∙ k.routines;
      has = subst (λ m. IsStmt rs names (tree.assign (tree.ident text place) tree.nil (tree.list items list) at) (length old.instrs.items) old.cells (a.code ++ here) m) (sym p.cells)
          (set_items names text items list place at (length old.instrs.items) old.cells d1.cells c.cell c.size a.code f.x c.kind f.is f.seat f.shape (sym number ∙ size)
          (subst (λ q. IsKept rs.functions names q items (length old.instrs.items) (old.cells + c.size) a.code d1.cells) k.is
          (subst (λ q. IsKept rs.functions names first items q (old.cells + c.size) a.code d1.cells) start (subst (λ q. IsKept rs.functions names first items (length d0.instrs.items) q a.code d1.cells) taken a.has))));
    }

pub item_adds : {rs : Routines} (names : List Name) (text : List ℕ) (spot value : Tree) (place at : ℕ) (c : ListCells) (old d1 d2 new : Draft) → cells_named names text ≡ Some c
    → Adds (IsCode rs.functions names spot) old d1 → Adds (IsCode rs.functions names value) d1 d2 → IsPut (op.StoreAt c.cell c.size (Some c.kind) ∷ []) d2 new
    → Adds (IsStmt rs names (tree.assign (tree.ident text place) (tree.cons spot tree.nil) value at)) old new
item_adds {rs = rs} names text spot value place at c old d1 d2 new e a b p =
    let f : AreCellsOf names text c = cells_found names text c e in
    let i : Instr = op.StoreAt c.cell c.size (Some c.kind) in
    let l1 = length_join old.instrs.items d1.instrs.items a.code a.is in
    record {
      code = a.code ++ (b.code ++ i ∷ []);
      is = p.is ∙ ap (λ xs. xs ++ i ∷ []) (b.is ∙ ap (λ xs. xs ++ b.code) a.is) ∙ simp append_assoc;
      routines = p.routines ∙ b.routines ∙ a.routines;
      has = subst (λ m. IsStmt rs names (tree.assign (tree.ident text place) (tree.cons spot tree.nil) value at) (length old.instrs.items) old.cells (a.code ++ (b.code ++ i ∷ [])) m) (sym p.cells)
          (set_item names text spot value place at (length old.instrs.items) old.cells d1.cells d2.cells c.cell c.size a.code b.code f.x c.kind f.is f.seat f.shape a.has
          (subst (λ q. IsCode rs.functions names value q d1.cells b.code d2.cells) l1 b.has));
    }

-- ---- branches and loops

pub alone_adds : {rs : Routines} (names : List Name) (test first : Tree) (at : ℕ) (old d1 d2 new : Draft) (start exits end : ℕ)
    → Adds (IsOpenTest rs.functions names test) old d1 → Adds (AreStmts rs names first) d1 d2
    → start ≡ length old.instrs.items → exits ≡ length d1.instrs.items → end ≡ length d2.instrs.items
    → Closes d2.instrs.items new.instrs.items start exits end → new.routines.items ≡ d2.routines.items → new.cells ≡ d2.cells
    → Adds (IsStmt rs names (tree.if_stmt test first tree.absent at)) old new
alone_adds {rs = rs} names test first at old d1 d2 new start exits end t f start_is exits_is end_is closes routines cells =
    let l1 = length_join old.instrs.items d1.instrs.items t.code t.is in
    let l2 = length_join d1.instrs.items d2.instrs.items f.code f.is in
    let a : List Instr = map (aimed end) t.code in
    let la : length a ≡ length t.code = length-map t.code (aimed end) in
    let all : d2.instrs.items ≡ old.instrs.items ++ (t.code ++ f.code) = f.is ∙ ap (λ xs. xs ++ f.code) t.is ∙ append_assoc old.instrs.items t.code f.code in
    let e1 : end ≡ length old.instrs.items + length a + length f.code = omega (arith, l1, l2, la) in
    let at1 : length d1.instrs.items ≡ length old.instrs.items + length a = omega (arith, l1, la) in
    record {
      code = a ++ f.code;
      is = closes old.instrs.items t.code f.code all start_is (omega (arith, l1));
      routines = routines ∙ f.routines ∙ t.routines;
      has = subst (λ m. IsStmt rs names (tree.if_stmt test first tree.absent at) (length old.instrs.items) old.cells (a ++ f.code) m) (sym cells)
          (if_alone names test first at (length old.instrs.items) old.cells d1.cells d2.cells end a f.code (t.has end) (subst (λ x. AreStmts rs names first x d1.cells f.code d2.cells) at1 f.has) e1);
    }

pub fork_adds : {rs : Routines} (names : List Name) (test first other : Tree) (at : ℕ) (old d1 d2 d3 d4 new : Draft) (i : Instr) (start exits out jump end : ℕ)
    → Adds (IsOpenTest rs.functions names test) old d1 → Adds (AreStmts rs names first) d1 d2 → IsPut (i ∷ []) d2 d3 → Adds (AreStmts rs names other) d3 d4
    → start ≡ length old.instrs.items → exits ≡ length d1.instrs.items → jump ≡ length d2.instrs.items → out ≡ length d3.instrs.items → end ≡ length d4.instrs.items
    → Links d4.instrs.items new.instrs.items start exits out jump end → new.routines.items ≡ d4.routines.items → new.cells ≡ d4.cells
    → Adds (IsStmt rs names (tree.if_stmt test first (tree.present other) at)) old new
fork_adds {rs = rs} names test first other at old d1 d2 d3 d4 new i start exits out jump end t f p o start_is exits_is jump_is out_is end_is links routines cells =
    let l1 = length_join old.instrs.items d1.instrs.items t.code t.is in
    let l2 = length_join d1.instrs.items d2.instrs.items f.code f.is in
    let l3 = length_join d2.instrs.items d3.instrs.items (i ∷ []) p.is in
    let l4 = length_join d3.instrs.items d4.instrs.items o.code o.is in
    let a : List Instr = map (aimed out) t.code in
    let la : length a ≡ length t.code = length-map t.code (aimed out) in
    let all : d4.instrs.items ≡ (((old.instrs.items ++ t.code) ++ f.code) ++ i ∷ []) ++ o.code = cc (o.is, p.is, f.is, t.is) in
    let flat : (((old.instrs.items ++ t.code) ++ f.code) ++ i ∷ []) ++ o.code ≡ old.instrs.items ++ (t.code ++ (f.code ++ i ∷ o.code)) = simp append_assoc in
    let m1 : exits ≡ start + length t.code = omega (arith, l1) in
    let m2 : jump ≡ exits + length f.code = omega (arith, l2) in
    let e1 : out ≡ length old.instrs.items + length a + length f.code + 1 = omega (arith, l1, l2, l3, la) in
    let e2 : end ≡ out + length o.code = omega (arith, l4) in
    let at1 : length d1.instrs.items ≡ length old.instrs.items + length a = omega (arith, l1, la) in
    record {
      code = a ++ (f.code ++ op.Jump end ∷ o.code);
      is = links old.instrs.items t.code f.code o.code i (all ∙ flat) start_is m1 m2;
      routines = routines ∙ o.routines ∙ p.routines ∙ f.routines ∙ t.routines;
      has = subst (λ m. IsStmt rs names (tree.if_stmt test first (tree.present other) at) (length old.instrs.items) old.cells (a ++ (f.code ++ op.Jump end ∷ o.code)) m) (sym cells)
          (if_else names test first other at (length old.instrs.items) old.cells d1.cells d2.cells d4.cells out end a f.code o.code (t.has out)
          (subst (λ x. AreStmts rs names first x d1.cells f.code d2.cells) at1 f.has)
          (subst (λ x. AreStmts rs names other x d2.cells o.code d4.cells) (sym out_is) (subst (λ c. AreStmts rs names other (length d3.instrs.items) c o.code d4.cells) p.cells o.has))
          e1 e2);
    }

pub while_adds : {rs : Routines} (names : List Name) (test body : Tree) (at : ℕ) (old d1 d2 d3 d4 d5 d6 new : Draft) (i : Instr) (start turn first head exits out : ℕ)
    → IsPut (i ∷ []) old d1 → IsPut (op.Turn ∷ []) d1 d2 → Adds (AreStmts rs names body) d2 d3 → Adds (IsOpenTest rs.functions names test) d3 d4 → IsPut (op.Jump turn ∷ []) d4 d5
    → start ≡ length old.instrs.items → turn ≡ length d1.instrs.items → first ≡ length d3.instrs.items → head ≡ length d3.instrs.items → exits ≡ length d4.instrs.items → out ≡ length d5.instrs.items
    → Closes d5.instrs.items d6.instrs.items first exits out → d6.routines.items ≡ d5.routines.items → d6.cells ≡ d5.cells
    → SetsJump d6.instrs.items new.instrs.items start head → new.routines.items ≡ d6.routines.items → new.cells ≡ d6.cells
    → Adds (IsStmt rs names (tree.while_stmt test body at)) old new
while_adds {rs = rs} names test body at old d1 d2 d3 d4 d5 d6 new i start turn first head exits out p q b t r start_is turn_is first_is head_is exits_is out_is closes routines cells sets routines_too cells_too =
    let l1 = length_join old.instrs.items d1.instrs.items (i ∷ []) p.is in
    let l2 = length_join d1.instrs.items d2.instrs.items (op.Turn ∷ []) q.is in
    let l3 = length_join d2.instrs.items d3.instrs.items b.code b.is in
    let l4 = length_join d3.instrs.items d4.instrs.items t.code t.is in
    let l5 = length_join d4.instrs.items d5.instrs.items (op.Jump turn ∷ []) r.is in
    let base : ℕ = length old.instrs.items in
    let a : List Instr = map (aimed out) t.code in
    let la : length a ≡ length t.code = length-map t.code (aimed out) in
    let front : List Instr = old.instrs.items ++ (i ∷ op.Turn ∷ b.code) in
    let all : d5.instrs.items ≡ ((((old.instrs.items ++ i ∷ []) ++ op.Turn ∷ []) ++ b.code) ++ t.code) ++ op.Jump turn ∷ [] = cc (r.is, t.is, b.is, q.is, p.is) in
    let flat : ((((old.instrs.items ++ i ∷ []) ++ op.Turn ∷ []) ++ b.code) ++ t.code) ++ op.Jump turn ∷ [] ≡ front ++ (t.code ++ op.Jump turn ∷ []) = simp append_assoc in
    let lf : length front ≡ length old.instrs.items + length (i ∷ op.Turn ∷ b.code) = length-append old.instrs.items (i ∷ op.Turn ∷ b.code) in
    let closed : d6.instrs.items ≡ front ++ (a ++ op.Jump turn ∷ []) = closes front t.code (op.Jump turn ∷ []) (all ∙ flat) (omega (arith, l1, l2, l3, lf)) (omega (arith, l4)) in
    let regroup : front ++ (a ++ op.Jump turn ∷ []) ≡ old.instrs.items ++ (i ∷ (op.Turn ∷ (b.code ++ (a ++ op.Jump turn ∷ [])))) = simp append_assoc in
    let set_it : new.instrs.items ≡ old.instrs.items ++ (op.Jump head ∷ (op.Turn ∷ (b.code ++ (a ++ op.Jump turn ∷ [])))) = sets old.instrs.items (op.Turn ∷ (b.code ++ (a ++ op.Jump turn ∷ []))) i (closed ∙ regroup) start_is in
    let turn_at : turn ≡ base + 1 = omega (arith, l1) in
    let head_at : head ≡ base + 2 + length b.code = omega (arith, l1, l2, l3) in
    let out_at : out ≡ head + length a + 1 = omega (arith, l4, l5, la) in
    let body_at : length d2.instrs.items ≡ base + 2 = omega (arith, l1, l2) in
    let cells_at : d2.cells ≡ old.cells = q.cells ∙ p.cells in
    let end_cells : new.cells ≡ d4.cells = cells_too ∙ cells ∙ r.cells in
    record {
      code = op.Jump head ∷ op.Turn ∷ (b.code ++ (a ++ op.Jump turn ∷ []));
      is = set_it;
      routines = routines_too ∙ routines ∙ r.routines ∙ t.routines ∙ b.routines ∙ q.routines ∙ p.routines;
      has = subst (λ m. IsStmt rs names (tree.while_stmt test body at) base old.cells (op.Jump head ∷ op.Turn ∷ (b.code ++ (a ++ op.Jump turn ∷ []))) m) (sym end_cells)
          (subst (λ j. IsStmt rs names (tree.while_stmt test body at) base old.cells (op.Jump head ∷ op.Turn ∷ (b.code ++ (a ++ op.Jump j ∷ []))) d4.cells) (sym turn_at)
          (while_code names test body at base old.cells d3.cells d4.cells head out a b.code
          (subst (λ x. AreStmts rs names body x old.cells b.code d3.cells) body_at (subst (λ c. AreStmts rs names body (length d2.instrs.items) c b.code d3.cells) cells_at b.has))
          (subst (λ x. IsTest rs.functions names test x d3.cells out a d4.cells) (sym head_is) (t.has out))
          head_at out_at));
    }

-- ---- a `foreach`

-- the instructions of all parts in a row, with the two jumps out of the loop
arranged : (old a b h t c l x d10 d11 new : List Instr) (out first second : ℕ)
    → d10 ≡ (((((((old ++ a) ++ b) ++ h) ++ op.JumpIfNot 0 ∷ []) ++ t) ++ c) ++ l) ++ (op.JumpIfNot 0 ∷ x)
    → first ≡ length (((old ++ a) ++ b) ++ h) → second ≡ length ((((((old ++ a) ++ b) ++ h) ++ op.JumpIfNot 0 ∷ []) ++ t) ++ c) + length l
    → SetsExit d10 d11 first out → SetsExit d11 new second out
    → new ≡ old ++ (a ++ (b ++ ((h ++ op.JumpIfNot out ∷ t) ++ (c ++ (l ++ op.JumpIfNot out ∷ x)))))
arranged old a b h t c l x d10 d11 new out first second all first_is second_is one two =
    let front : List Instr = ((old ++ a) ++ b) ++ h in
    let flat : (((((((old ++ a) ++ b) ++ h) ++ op.JumpIfNot 0 ∷ []) ++ t) ++ c) ++ l) ++ (op.JumpIfNot 0 ∷ x) ≡ front ++ op.JumpIfNot 0 ∷ (t ++ (c ++ (l ++ op.JumpIfNot 0 ∷ x))) = simp append_assoc in
    let once : d11 ≡ front ++ op.JumpIfNot out ∷ (t ++ (c ++ (l ++ op.JumpIfNot 0 ∷ x))) = one front (t ++ (c ++ (l ++ op.JumpIfNot 0 ∷ x))) (op.JumpIfNot 0) (all ∙ flat) first_is in
    let upto : List Instr = front ++ op.JumpIfNot out ∷ (t ++ (c ++ l)) in
    let regroup : front ++ op.JumpIfNot out ∷ (t ++ (c ++ (l ++ op.JumpIfNot 0 ∷ x))) ≡ upto ++ op.JumpIfNot 0 ∷ x = simp append_assoc in
    let a1 = length-append front (op.JumpIfNot out ∷ (t ++ (c ++ l))) in
    let a2 = length-append t (c ++ l) in
    let a3 = length-append c l in
    let size : length upto ≡ length front + 1 + length t + length c + length l = omega (arith, a1, a2, a3) in
    let b1 = length-append ((front ++ op.JumpIfNot 0 ∷ []) ++ t) c in
    let b2 = length-append (front ++ op.JumpIfNot 0 ∷ []) t in
    let b3 = length-append front (op.JumpIfNot 0 ∷ []) in
    let reach : length (((front ++ op.JumpIfNot 0 ∷ []) ++ t) ++ c) ≡ length front + 1 + length t + length c = omega (arith, b1, b2, b3) in
    let twice : new ≡ upto ++ op.JumpIfNot out ∷ x = two upto x (op.JumpIfNot 0) (once ∙ regroup) (omega (arith, second_is, size, reach)) in
    twice ∙ simp append_assoc

pub each_adds : {rs : Routines} (names : List Name) (shape from to body : Tree) (text : List ℕ) (place at : ℕ) (t : Scalar) (c : Counter) (old d1 d2 d3 d4 d5 d6 d7 d8 d9 d10 d11 new : Draft) (skip turn exit out : ℕ)
    → single_meant shape ≡ Some t → HasTaken t old d1 c → Adds (IsCode rs.functions names from) d1 d2 → Adds (IsCode rs.functions names to) d2 d3
    → IsPut (each_bounds c) d3 d4 → IsPut (op.JumpIfNot 0 ∷ []) d4 d5 → IsPut (each_turn c) d5 d6 → Adds (AreStmts rs (local text c.kind c.variable ∷ names) body) d6 d7
    → IsPut (each_less c) d7 d8 → IsPut (op.JumpIfNot 0 ∷ []) d8 d9 → IsPut (each_next c turn) d9 d10
    → skip ≡ length d4.instrs.items → turn ≡ length d5.instrs.items → exit ≡ length d8.instrs.items → out ≡ length d10.instrs.items
    → SetsExit d10.instrs.items d11.instrs.items skip out → d11.routines.items ≡ d10.routines.items → d11.cells ≡ d10.cells
    → SetsExit d11.instrs.items new.instrs.items exit out → new.routines.items ≡ d11.routines.items → new.cells ≡ d11.cells
    → Adds (IsStmt rs names (tree.foreach_stmt shape (tree.ident text place) from to body at)) old new
each_adds {rs = rs} names shape from to body text place at t c old d1 d2 d3 d4 d5 d6 d7 d8 d9 d10 d11 new skip turn exit out meant taken f g p4 p5 p6 b p8 p9 p10 skip_is turn_is exit_is out_is one routines1 cells1 two routines2 cells2 =
    let n : ℕ = old.cells in
    let k : Counter = counter_at n t in
    let base : ℕ = length old.instrs.items in
    let q4 : IsPut (each_bounds k) d3 d4 = subst (λ x. IsPut (each_bounds x) d3 d4) taken.is p4 in
    let q6 : IsPut (each_turn k) d5 d6 = subst (λ x. IsPut (each_turn x) d5 d6) taken.is p6 in
    let q7 : Adds (AreStmts rs (local text t (n + 2) ∷ names) body) d6 d7 = subst (λ (x : Counter). Adds (AreStmts rs (local text x.kind x.variable ∷ names) body) d6 d7) taken.is b in
    let q8 : IsPut (each_less k) d7 d8 = subst (λ x. IsPut (each_less x) d7 d8) taken.is p8 in
    let q10 : IsPut (each_next k turn) d9 d10 = subst (λ x. IsPut (each_next x turn) d9 d10) taken.is p10 in
    let i0 : List Instr = old.instrs.items in
    let e2 : d2.instrs.items ≡ i0 ++ f.code = f.is ∙ ap (λ xs. xs ++ f.code) taken.instrs in
    let e3 : d3.instrs.items ≡ (i0 ++ f.code) ++ g.code = g.is ∙ ap (λ xs. xs ++ g.code) e2 in
    let e4 : d4.instrs.items ≡ ((i0 ++ f.code) ++ g.code) ++ each_bounds k = q4.is ∙ ap (λ xs. xs ++ each_bounds k) e3 in
    let e5 : d5.instrs.items ≡ (((i0 ++ f.code) ++ g.code) ++ each_bounds k) ++ op.JumpIfNot 0 ∷ [] = p5.is ∙ ap (λ xs. xs ++ op.JumpIfNot 0 ∷ []) e4 in
    let e6 : d6.instrs.items ≡ ((((i0 ++ f.code) ++ g.code) ++ each_bounds k) ++ op.JumpIfNot 0 ∷ []) ++ each_turn k = q6.is ∙ ap (λ xs. xs ++ each_turn k) e5 in
    let e7 : d7.instrs.items ≡ (((((i0 ++ f.code) ++ g.code) ++ each_bounds k) ++ op.JumpIfNot 0 ∷ []) ++ each_turn k) ++ q7.code = q7.is ∙ ap (λ xs. xs ++ q7.code) e6 in
    let e8 : d8.instrs.items ≡ ((((((i0 ++ f.code) ++ g.code) ++ each_bounds k) ++ op.JumpIfNot 0 ∷ []) ++ each_turn k) ++ q7.code) ++ each_less k = q8.is ∙ ap (λ xs. xs ++ each_less k) e7 in
    let e10 : d10.instrs.items ≡ (((((((i0 ++ f.code) ++ g.code) ++ each_bounds k) ++ op.JumpIfNot 0 ∷ []) ++ each_turn k) ++ q7.code) ++ each_less k) ++ (op.JumpIfNot 0 ∷ each_next k turn) =
    q10.is ∙ ap (λ xs. xs ++ each_next k turn) (p9.is ∙ ap (λ xs. xs ++ op.JumpIfNot 0 ∷ []) e8)
    ∙ append_assoc (((((((i0 ++ f.code) ++ g.code) ++ each_bounds k) ++ op.JumpIfNot 0 ∷ []) ++ each_turn k) ++ q7.code) ++ each_less k) (op.JumpIfNot 0 ∷ []) (each_next k turn) in
    let s2 : length d2.instrs.items ≡ base + length f.code = ap length e2 ∙ length-append i0 f.code in
    let s3 : length d3.instrs.items ≡ base + length f.code + length g.code = ap length g.is ∙ length-append d2.instrs.items g.code ∙ ap (λ z. z + length g.code) s2 in
    let s4 : length d4.instrs.items ≡ length d3.instrs.items + 5 = length_join d3.instrs.items d4.instrs.items (each_bounds k) q4.is in
    let s5 : length d5.instrs.items ≡ length d4.instrs.items + 1 = length_join d4.instrs.items d5.instrs.items (op.JumpIfNot 0 ∷ []) p5.is in
    let s6 : length d6.instrs.items ≡ length d5.instrs.items + 3 = length_join d5.instrs.items d6.instrs.items (each_turn k) q6.is in
    let s7 : length d7.instrs.items ≡ length d6.instrs.items + length q7.code = length_join d6.instrs.items d7.instrs.items q7.code q7.is in
    let s8 : length d8.instrs.items ≡ length d7.instrs.items + 3 = length_join d7.instrs.items d8.instrs.items (each_less k) q8.is in
    let s9 : length d9.instrs.items ≡ length d8.instrs.items + 1 = length_join d8.instrs.items d9.instrs.items (op.JumpIfNot 0 ∷ []) p9.is in
    let s10 : length d10.instrs.items ≡ length d9.instrs.items + 5 = length_join d9.instrs.items d10.instrs.items (each_next k turn) q10.is in
    let turn_at : turn ≡ base + length f.code + length g.code + 6 = omega (arith, turn_is, s3, s4, s5) in
    let start_at : length d6.instrs.items ≡ turn + 3 = omega (arith, turn_is, s6) in
    let out_at : out ≡ length d6.instrs.items + length q7.code + 9 = omega (arith, out_is, s7, s8, s9, s10) in
    let cells_at : d6.cells ≡ d3.cells = q6.cells ∙ p5.cells ∙ q4.cells in
    let end_cells : new.cells ≡ d7.cells = cells2 ∙ cells1 ∙ q10.cells ∙ p9.cells ∙ q8.cells in
    let code : List Instr = f.code ++ (g.code ++ (each_head n t out ++ (q7.code ++ each_tail n turn out))) in
    record {
      code = code;
      is = arranged i0 f.code g.code (each_bounds k) (each_turn k) q7.code (each_less k) (each_next k turn) d10.instrs.items d11.instrs.items new.instrs.items out skip exit e10
          (skip_is ∙ ap length e4) (exit_is ∙ s8 ∙ ap (λ z. z + 3) (ap length e7)) one two;
      routines = routines2 ∙ routines1 ∙ q10.routines ∙ p9.routines ∙ q8.routines ∙ q7.routines ∙ q6.routines ∙ p5.routines ∙ q4.routines ∙ g.routines ∙ f.routines ∙ taken.routines;
      has = subst (λ m. IsStmt rs names (tree.foreach_stmt shape (tree.ident text place) from to body at) base n code m) (sym end_cells)
          (each_code names shape from to body text place at base n d2.cells d3.cells d7.cells turn (length d6.instrs.items) out f.code g.code q7.code t meant
          (subst (λ p. IsCode rs.functions names from p (n + 3) f.code d2.cells) (ap length taken.instrs) (subst (λ x. IsCode rs.functions names from (length d1.instrs.items) x f.code d2.cells) taken.cells f.has))
          (subst (λ p. IsCode rs.functions names to p d2.cells g.code d3.cells) s2 g.has)
          (subst (λ x. AreStmts rs (local text t (n + 2) ∷ names) body (length d6.instrs.items) x q7.code d7.cells) cells_at q7.has)
          turn_at start_at out_at);
    }

abbrev each_left : Option Scalar → ℕ → (Scalar → Option ℕ) → Option ℕ
each_left o at f = elim o [ None ↦ Some at | Some t ↦ f t ]

-- a `foreach` of which nothing is left out before its body
each_open : (rs : Routines) (names : List Name) (shape from to body : Tree) (text : List ℕ) (place at c : ℕ) (t k : Scalar) → single_meant shape ≡ Some t → k ≡ t
    → left_out_in rs.functions names from ≡ None → left_out_in rs.functions names to ≡ None
    → left_out_stmt rs names (tree.foreach_stmt shape (tree.ident text place) from to body at) ≡ left_out_all rs (local text k c ∷ names) body
each_open rs names shape from to body text place at c t k meant is e f =
    go (single_meant shape) meant
    ∙ ap (λ x. x or_else (left_out_in rs.functions names to or_else left_out_all rs (local text t 0 ∷ names) body)) e
    ∙ ap (λ x. x or_else left_out_all rs (local text t 0 ∷ names) body) f
    ∙ sym (any_cell rs names text t c body) ∙ ap (λ s. left_out_all rs (local text s c ∷ names) body) (sym is)
  where
    go : (o : Option Scalar) → o ≡ Some t
        → each_left o at (λ s. left_out_in rs.functions names from or_else (left_out_in rs.functions names to or_else left_out_all rs (local text s 0 ∷ names) body))
        ≡ left_out_in rs.functions names from or_else (left_out_in rs.functions names to or_else left_out_all rs (local text t 0 ∷ names) body)
    go None h = cc
    go (Some s) h = let same : s ≡ t = cc in ap (λ r. left_out_in rs.functions names from or_else (left_out_in rs.functions names to or_else left_out_all rs (local text r 0 ∷ names) body)) same

-- .. and nothing at all
pub each_whole : (rs : Routines) (names : List Name) (shape from to body : Tree) (text : List ℕ) (place at c : ℕ) (t k : Scalar) → single_meant shape ≡ Some t → k ≡ t
    → left_out_in rs.functions names from ≡ None → left_out_in rs.functions names to ≡ None → left_out_all rs (local text k c ∷ names) body ≡ None
    → left_out_stmt rs names (tree.foreach_stmt shape (tree.ident text place) from to body at) ≡ None
each_whole rs names shape from to body text place at c t k meant is e f g =
    each_open rs names shape from to body text place at c t k meant is e f ∙ g

pub each_fault : (rs : Routines) (names : List Name) (shape from to body : Tree) (text : List ℕ) (place at c : ℕ) (t k : Scalar) (draft : Draft) (fault : LowerFault) → single_meant shape ≡ Some t → k ≡ t
    → left_out_in rs.functions names from ≡ None → left_out_in rs.functions names to ≡ None → IsFault (left_out_all rs (local text k c ∷ names) body) draft fault
    → IsFault (left_out_stmt rs names (tree.foreach_stmt shape (tree.ident text place) from to body at)) draft fault
each_fault rs names shape from to body text place at c t k draft fault meant is e f h =
    subst (λ o. IsFault o draft fault) (sym (each_open rs names shape from to body text place at c t k meant is e f)) h

-- ---- a `foreach` that counts in the cell of its variable

pub counted_adds : {rs : Routines} (names : List Name) (shape from to body : Tree) (text : List ℕ) (place at : ℕ) (span : Span) (c : ℕ) (old d1 d2 d3 d4 new : Draft) (turn : ℕ)
    → CountsSpan shape from to span → HasOneMore old d1 c → IsPut (count_first c span.low) d1 d2 → turn ≡ length d2.instrs.items → IsPut (op.Turn ∷ []) d2 d3
    → Adds (AreStmts rs (local text span.kind c ∷ names) body) d3 d4 → IsPut (count_next c span.high turn) d4 new
    → Adds (IsStmt rs names (tree.foreach_stmt shape (tree.ident text place) from to body at)) old new
counted_adds {rs = rs} names shape from to body text place at span c old d1 d2 d3 d4 new turn counts taken p2 turn_is p3 b p5 =
    let n : ℕ = old.cells in
    let base : ℕ = length old.instrs.items in
    let q2 : IsPut (count_first n span.low) d1 d2 = subst (λ x. IsPut (count_first x span.low) d1 d2) taken.is p2 in
    let q4 : Adds (AreStmts rs (local text span.kind n ∷ names) body) d3 d4 = subst (λ x. Adds (AreStmts rs (local text span.kind x ∷ names) body) d3 d4) taken.is b in
    let q5 : IsPut (count_next n span.high turn) d4 new = subst (λ x. IsPut (count_next x span.high turn) d4 new) taken.is p5 in
    let i0 : List Instr = old.instrs.items in
    let e2 : d2.instrs.items ≡ i0 ++ count_first n span.low = q2.is ∙ ap (λ xs. xs ++ count_first n span.low) taken.instrs in
    let e3 : d3.instrs.items ≡ (i0 ++ count_first n span.low) ++ op.Turn ∷ [] = p3.is ∙ ap (λ xs. xs ++ op.Turn ∷ []) e2 in
    let e4 : d4.instrs.items ≡ ((i0 ++ count_first n span.low) ++ op.Turn ∷ []) ++ q4.code = q4.is ∙ ap (λ xs. xs ++ q4.code) e3 in
    let e5 : new.instrs.items ≡ (((i0 ++ count_first n span.low) ++ op.Turn ∷ []) ++ q4.code) ++ count_next n span.high turn = q5.is ∙ ap (λ xs. xs ++ count_next n span.high turn) e4 in
    let s1 : length d1.instrs.items ≡ base = ap length taken.instrs in
    let s2 : length d2.instrs.items ≡ length d1.instrs.items + 2 = length_join d1.instrs.items d2.instrs.items (count_first n span.low) q2.is in
    let s3 : length d3.instrs.items ≡ length d2.instrs.items + 1 = length_join d2.instrs.items d3.instrs.items (op.Turn ∷ []) p3.is in
    let turn_at : turn ≡ base + 2 = omega (arith, turn_is, s1, s2) in
    let start_at : length d3.instrs.items ≡ base + 3 = omega (arith, s1, s2, s3) in
    let cells_at : d3.cells ≡ n + 1 = p3.cells ∙ q2.cells ∙ taken.cells in
    let code : ℕ → List Instr = λ back. count_first n span.low ++ op.Turn ∷ (q4.code ++ count_next n span.high back) in
    let made : IsStmt rs names (tree.foreach_stmt shape (tree.ident text place) from to body at) base n (code (base + 2)) d4.cells =
    each_counted names shape from to body text place at base n d4.cells span.low span.high q4.code span.kind counts.kind counts.low counts.high counts.held
    (subst (λ p. AreStmts rs (local text span.kind n ∷ names) body p (n + 1) q4.code d4.cells) start_at (subst (λ x. AreStmts rs (local text span.kind n ∷ names) body (length d3.instrs.items) x q4.code d4.cells) cells_at q4.has)) in
    record {
      code = code turn;
      is = e5 ∙ simp append_assoc;
      routines = q5.routines ∙ q4.routines ∙ p3.routines ∙ q2.routines ∙ taken.routines;
      has = subst (λ m. IsStmt rs names (tree.foreach_stmt shape (tree.ident text place) from to body at) base n (code turn) m) (sym q5.cells)
          (subst (λ back. IsStmt rs names (tree.foreach_stmt shape (tree.ident text place) from to body at) base n (code back) d4.cells) (sym turn_at) made);
    }

pub counted_whole : (rs : Routines) (names : List Name) (shape from to body : Tree) (text : List ℕ) (place at c : ℕ) (span : Span) → CountsSpan shape from to span
    → left_out_all rs (local text span.kind c ∷ names) body ≡ None → left_out_stmt rs names (tree.foreach_stmt shape (tree.ident text place) from to body at) ≡ None
counted_whole rs names shape from to body text place at c span counts whole =
    each_whole rs names shape from to body text place at c span.kind span.kind counts.kind refl (bound_whole rs.functions names from span.low counts.low) (bound_whole rs.functions names to span.high counts.high) whole

pub counted_fault : (rs : Routines) (names : List Name) (shape from to body : Tree) (text : List ℕ) (place at c : ℕ) (span : Span) (draft : Draft) (fault : LowerFault) → CountsSpan shape from to span
    → IsFault (left_out_all rs (local text span.kind c ∷ names) body) draft fault → IsFault (left_out_stmt rs names (tree.foreach_stmt shape (tree.ident text place) from to body at)) draft fault
counted_fault rs names shape from to body text place at c span draft fault counts h =
    each_fault rs names shape from to body text place at c span.kind span.kind draft fault counts.kind refl (bound_whole rs.functions names from span.low counts.low) (bound_whole rs.functions names to span.high counts.high) h

-- ---- blocks

pub variable_adds : {rs : Routines} (names : List Name) (shape start vars body : Tree) (text : List ℕ) (place at c : ℕ) (t : Scalar) (changes : Bool) (old d1 d2 new : Draft)
    → single_meant shape ≡ Some t → HasOneMore old d1 c → Adds (IsStart rs.functions names t c start) d1 d2 → Adds (IsBlock rs (local text t c ∷ names) vars body) d2 new
    → Adds (IsBlock rs names (tree.cons (tree.var shape (tree.ident text place) start changes at) vars) body) old new
variable_adds {rs = rs} names shape start vars body text place at c t changes old d1 d2 new meant taken f g =
    let n : ℕ = old.cells in
    let base : ℕ = length old.instrs.items in
    let f1 : Adds (IsStart rs.functions names t n start) d1 d2 = subst (λ x. Adds (IsStart rs.functions names t x start) d1 d2) taken.is f in
    let g1 : Adds (IsBlock rs (local text t n ∷ names) vars body) d2 new = subst (λ x. Adds (IsBlock rs (local text t x ∷ names) vars body) d2 new) taken.is g in
    let e2 : d2.instrs.items ≡ old.instrs.items ++ f1.code = f1.is ∙ ap (λ xs. xs ++ f1.code) taken.instrs in
    let s2 : length d2.instrs.items ≡ base + length f1.code = ap length e2 ∙ length-append old.instrs.items f1.code in
    record {
      code = f1.code ++ g1.code;
      is = g1.is ∙ ap (λ xs. xs ++ g1.code) e2 ∙ append_assoc old.instrs.items f1.code g1.code;
      routines = g1.routines ∙ f1.routines ∙ taken.routines;
      has = variable_more names shape start vars body text place at base n d2.cells new.cells f1.code g1.code t changes meant
          (subst (λ p. IsStart rs.functions names t n start p (n + 1) f1.code d2.cells) (ap length taken.instrs) (subst (λ x. IsStart rs.functions names t n start (length d1.instrs.items) x f1.code d2.cells) taken.cells f1.has))
          (subst (λ p. IsBlock rs (local text t n ∷ names) vars body p d2.cells g1.code new.cells) s2 g1.has);
    }

-- what is left out of a variable of a type that may be seen, and behind it
abbrev in_either : Option Scalar → Option Shape → ℕ → (Scalar → Option ℕ) → (Shape → Option ℕ) → Option ℕ
in_either o p at f g = elim o [ None ↦ elim p [ None ↦ Some at | Some t ↦ g t ] | Some t ↦ f t ]

-- a block of which nothing is left out before what stands behind its first variable
pub variable_open : (rs : Routines) (names : List Name) (shape start vars body : Tree) (text : List ℕ) (place at c : ℕ) (t : Scalar) (changes : Bool) → single_meant shape ≡ Some t → left_out_start rs.functions names start ≡ None
    → left_out_vars rs names (tree.cons (tree.var shape (tree.ident text place) start changes at) vars) (λ inner. left_out_all rs inner body) ≡ left_out_vars rs (local text t c ∷ names) vars (λ inner. left_out_all rs inner body)
variable_open rs names shape start vars body text place at c t changes meant e =
    ap (λ o. in_either o (shape_meant shape) at (λ s. left_out_start rs.functions names start or_else left_out_vars rs (local text s 0 ∷ names) vars (λ inner. left_out_all rs inner body)) (λ s. left_out_list_start rs.functions names s start or_else left_out_vars rs (local_of text s 0 ∷ names) vars (λ inner. left_out_all rs inner body))) meant
    ∙ ap (λ x. x or_else left_out_vars rs (local text t 0 ∷ names) vars (λ inner. left_out_all rs inner body)) e ∙ sym (any_cell_vars rs names text (Single t) c vars body)

pub list_open : (rs : Routines) (names : List Name) (shape start vars body : Tree) (text : List ℕ) (place at c : ℕ) (t : Shape) (changes : Bool) → single_meant shape ≡ None → shape_meant shape ≡ Some t → left_out_list_start rs.functions names t start ≡ None
    → left_out_vars rs names (tree.cons (tree.var shape (tree.ident text place) start changes at) vars) (λ inner. left_out_all rs inner body) ≡ left_out_vars rs (local_of text t c ∷ names) vars (λ inner. left_out_all rs inner body)
list_open rs names shape start vars body text place at c t changes no_single meant e =
    ap (λ o. in_either o (shape_meant shape) at (λ s. left_out_start rs.functions names start or_else left_out_vars rs (local text s 0 ∷ names) vars (λ inner. left_out_all rs inner body)) (λ s. left_out_list_start rs.functions names s start or_else left_out_vars rs (local_of text s 0 ∷ names) vars (λ inner. left_out_all rs inner body))) no_single
    ∙ ap (λ p. in_either None p at (λ s. left_out_start rs.functions names start or_else left_out_vars rs (local text s 0 ∷ names) vars (λ inner. left_out_all rs inner body)) (λ s. left_out_list_start rs.functions names s start or_else left_out_vars rs (local_of text s 0 ∷ names) vars (λ inner. left_out_all rs inner body))) meant
    ∙ ap (λ x. x or_else left_out_vars rs (local_of text t 0 ∷ names) vars (λ inner. left_out_all rs inner body)) e ∙ sym (any_cell_vars rs names text t c vars body)

pub list_variable_adds : {rs : Routines} (names : List Name) (shape start vars body : Tree) (text : List ℕ) (place at c : ℕ) (t : Shape) (changes : Bool) (old mid new : Draft)
    → shape_meant shape ≡ Some t → c ≡ old.cells → Adds (TakesListStart rs.functions names t start) old mid → Adds (IsBlock rs (local_of text t c ∷ names) vars body) mid new
    → Adds (IsBlock rs names (tree.cons (tree.var shape (tree.ident text place) start changes at) vars) body) old new
list_variable_adds {rs = rs} names shape start vars body text place at c t changes old mid new meant is f g =
    let n : ℕ = old.cells in
    let base : ℕ = length old.instrs.items in
    let g1 : Adds (IsBlock rs (local_of text t n ∷ names) vars body) mid new = subst (λ x. Adds (IsBlock rs (local_of text t x ∷ names) vars body) mid new) is g in
    let s2 : length mid.instrs.items ≡ base + length f.code = ap length f.is ∙ length-append old.instrs.items f.code in
    record {
      code = f.code ++ g1.code;
      is = g1.is ∙ ap (λ xs. xs ++ g1.code) f.is ∙ append_assoc old.instrs.items f.code g1.code;
      routines = g1.routines ∙ f.routines;
      has = list_more names shape start vars body text place at base n mid.cells new.cells f.code g1.code t changes meant f.has
          (subst (λ p. IsBlock rs (local_of text t n ∷ names) vars body p mid.cells g1.code new.cells) s2 g1.has);
    }

-- ---- calls of procedures

pub run_adds : {rs : Routines} (names : List Name) (text : List ℕ) (args : Tree) (place at : ℕ) (p : Procedure) (old mid new : Draft) → procedure_for text (number_of args) rs.procedures ≡ Some p → Adds (AreArgs rs.functions names args) old mid
    → IsPut (run_code p) mid new → Adds (IsStmt rs names (tree.call_stmt (tree.ident text place) args at)) old new
run_adds {rs = rs} names text args place at p old mid new e a put = record {
  code = a.code ++ run_code p;
  is = put.is ∙ ap (λ xs. xs ++ run_code p) a.is ∙ append_assoc old.instrs.items a.code (run_code p);
  routines = put.routines ∙ a.routines;
  has = subst (λ m. IsStmt rs names (tree.call_stmt (tree.ident text place) args at) (length old.instrs.items) old.cells (a.code ++ run_code p) m) (sym put.cells)
      (call names text args place at (length old.instrs.items) old.cells mid.cells a.code p e a.has);
}

-- what is left out of a call of a procedure that is there
pub run_open : (rs : Routines) (names : List Name) (text : List ℕ) (args : Tree) (place at : ℕ) (p : Procedure) → procedure_for text (number_of args) rs.procedures ≡ Some p
    → left_out_stmt rs names (tree.call_stmt (tree.ident text place) args at) ≡ left_out_args rs.functions names args
run_open rs names text args place at p e = ap (λ (o : Option Procedure). elim o [ None ↦ Some at | Some q ↦ left_out_args rs.functions names args ]) e

pub run_none : (rs : Routines) (names : List Name) (text : List ℕ) (args : Tree) (place at : ℕ) → procedure_for text (number_of args) rs.procedures ≡ None
    → left_out_stmt rs names (tree.call_stmt (tree.ident text place) args at) ≡ Some at
run_none rs names text args place at e = ap (λ (o : Option Procedure). elim o [ None ↦ Some at | Some q ↦ left_out_args rs.functions names args ]) e

-- ---- all that is promised

-- if nothing may be called
none_had : (whole : Code) (callable limit : ℕ) → HasRunRoutines whole callable limit no_routines
none_had whole callable limit = record { functions = λ text f e. cc; procedures = λ text p e. cc }

pub executed : (names : List Name) (body : Tree) (old new : Draft) → AreBelow old.cells names → NamesApart names → AreTyped names → Adds (AreStmts no_routines names body) old new → Adds (IsExecuted names body) old new
executed names body old new below apart typed a = record {
  code = a.code;
  is = a.is;
  routines = a.routines;
  has = record {
    cells = grows_all a.has;
    executes = executes names body (length old.instrs.items) old.cells new.cells a.code below apart typed a.has;
    fits = λ whole callable h stands. fits_all whole callable new.cells no_routines (none_had whole callable new.cells) h below typed (omega arith) stands a.has;
  };
}

-- ---- measures

-- a statement weighs less than a list in which it stands
pub weight_item : {X : Type 0} (f : X → Tree) (xs : List X) (x : X) (i : ℕ) → i < length xs → x ≡ get_or xs i x → weight (f x) < weight (listed (map f xs))
weight_item f [] x i small is = absurd (omega arith)
weight_item f (y ∷ xs) x zero small is = subst (λ z. weight (f z) < 1 + weight (f y) + weight (listed (map f xs))) (sym is) (omega arith)
weight_item f (y ∷ xs) x (suc i) small is = let later = weight_item f xs x i (omega (arith, small)) is in omega (arith, later)
