-- Code of statements fits where it stands.
use Rattle.std.proofs.Common.{◌≡◌, ℕ, pos, ◌+◌, ◌<◌, ◌≤◌, inl, ⊎_elim, List, [], ◌∷◌, ◌++◌, length, refl, sym, ap, ◌∙◌, subst, Option, None, Some, arith, append_assoc, length-append, true, false}
use Rattle.std.specs.Prelude.{slice_get}
use Rattle.std.specs.Str.{bytes_eq}
use Rattle.rvc_base.specs.declared.scalar.Scalar.{Scalar}
use Rattle.rvc_base.specs.Storing.{IsSize}
use Rattle.cal_model.specs.Value.{Shape, Single, Many, IsType, scalars_of_type}
use Rattle.cal_ast.specs.Tree as tree
use Rattle.cal_ast.specs.Tree.{Tree}
use Rattle.code_ir.specs.declared.instr.Instr.{Instr}
use Rattle.code_ir.specs.declared.instr.Instr.TheVariants as op
use Rattle.code_ir.specs.Code.{Code}
use Rattle.lower_base.specs.declared.names.Seat.{Seat}
use Rattle.lower_base.specs.declared.names.Seat.TheVariants.{Cell, Tokens}
use Rattle.lower_base.specs.Names.{Name, named, local}
use Rattle.lower_base.specs.Held.{AreBelow, SeatIsBelow}
use Rattle.lower_stmt.specs.Changing.{AreTyped}
use Rattle.lower_base.specs.Fitting.{Fits}
use Rattle.lower_base.specs.Parted.{number_of, sized}
use Rattle.lower_base.specs.Placed.{StandsAt}
use Rattle.lower_stmt.specs.Stating.{IsKept, IsStmt, AreStmts, copy_code, no_place, part_tail, place_more, set, set_filled, set_item, set_items, set_list, set_part, set_part_list, set_whole, step_code, step_in, if_alone, if_else, while_code, count_next, each_code, each_counted, each_head, each_tail, block_code, none, one_more, IsBlock, list_more, no_more, variable_more, call, run_code}
use Rattle.lower_base.specs.Starting.{IsStart, at_zero, at_value}
use Rattle.lower_base.proofs.Coded.{grows, grows_test}
use Rattle.lower_stmt.proofs.DeepItems.{grows_kept, part_typed}
use Rattle.lower_base.proofs.PartValues.{sized_is}
use Rattle.lower_stmt.proofs.Executed.{grows_stmt, grows_all, grows_block, grows_start}
use Rattle.lower_base.proofs.Fitted.{Plain, branch, fits_args, fits_const, fits_formals, fits_in, fits_jump, fits_one, fits_test_in, fits_then, list_below, plain_then}
use Rattle.lower_stmt.proofs.FittedEach.{fits_counted, fits_each}
use Rattle.expr_lower.proofs.Filled.{grows_fill}
use Rattle.expr_lower.proofs.Fitted.{fits_fill}
use Rattle.lower_stmt.specs.Targets.{leaf_of}
use Rattle.lower_stmt.proofs.Leaves.{leaf_size}
use Rattle.expr_lower.proofs.FittedJumps.{fits_back, fits_goto, fits_none}
use Rattle.lower_base.proofs.Keeping.{below_more}
use Rattle.expr_lower.proofs.MeantIs.{meant_sized}
use Rattle.expr_lower.proofs.ShapeIs.{shape_typed}
use Rattle.expr_lower.proofs.Shapes.{alike_sizes}
use Rattle.lower_stmt.specs.ListStarting.{IsListStart, all_filled, all_zero, local_of}
use Rattle.lower_stmt.proofs.ListStarting.{grows_list_start}
use Rattle.lower_stmt.proofs.Scoping.{choose_name}
use Rattle.lower_base.proofs.Runs.{stands_left, stands_right}
use Rattle.code_ir.specs.Code.{results_of}
use Rattle.lower_base.specs.Coding.{formal_stores}
use Rattle.lower_stmt.specs.Acting.{HasCells}
use Rattle.lower_stmt.specs.Calls.{HasRunRoutines}
use Rattle.lower_stmt.specs.Procedures.{Procedure, Routines}
use Rattle.lower_stmt.proofs.ProcCalls.{proc_found}

module _ (code : Code) (callable limit : ℕ) where
  -- ---- forms

  fits_store : (base h c : ℕ) (t : Scalar) → c + 1 ≤ limit → IsSize t → Plain code callable limit base (h + 1) (op.Store c (Some t) ∷ []) h
  fits_store base h c t le sized = fits_one code callable limit base (h + 1) h (op.Store c (Some t)) (omega arith) (omega arith) refl le tt tt sized

  fits_store_at : (base h c size : ℕ) (t : Scalar) → c + size ≤ limit → IsSize t → Plain code callable limit base (h + 1 + 1) (op.StoreAt c size (Some t) ∷ []) h
  fits_store_at base h c size t le sized = fits_one code callable limit base (h + 1 + 1) h (op.StoreAt c size (Some t)) (omega arith) (omega arith) refl le tt tt sized

  fits_copy : (base h c size : ℕ) (t : Scalar) (seat : Seat) → c + size ≤ limit → SeatIsBelow limit size seat → IsSize t → Plain code callable limit base h (copy_code c size t seat) h
  fits_copy base h c size t (Cell s) to from sized = fits_one code callable limit base h h (op.Copy c s size (Some t)) (omega arith) (omega arith) refl (to, from) tt tt sized
  fits_copy base h c size t (Tokens port first step) to from sized =
      plain_then code callable limit base h h h (op.TokenList c port first step size ∷ []) (op.Copy c c size (Some t) ∷ [])
      (fits_one code callable limit base h h (op.TokenList c port first step size) (omega arith) (omega arith) refl to tt tt tt)
      (fits_one code callable limit (base + 1) h h (op.Copy c c size (Some t)) (omega arith) (omega arith) refl (to, to) tt tt sized)

  -- the cells of a name are there
  cells_there : (n c : ℕ) (names : List Name) (text : List ℕ) (x : Name) (s : Shape) → AreBelow n names → n ≤ limit → named text names ≡ Some x → x.seat ≡ Cell c → x.shape ≡ s → c + scalars_of_type s ≤ limit
  cells_there n c names text x s below le e seat shape =
      let there : SeatIsBelow n (scalars_of_type s) (Cell c) = subst (λ r. SeatIsBelow n (scalars_of_type r) (Cell c)) shape (subst (λ r. SeatIsBelow n (scalars_of_type x.shape) r) seat (below text x e)) in
      omega (arith, there, le)

  -- a local more
  local_below : (n j : ℕ) (names : List Name) (text : List ℕ) (t : Scalar) → n + 3 ≤ j → AreBelow n names → AreBelow j (local text t (n + 2) ∷ names)
  local_below n j names text t le below other y e =
      ⊎_elim (λ (f : (bytes_eq text other ≡ true) × (local text t (n + 2) ≡ y)). subst (λ (z : Name). SeatIsBelow j (scalars_of_type z.shape) z.seat) f.1 (omega (arith, le)))
      (λ (f : (bytes_eq text other ≡ false) × (named other names ≡ Some y)). below_more n j names (omega (arith, le)) below other y f.1)
      (choose_name (bytes_eq text other) (local text t (n + 2)) (named other names) y e)

  pub local_typed : (c : ℕ) (names : List Name) (text : List ℕ) (t : Scalar) → IsSize t → AreTyped names → AreTyped (local text t c ∷ names)
  local_typed c names text t sized typed other y e =
      ⊎_elim (λ (f : (bytes_eq text other ≡ true) × (local text t c ≡ y)). subst (λ (z : Name). IsType z.shape) f.1 sized)
      (λ (f : (bytes_eq text other ≡ false) × (named other names ≡ Some y)). typed other y f.1)
      (choose_name (bytes_eq text other) (local text t c) (named other names) y e)

  -- a local in the next cell
  pub cell_below : (n k : ℕ) (names : List Name) (text : List ℕ) (t : Scalar) → n + 1 ≤ k → AreBelow n names → AreBelow k (local text t n ∷ names)
  cell_below n k names text t le below other y e =
      ⊎_elim (λ (f : (bytes_eq text other ≡ true) × (local text t n ≡ y)). subst (λ (z : Name). SeatIsBelow k (scalars_of_type z.shape) z.seat) f.1 (omega (arith, le)))
      (λ (f : (bytes_eq text other ≡ false) × (named other names ≡ Some y)). below_more n k names (omega (arith, le)) below other y f.1)
      (choose_name (bytes_eq text other) (local text t n) (named other names) y e)

  -- a local in the next cells
  pub cells_below : (n k : ℕ) (names : List Name) (text : List ℕ) (t : Shape) → n + scalars_of_type t ≤ k → AreBelow n names → AreBelow k (local_of text t n ∷ names)
  cells_below n k names text t le below other y e =
      ⊎_elim (λ (f : (bytes_eq text other ≡ true) × (local_of text t n ≡ y)). subst (λ (z : Name). SeatIsBelow k (scalars_of_type z.shape) z.seat) f.1 (omega (arith, le)))
      (λ (f : (bytes_eq text other ≡ false) × (named other names ≡ Some y)). below_more n k names (omega (arith, le)) below other y f.1)
      (choose_name (bytes_eq text other) (local_of text t n) (named other names) y e)

  pub any_typed : (c : ℕ) (names : List Name) (text : List ℕ) (t : Shape) → IsType t → AreTyped names → AreTyped (local_of text t c ∷ names)
  any_typed c names text t sized typed other y e =
      ⊎_elim (λ (f : (bytes_eq text other ≡ true) × (local_of text t c ≡ y)). subst (λ (z : Name). IsType z.shape) f.1 sized)
      (λ (f : (bytes_eq text other ≡ false) × (named other names ≡ Some y)). typed other y f.1)
      (choose_name (bytes_eq text other) (local_of text t c) (named other names) y e)

  -- ---- calls

  fits_run : (base h : ℕ) (p : Procedure) → p.routine < callable → results_of code p.routine ≡ 0 → HasCells 0 limit p.formals → Plain code callable limit base (h + length p.formals) (run_code p) h
  fits_run base h p small empty formals =
      let top : ℕ = h + length p.formals in
      let puts : List Instr = formal_stores p.formals in
      plain_then code callable limit base top top h (op.Turn ∷ []) (puts ++ op.Call p.routine ∷ []) (fits_one code callable limit base top top op.Turn (omega arith) (omega arith) refl tt tt tt tt)
      (plain_then code callable limit (base + 1) top h h puts (op.Call p.routine ∷ []) (fits_formals code callable limit p.formals formals.first (base + 1) h formals.row formals.high_end formals.sizes)
      (fits_one code callable limit (base + 1 + length puts) h h (op.Call p.routine) (omega arith) (omega (arith, empty)) refl tt small tt tt))

  module _ (rs : Routines) (has : HasRunRoutines code callable limit rs) where
    pub fits_start : (names : List Name) (t : Scalar) (c : ℕ) {start : Tree} {base n m : ℕ} {a : List Instr} (h : ℕ) → IsSize t → c + 1 ≤ limit → AreBelow n names → m ≤ limit → StandsAt code.instrs base a → IsStart rs.functions names t c start base n a m → Plain code callable limit base h a h
    fits_start names t c h sized room below le stands (at_zero base n) =
        plain_then code callable limit base h (h + 1) h (op.Const (pos 0) ∷ []) (op.Store c None ∷ []) (fits_const code callable limit base h (pos 0))
        (fits_one code callable limit (base + 1) (h + 1) h (op.Store c None) (omega arith) (omega arith) refl room tt tt tt)
    fits_start names t c h sized room below le stands (at_value e base n m instrs g) =
        plain_then code callable limit base h (h + 1) h instrs (op.Store c (Some t) ∷ []) (fits_in code callable limit rs.functions has.functions names h below le (stands_left code.instrs base instrs (op.Store c (Some t) ∷ []) stands) g) (fits_store (base + length instrs) h c t room sized)

    pub fits_list_start : (names : List Name) (t : Shape) (c : ℕ) {start : Tree} {base n m : ℕ} {a : List Instr} (h : ℕ) → IsType t → c + scalars_of_type t ≤ n → AreBelow c names → m ≤ limit → StandsAt code.instrs base a → IsListStart rs.functions names t c start base n a m → Plain code callable limit base h a h
    fits_list_start names t c h typed room below le stands (all_zero base n) =
        fits_one code callable limit base h h (op.Zero c (scalars_of_type t)) (omega arith) (omega arith) refl (omega (arith, room, le)) tt tt tt
    fits_list_start names t c h typed room below le stands (all_filled e base n m instrs g) =
        let wide = grows_fill g in
        let i : Instr = op.Copy c c (scalars_of_type t) (Some (leaf_of t)) in
        let there : c + scalars_of_type t ≤ limit = omega (arith, room, wide, le) in
        plain_then code callable limit base h h h instrs (i ∷ []) (fits_fill code callable limit rs.functions has.functions h below room le (stands_left code.instrs base instrs (i ∷ []) stands) g)
        (fits_one code callable limit (base + length instrs) h h i (omega arith) (omega arith) refl (there, there) tt tt (leaf_size t typed))

    fits_kept : (names : List Name) {c : ℕ} {places : Tree} {base n m : ℕ} {instrs : List Instr} (h : ℕ) → c + number_of places ≤ n → AreBelow c names → m ≤ limit → StandsAt code.instrs base instrs → IsKept rs.functions names c places base n instrs m → Plain code callable limit base h instrs h
    fits_kept names h room below le stands (no_place c base n) = fits_none code callable limit base h
    fits_kept names h room below le stands (place_more spot rest c base n k m a b g q) =
        let later = stands_right code.instrs base a (op.Store c None ∷ b) stands in
        let x = grows g in
        let y = grows_kept q in
        plain_then code callable limit base h (h + 1) h a (op.Store c None ∷ b) (fits_in code callable limit rs.functions has.functions names h (below_more c n names (omega (arith, room)) below) (omega (arith, y, le)) (stands_left code.instrs base a (op.Store c None ∷ b) stands) g)
        (plain_then code callable limit (base + length a) (h + 1) h h (op.Store c None ∷ []) b
        (fits_one code callable limit (base + length a) (h + 1) h (op.Store c None) (omega arith) (omega arith) refl (omega (arith, room, x, y, le)) tt tt tt)
        (fits_kept names h (omega (arith, room, x)) (below_more c (c + 1) names (omega arith) below) le later.1 q))

    fits_step : (base h c n : ℕ) (o : Option ℕ) (rest : List Instr) → c + 1 ≤ limit → ((each : ℕ) → Plain code callable limit (base + 1 + 1) (h + 1) rest (h + 1)) → Plain code callable limit base (h + 1) (step_in c n o rest) (h + 1)
    fits_step base h c n None rest room later = fits_none code callable limit base (h + 1)
    fits_step base h c n (Some each) rest room later =
        plain_then code callable limit base (h + 1) (h + 1 + 1) (h + 1) (op.Load c ∷ []) (op.Index n each ∷ rest) (fits_one code callable limit base (h + 1) (h + 1 + 1) (op.Load c) (omega arith) (omega arith) refl room tt tt tt)
        (plain_then code callable limit (base + 1) (h + 1 + 1) (h + 1) (h + 1) (op.Index n each ∷ []) rest (fits_one code callable limit (base + 1) (h + 1 + 1) (h + 1) (op.Index n each) (omega arith) (omega arith) refl tt tt tt tt) (later each))

    fits_steps : (base h c : ℕ) (s : Shape) (places : Tree) → c + number_of places ≤ limit → Plain code callable limit base (h + 1) (step_code c s places) (h + 1)
    fits_steps base h c (Many n items) (tree.cons place places) room =
        fits_step base h c n (sized items) (step_code (c + 1) items places) (omega (arith, room)) (λ each. fits_steps (base + 1 + 1) h (c + 1) items places (omega (arith, room)))
    fits_steps base h c (Many n items) other room = fits_none code callable limit base (h + 1)
    fits_steps base h c (Single t) places room = fits_none code callable limit base (h + 1)

    fits_tail : (base h c size s : ℕ) (t : Shape) (steps : List Instr) → c + size ≤ limit → s + scalars_of_type t ≤ limit → IsType t → Plain code callable limit (base + 1) (h + 1) steps (h + 1) → Plain code callable limit base h (part_tail c size s t steps) h
    fits_tail base h c size s t steps to from typed inner =
        let i : Instr = op.CopyTo c size s (scalars_of_type t) (Some (leaf_of t)) in
        plain_then code callable limit base h (h + 1) h (op.Const (pos 0) ∷ []) (steps ++ i ∷ []) (fits_const code callable limit base h (pos 0))
        (plain_then code callable limit (base + 1) (h + 1) (h + 1) h steps (i ∷ []) inner
        (fits_one code callable limit (base + 1 + length steps) (h + 1) h i (omega arith) (omega arith) refl (to, from) tt tt (leaf_size t typed)))

    mutual
      pub fits_stmt : {names : List Name} {s : Tree} {base n m : ℕ} {instrs : List Instr} (h : ℕ) → AreBelow n names → AreTyped names → m ≤ limit → StandsAt code.instrs base instrs → IsStmt rs names s base n instrs m → Plain code callable limit base h instrs h
      fits_stmt h below typed le stands (set names text value place at base n m c instrs x t e seat shape g) =
          let grown = grows g in
          let one = cells_there n c names text x (Single t) below (omega (arith, grown, le)) e seat shape in
          plain_then code callable limit base h (h + 1) h instrs (op.Store c (Some t) ∷ []) (fits_in code callable limit rs.functions has.functions names h below le (stands_left code.instrs base instrs (op.Store c (Some t) ∷ []) stands) g)
          (fits_store (base + length instrs) h c t one (subst IsType shape (typed text x e)))
      fits_stmt h below typed le stands (set_list names text value place at base n c size x t l e seat shape g many) =
          let to = cells_there n c names text x (Many size (Single t)) below le e seat shape in
          let listed : IsType (Many size (Single t)) = subst IsType shape (typed text x e) in
          fits_copy base h c size t l.seat (omega (arith, to)) (subst (λ k. SeatIsBelow limit k l.seat) many (list_below code callable limit n names value l g below le)) listed.2
      fits_stmt h below typed le stands (set_items names text items list place at base n m c size a x t e seat shape number g) =
          let wide = grows_kept g in
          let to = cells_there n c names text x (Many size (Single t)) below (omega (arith, wide, le)) e seat shape in
          let listed : IsType (Many size (Single t)) = subst IsType shape (typed text x e) in
          plain_then code callable limit base h h h a (copy_code c size t (Cell n)) (fits_kept names h (omega (arith, number)) below le (stands_left code.instrs base a (copy_code c size t (Cell n)) stands) g)
          (fits_copy (base + length a) h c size t (Cell n) (omega (arith, to)) (omega (arith, wide, le)) listed.2)
      fits_stmt h below typed le stands (set_whole names text from place from_at at base n c d x y e seat f there same) =
          let size : ℕ = scalars_of_type x.shape in
          let to = cells_there n c names text x x.shape below le e seat refl in
          let from_cells = cells_there n d names from y y.shape below le f there refl in
          let sizes = alike_sizes x.shape y.shape same in
          fits_one code callable limit base h h (op.Copy c d size (Some (leaf_of x.shape))) (omega arith) (omega arith) refl (to, omega (arith, from_cells, sizes)) tt tt (leaf_size x.shape (typed text x e))
      fits_stmt h below typed le stands (set_filled names text value place at base n m c a x e seat g) =
          let size : ℕ = scalars_of_type x.shape in
          let wide = grows_fill g in
          let to = cells_there n c names text x x.shape below (omega (arith, wide, le)) e seat refl in
          plain_then code callable limit base h h h a (op.Copy c n size (Some (leaf_of x.shape)) ∷ []) (fits_fill code callable limit rs.functions has.functions h below (omega arith) le (stands_left code.instrs base a (op.Copy c n size (Some (leaf_of x.shape)) ∷ []) stands) g)
          (fits_one code callable limit (base + length a) h h (op.Copy c n size (Some (leaf_of x.shape))) (omega arith) (omega arith) refl (to, omega (arith, wide, le)) tt tt (leaf_size x.shape (typed text x e)))
      fits_stmt h below typed le stands (set_item names text spot value place at base n k m c size a b x t e seat shape g d) =
          let grown = grows g in
          let more = grows d in
          let all = cells_there n c names text x (Many size (Single t)) below (omega (arith, grown, more, le)) e seat shape in
          let listed : IsType (Many size (Single t)) = subst IsType shape (typed text x e) in
          plain_then code callable limit base h (h + 1) h a (b ++ op.StoreAt c size (Some t) ∷ []) (fits_in code callable limit rs.functions has.functions names h below (omega (arith, more, le)) (stands_left code.instrs base a (b ++ op.StoreAt c size (Some t) ∷ []) stands) g)
          (plain_then code callable limit (base + length a) (h + 1) (h + 1 + 1) h b (op.StoreAt c size (Some t) ∷ []) (fits_in code callable limit rs.functions has.functions names (h + 1) (below_more n k names grown below) le (stands_left code.instrs (base + length a) b (op.StoreAt c size (Some t) ∷ []) (stands_right code.instrs base a (b ++ op.StoreAt c size (Some t) ∷ []) stands)) d)
          (fits_store_at (base + length a + length b) h c size t (omega (arith, all)) listed.2))
      fits_stmt h below typed le stands (set_part names text places value place at base n k m c size a b x t e seat shape part g d) =
          let wide = grows_kept g in
          let more = grows_fill d in
          let f : ℕ = n + number_of places in
          let steps : List Instr = step_code n x.shape places in
          let tail : List Instr = part_tail c size f t steps in
          let up : n ≤ k = omega (arith, wide) in
          let all = cells_there n c names text x x.shape below (omega (arith, up, more, le)) e seat refl in
          let many = sized_is x.shape size shape in
          plain_then code callable limit base h h h a (b ++ tail) (fits_kept names h (omega arith) below (omega (arith, more, le)) (stands_left code.instrs base a (b ++ tail) stands) g)
          (plain_then code callable limit (base + length a) h h h b tail
          (fits_fill code callable limit rs.functions has.functions h (below_more n f names (omega arith) below) wide le (stands_left code.instrs (base + length a) b tail (stands_right code.instrs base a (b ++ tail) stands)) d)
          (fits_tail (base + length a + length b) h c size f t steps (omega (arith, all, many)) (omega (arith, wide, more, le)) (part_typed x.shape places (typed text x e) part)
          (fits_steps (base + length a + length b + 1) h n x.shape places (omega (arith, wide, more, le)))))
      fits_stmt h below typed le stands (set_part_list names text from places place from_at at base n m c size d a x y t e seat shape part f there same g) =
          let wide = grows_kept g in
          let steps : List Instr = step_code n x.shape places in
          let tail : List Instr = part_tail c size d t steps in
          let up : n ≤ m = omega (arith, wide) in
          let all = cells_there n c names text x x.shape below (omega (arith, up, le)) e seat refl in
          let from_cells = cells_there n d names from y y.shape below (omega (arith, up, le)) f there refl in
          let many = sized_is x.shape size shape in
          let sizes = alike_sizes t y.shape same in
          plain_then code callable limit base h h h a tail (fits_kept names h (omega arith) below le (stands_left code.instrs base a tail stands) g)
          (fits_tail (base + length a) h c size d t steps (omega (arith, all, many)) (omega (arith, from_cells, sizes)) (part_typed x.shape places (typed text x e) part)
          (fits_steps (base + length a + 1) h n x.shape places (omega (arith, wide, le))))
      fits_stmt h below typed le stands (call names text args place at base n m part p e g) =
          let f = proc_found text (number_of args) rs.procedures p e in
          let r = has.procedures text p f.0 in
          plain_then code callable limit base h (h + number_of args) h part (run_code p) (fits_args code callable limit rs.functions has.functions names h below le (stands_left code.instrs base part (run_code p) stands) g)
          (subst (λ k. Plain code callable limit (base + length part) (h + k) (run_code p) h) f.1 (fits_run (base + length part) h p r.0 r.1 r.2))
      fits_stmt h below typed le stands (if_alone names test first at base n k m end a b g d e) =
          let grown = grows_test g in
          let more = grows_all d in
          let size : length (a ++ b) ≡ length a + length b = length-append a b in
          let second = fits_all h (below_more n k names grown below) typed le (stands_right code.instrs base a b stands) d in
          let done = fits_then code callable limit base h h h end h (base + length a + length b) h a b (fits_test_in code callable limit rs.functions has.functions names h below (omega (arith, more, le)) (omega (arith, e)) (stands_left code.instrs base a b stands) g) second
          (omega (arith, e)) (ap second.height e ∙ second.last) (inl (omega (arith, e))) (omega arith) in
          let whole : base + length a + length b ≡ base + length (a ++ b) = omega (arith, size) in
          subst (λ o. Fits code callable limit base h (a ++ b) h o h) whole done.0
      fits_stmt h below typed le stands (if_else names test first other at base n k j m else_at end a b c g d q e f) =
          let x = grows_test g in let y = grows_all d in let z = grows_all q in
          let wide : n ≤ j = omega (arith, x, y) in
          let rest = stands_right code.instrs base a (b ++ op.Jump end ∷ c) stands in
          let last = stands_right code.instrs (base + length a) b (op.Jump end ∷ c) rest in
          let there : StandsAt code.instrs else_at c = subst (λ p. StandsAt code.instrs p c) (sym e) last.1 in
          let third : Plain code callable limit (base + length a + length b + 1) h c h = subst (λ p. Plain code callable limit p h c h) e (fits_all h (below_more n j names wide below) typed le there q) in
          let tail = fits_jump code callable limit (base + length a + length b) h h end c third (omega (arith, e, f)) in
          branch code callable limit h h base else_at a b (op.Jump end ∷ c) (fits_test_in code callable limit rs.functions has.functions names h below (omega (arith, x, y, z, le)) (omega (arith, e)) (stands_left code.instrs base a (b ++ op.Jump end ∷ c) stands) g)
          (fits_all h (below_more n k names x below) typed (omega (arith, z, le)) (stands_left code.instrs (base + length a) b (op.Jump end ∷ c) rest) d) tail.0
          (omega (arith, e)) (omega (arith, e)) (tail.1 else_at (omega (arith, e)) ∙ ap third.height e ∙ third.first)
      fits_stmt h below typed le stands (while_code names test body at base n k m head out a b d g e f) =
          let x = grows_all d in let y = grows_test g in
          let back : List Instr = op.Jump (base + 1) ∷ [] in
          let place : base + 1 + 1 ≡ base + 2 = omega arith in
          let rest : StandsAt code.instrs (base + 2) (b ++ (a ++ back)) = subst (λ p. StandsAt code.instrs p (b ++ (a ++ back))) place stands.1.1 in
          let inner : Plain code callable limit (base + 1 + 1) h b h = subst (λ p. Plain code callable limit p h b h) (sym place) (fits_all h below typed (omega (arith, y, le)) (stands_left code.instrs (base + 2) b (a ++ back) rest) d) in
          let turned : Plain code callable limit (base + 1) h (op.Turn ∷ b) h = plain_then code callable limit (base + 1) h h h (op.Turn ∷ []) b (fits_one code callable limit (base + 1) h h op.Turn (omega arith) (omega arith) refl tt tt tt tt) inner in
          let head_is : head ≡ base + 1 + length (op.Turn ∷ b) = omega (arith, e) in
          let at_head_stands : StandsAt code.instrs head a = subst (λ p. StandsAt code.instrs p a) (sym e) (stands_left code.instrs (base + 2 + length b) a back (stands_right code.instrs (base + 2) b (a ++ back) rest)) in
          let tested : Fits code callable limit (base + 1 + length (op.Turn ∷ b)) h a h out h = subst (λ p. Fits code callable limit p h a h out h) head_is (fits_test_in code callable limit rs.functions has.functions names h (below_more n k names x below) le (omega (arith, f)) at_head_stands g) in
          let loop = fits_then code callable limit (base + 1) h h h (base + 1 + length (op.Turn ∷ b)) h out h (op.Turn ∷ b) a turned tested (omega arith) tested.first (inl (omega arith)) (omega (arith, e, f)) in
          let size : length (b ++ a) ≡ length b + length a = length-append b a in
          let at_head : loop.0.height head ≡ h = loop.1 head (omega (arith, head_is)) ∙ ap tested.height head_is ∙ tested.first in
          let entered = fits_goto code callable limit base h h head out h h (op.Turn ∷ (b ++ a)) loop.0 (omega (arith, e)) (omega (arith, e, size)) at_head (omega (arith, e, f)) in
          let whole : (op.Jump head ∷ op.Turn ∷ (b ++ a)) ++ back ≡ op.Jump head ∷ op.Turn ∷ (b ++ (a ++ back)) = ap (λ is. op.Jump head ∷ op.Turn ∷ is) (append_assoc b a back) in
          subst (λ is. Plain code callable limit base h is h) whole
          (fits_back code callable limit base h (base + 1) out (op.Jump head ∷ op.Turn ∷ (b ++ a)) entered.0 (omega (arith, e, f, size)) (omega arith) (omega (arith, size)) (entered.1 (base + 1) (omega arith) ∙ loop.0.first) stands.1.0)
      fits_stmt h below typed le stands (each_code names shape from to body text place at base n k j m turn start out a b c t e g d q f1 f2 f3) =
          let x = grows g in let y = grows d in let z = grows_all q in
          let few : n ≤ n + 3 = omega arith in
          let wide : n ≤ k = omega (arith, x) in
          let rest = stands_right code.instrs base a (b ++ (each_head n t out ++ (c ++ each_tail n turn out))) stands in
          let last = stands_right code.instrs (base + length a) b (each_head n t out ++ (c ++ each_tail n turn out)) rest in
          let at_turn : base + length a + length b + 1 + 1 + 1 + 1 + 1 + 1 ≡ turn = omega (arith, f1) in
          let behind : base + length a + length b + length (each_head n t out) ≡ start = omega (arith, f1, f2) in
          let there : StandsAt code.instrs start (c ++ each_tail n turn out) = subst (λ p. StandsAt code.instrs p (c ++ each_tail n turn out)) behind (stands_right code.instrs (base + length a + length b) (each_head n t out) (c ++ each_tail n turn out) last) in
          let sized : IsSize t = meant_sized shape t e in
          fits_each code callable limit base h n (base + length a + length b) turn start out a b c t (omega (arith, x, y, z, le)) sized
          (fits_in code callable limit rs.functions has.functions names h (below_more n (n + 3) names few below) (omega (arith, y, z, le)) (stands_left code.instrs base a (b ++ (each_head n t out ++ (c ++ each_tail n turn out))) stands) g) (fits_in code callable limit rs.functions has.functions names (h + 1) (below_more n k names wide below) (omega (arith, z, le)) (stands_left code.instrs (base + length a) b (each_head n t out ++ (c ++ each_tail n turn out)) rest) d)
          (fits_all h (local_below n j names text t (omega (arith, x, y)) below) (local_typed (n + 2) names text t sized typed) le (stands_left code.instrs start c (each_tail n turn out) there) q)
          refl f1 f2 f3 (subst (λ p. slice_get code.instrs p ≡ Some op.Turn) at_turn last.1.1.1.1.1.1.0)
      fits_stmt h below typed le stands (each_counted names shape from to body text place at base n m low high c t e f g held q) =
          let x = grows_all q in
          let sized : IsSize t = meant_sized shape t e in
          let at_turn : base + 1 + 1 ≡ base + 2 = omega arith in
          let at_body : base + 1 + 1 + 1 ≡ base + 3 = omega arith in
          let there : StandsAt code.instrs (base + 3) c = subst (λ p. StandsAt code.instrs p c) at_body (stands_left code.instrs (base + 1 + 1 + 1) c (count_next n high (base + 2)) stands.1.1.1) in
          fits_counted code callable limit base h n low high c (omega (arith, x, le))
          (fits_all h (cell_below n (n + 1) names text t (omega arith) below) (local_typed n names text t sized typed) le there q)
          (subst (λ p. slice_get code.instrs p ≡ Some op.Turn) at_turn stands.1.1.0)
      fits_stmt h below typed le stands (block_code names vars body at base n m code g) = fits_block h below typed le stands g

      pub fits_block : {names : List Name} {vars body : Tree} {base n m : ℕ} {instrs : List Instr} (h : ℕ) → AreBelow n names → AreTyped names → m ≤ limit → StandsAt code.instrs base instrs → IsBlock rs names vars body base n instrs m → Plain code callable limit base h instrs h
      fits_block h below typed le stands (no_more names body base n m instrs g) = fits_all h below typed le stands g
      fits_block h below typed le stands (variable_more names shape start vars body text place at base n k m a b t changes e g d) =
          let x = grows_start g in
          let y = grows_block d in
          let sized : IsSize t = meant_sized shape t e in
          let wide : n ≤ n + 1 = omega arith in
          plain_then code callable limit base h h h a b (fits_start names t n h sized (omega (arith, x, y, le)) (below_more n (n + 1) names wide below) (omega (arith, y, le)) (stands_left code.instrs base a b stands) g)
          (fits_block h (cell_below n k names text t x below) (local_typed n names text t sized typed) le (stands_right code.instrs base a b stands) d)
      fits_block h below typed le stands (list_more names shape start vars body text place at base n k m a b t changes e g d) =
          let x = grows_list_start g in
          let y = grows_block d in
          let one : IsType t = shape_typed shape t e in
          plain_then code callable limit base h h h a b (fits_list_start names t n h one (omega arith) below (omega (arith, y, le)) (stands_left code.instrs base a b stands) g)
          (fits_block h (cells_below n k names text t x below) (any_typed n names text t one typed) le (stands_right code.instrs base a b stands) d)

      pub fits_all : {names : List Name} {ss : Tree} {base n m : ℕ} {instrs : List Instr} (h : ℕ) → AreBelow n names → AreTyped names → m ≤ limit → StandsAt code.instrs base instrs → AreStmts rs names ss base n instrs m → Plain code callable limit base h instrs h
      fits_all h below typed le stands (none names base n) = fits_none code callable limit base h
      fits_all h below typed le stands (one_more names s rest base n k m a b g d) =
          let grown = grows_stmt g in
          let more = grows_all d in
          plain_then code callable limit base h h h a b (fits_stmt h below typed (omega (arith, more, le)) (stands_left code.instrs base a b stands) g)
          (fits_all h (below_more n k names grown below) typed le (stands_right code.instrs base a b stands) d)
