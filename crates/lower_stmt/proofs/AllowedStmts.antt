-- Code of statements writes only cells that may be written, and reads only tokens that may be read.
use Rattle.std.proofs.Common.{◌≡◌, ℕ, ◌+◌, ◌≤◌, Bool, List, [], ◌∷◌, ◌++◌, length, true, false, refl, ap, ◌∙◌, subst, Option, None, Some, arith}
use Rattle.std.specs.Prelude.{if◌then◌else◌}
use Rattle.std.specs.Str.{bytes_eq}
use Rattle.rvc_base.specs.declared.scalar.Scalar.{Scalar}
use Rattle.cal_ast.specs.Tree as tree
use Rattle.cal_ast.specs.Tree.{Tree}
use Rattle.cal_model.specs.Actor.{Local, Proc}
use Rattle.cal_model.specs.Kinding.{Known, Names, counter, known_as, type_judged, with_known}
use Rattle.cal_model.specs.Sound.{AreStatements, IsProc, IsStatement, MayBeAssigned, kind_of_judged, known_local, with_locals, with_vars_known}
use Rattle.cal_model.specs.Value.{Kind, Shape, Single, Many, scalars_of_type}
use Rattle.code_ir.specs.declared.instr.Instr.{Instr}
use Rattle.code_ir.specs.declared.instr.Instr.TheVariants as op
use Rattle.lower_base.specs.declared.callees.Formal.{Formal}
use Rattle.lower_base.specs.declared.names.Seat.{Seat}
use Rattle.lower_base.specs.declared.names.Seat.TheVariants.{Cell, Tokens}
use Rattle.lower_base.specs.Allowing.{Allowed, Allows, AreAllowed, AreWritten, MayWrite, SeatIsRead}
use Rattle.lower_base.specs.Coding.{formal_stores}
use Rattle.lower_base.specs.Names.{Name, local, local_of, named}
use Rattle.lower_base.specs.Parted.{number_of, sized}
use Rattle.lower_base.specs.Routining.{StandForFormals, behind_formals}
use Rattle.lower_base.proofs.AllowedCode.{allowed_then, allows_local, allows_more, args_allowed, code_allowed, formals_allowed, list_read, own_all, own_one, start_allowed, test_allowed}
use Rattle.lower_base.proofs.AllowedRoutines.{formals_read, row_written}
use Rattle.lower_base.proofs.Coded.{grows, grows_test}
use Rattle.lower_base.proofs.PartValues.{sized_is}
use Rattle.expr_lower.proofs.AllowedFills.{fill_allowed, list_start_allowed}
use Rattle.lower_stmt.specs.AllowingRuns.{AllowsRuns, ChangesAreWritten, SeatIsWritten}
use Rattle.lower_stmt.specs.Procedures.{Procedure, Routines}
use Rattle.lower_stmt.specs.Proceeding.{IsProcBody, IsProcRoutine, local_list, local_more, no_local}
use Rattle.lower_stmt.specs.Stating.{IsKept, IsStmt, AreStmts, copy_code, no_place, part_tail, place_more, set, set_filled, set_item, set_items, set_list, set_part, set_part_list, set_whole, step_code, step_in, count_next, if_alone, if_else, while_code, each_code, each_counted, each_head, each_tail, block_code, none, one_more, IsBlock, list_more, no_more, variable_more, call, run_code}
use Rattle.lower_stmt.specs.Targets.{leaf_of}
use Rattle.lower_stmt.proofs.DeepItems.{grows_kept}
use Rattle.lower_stmt.proofs.Executed.{grows_all, grows_start, grows_stmt}
use Rattle.lower_stmt.proofs.ListStarting.{grows_list_start}
use Rattle.lower_stmt.proofs.ProcCalls.{proc_found}

-- ---- what is round code

pub runs_more : {a : Allowed} {rs : Routines} {names : List Name} {n : ℕ} (k : ℕ) → n ≤ k → AllowsRuns a rs names n → AllowsRuns a rs names k
runs_more k le h = record { inside = allows_more k le h.inside; procedures = h.procedures }

pub runs_local : {a : Allowed} {rs : Routines} {names : List Name} {n : ℕ} (text : List ℕ) (t : Shape) (c : ℕ) → AllowsRuns a rs names n → AllowsRuns a rs (local_of text t c ∷ names) n
runs_local text t c h = record { inside = allows_local text t c h.inside; procedures = h.procedures }

-- one local more, whose cells may be written
pub changes_more : (a : Allowed) (names : List Name) (known : Names) (u : Known) (t : Shape) (c : ℕ) → MayWrite a c (scalars_of_type t) → ChangesAreWritten a names known → ChangesAreWritten a (local_of u.name t c ∷ names) (with_known u known)
changes_more a names known u t c write h other x v e m changes = by (bytes_eq u.name other) e m
  where
    by : (b : Bool) → (if b then Some (local_of u.name t c) else named other names) ≡ Some x → (if b then Some u else known_as other (known.locals ++ known.globals)) ≡ Some v → SeatIsWritten a (scalars_of_type x.shape) x.seat
    by true f g = let same : local_of u.name t c ≡ x = cc in subst (λ (z : Name). SeatIsWritten a (scalars_of_type z.shape) z.seat) same write
    by false f g = h other x v f g changes

-- ---- assignments

-- what may be assigned may be written
written : (a : Allowed) (names : List Name) (known : Names) {text : List ℕ} {ks : List Kind} {k : Kind} (c : ℕ) (x : Name) → ChangesAreWritten a names known → MayBeAssigned text ks k known → named text names ≡ Some x → x.seat ≡ Cell c → MayWrite a c (scalars_of_type x.shape)
written a names known {text = text} c x h may e seat = subst (SeatIsWritten a (scalars_of_type x.shape)) seat (h text x may.meant e may.is_meant may.changes)

-- .. as a variable of another form
written_as : (a : Allowed) (c : ℕ) (s t : Shape) (size : ℕ) → s ≡ t → scalars_of_type t ≡ size → MayWrite a c (scalars_of_type s) → MayWrite a c size
written_as a c s t size same is h = subst (MayWrite a c) (ap scalars_of_type same ∙ is) h

module _ (a : Allowed) where
  copy_allowed : (c size : ℕ) (t : Scalar) (seat : Seat) → MayWrite a c size → SeatIsRead a size seat → AreAllowed a (copy_code c size t seat)
  copy_allowed c size t (Cell s) write read = (write, tt)
  copy_allowed c size t (Tokens port first step) write read = ((write, read), (write, tt))

  step_allowed : (c n : ℕ) (o : Option ℕ) (rest : List Instr) → AreAllowed a rest → AreAllowed a (step_in c n o rest)
  step_allowed c n None rest h = tt
  step_allowed c n (Some each) rest h = (tt, (tt, h))

  steps_allowed : (c : ℕ) (s : Shape) (places : Tree) → AreAllowed a (step_code c s places)
  steps_allowed c (Many n items) (tree.cons place places) = step_allowed c n (sized items) (step_code (c + 1) items places) (steps_allowed (c + 1) items places)
  steps_allowed c (Many n items) other = tt
  steps_allowed c (Single t) places = tt

  tail_allowed : (c size s n : ℕ) (t u : Shape) (places : Tree) → MayWrite a c size → AreAllowed a (part_tail c size s t (step_code n u places))
  tail_allowed c size s n t u places write =
      (tt, allowed_then a (step_code n u places) (op.CopyTo c size s (scalars_of_type t) (Some (leaf_of t)) ∷ []) (steps_allowed n u places) (write, tt))

  run_allowed : (p : Procedure) → AreWritten a p.formals → AreAllowed a (run_code p)
  run_allowed p h = (tt, allowed_then a (formal_stores p.formals) (op.Call p.routine ∷ []) (formals_allowed a p.formals h) (tt, tt))

  -- ---- statements

  module _ (rs : Routines) (procs : List Proc) where
    kept_allowed : {names : List Name} {c : ℕ} {places : Tree} {base n m : ℕ} {code : List Instr} → Allows a rs.functions names n → ((d : ℕ) → c ≤ d → a.cells d ≡ true) → IsKept rs.functions names c places base n code m → AreAllowed a code
    kept_allowed h own (no_place c base n) = tt
    kept_allowed {names = names} h own (place_more place places c base n k m x y g d) =
        allowed_then a x (op.Store c None ∷ y) (code_allowed a rs.functions names h g) (own c (omega arith), kept_allowed (allows_more k (grows g) h) (λ e up. own e (omega (arith, up))) d)

    mutual
      pub stmt_allowed : {names : List Name} {s : Tree} {base n m : ℕ} {code : List Instr} (known : Names) → AllowsRuns a rs names n → ChangesAreWritten a names known → IsStatement s procs known → IsStmt rs names s base n code m → AreAllowed a code
      stmt_allowed known h ch ok (set names text value place at base n m c code x t e seat shape g) =
          let write = written_as a c x.shape (Single t) 1 shape refl (written a names known c x ch ok.4 e seat) in
          allowed_then a code (op.Store c (Some t) ∷ []) (code_allowed a rs.functions names h.inside g) (write c (omega arith) (omega arith), tt)
      stmt_allowed known h ch ok (set_list names text value place at base n c size x t l e seat shape g many) =
          let write = written_as a c x.shape (Many size (Single t)) size shape (omega arith) (written a names known c x ch ok.4 e seat) in
          copy_allowed c size t l.seat write (subst (λ k. SeatIsRead a k l.seat) many (list_read a names value l h.inside.read g))
      stmt_allowed known h ch ok (set_items names text items list place at base n m c size x y t e seat shape number g) =
          let write = written_as a c y.shape (Many size (Single t)) size shape (omega arith) (written a names known c y ch ok.4 e seat) in
          allowed_then a x (copy_code c size t (Cell n)) (kept_allowed (allows_more (n + size) (omega arith) h.inside) h.inside.own g) (copy_allowed c size t (Cell n) write tt)
      stmt_allowed known h ch ok (set_whole names text from place from_at at base n c d x y e seat f there same) = (written a names known c x ch ok.4 e seat, tt)
      stmt_allowed known h ch ok (set_filled names text value place at base n m c x y e seat g) =
          let size : ℕ = scalars_of_type y.shape in
          allowed_then a x (op.Copy c n size (Some (leaf_of y.shape)) ∷ []) (fill_allowed a rs.functions (allows_more (n + size) (omega arith) h.inside) (own_all n size (omega arith) h.inside) g) (written a names known c y ch ok.4 e seat, tt)
      stmt_allowed known h ch ok (set_item names text spot value place at base n k m c size x y z t e seat shape g d) =
          let write = written_as a c z.shape (Many size (Single t)) size shape (omega arith) (written a names known c z ch ok.4 e seat) in
          allowed_then a x (y ++ op.StoreAt c size (Some t) ∷ []) (code_allowed a rs.functions names h.inside g)
          (allowed_then a y (op.StoreAt c size (Some t) ∷ []) (code_allowed a rs.functions names (allows_more k (grows g) h.inside) d) (write, tt))
      stmt_allowed known h ch ok (set_part names text places value place at base n k m c size x y z t e seat many part g d) =
          let write = written_as a c z.shape z.shape size refl (sized_is z.shape size many) (written a names known c z ch ok.4 e seat) in
          let wide = grows_kept g in
          let first : ℕ = n + number_of places in
          let tail : List Instr = part_tail c size first t (step_code n z.shape places) in
          allowed_then a x (y ++ tail) (kept_allowed (allows_more (first + scalars_of_type t) (omega arith) h.inside) h.inside.own g)
          (allowed_then a y tail (fill_allowed a rs.functions (allows_more k (omega (arith, wide)) h.inside) (own_all first (scalars_of_type t) (omega arith) h.inside) d) (tail_allowed c size first n t z.shape places write))
      stmt_allowed known h ch ok (set_part_list names text from places place from_at at base n m c size d x z y t e seat many part f there same g) =
          let write = written_as a c z.shape z.shape size refl (sized_is z.shape size many) (written a names known c z ch ok.4 e seat) in
          allowed_then a x (part_tail c size d t (step_code n z.shape places)) (kept_allowed (allows_more (n + number_of places) (omega arith) h.inside) h.inside.own g) (tail_allowed c size d n t z.shape places write)
      stmt_allowed known h ch ok (call names text args place at base n m part p e g) =
          allowed_then a part (run_code p) (args_allowed a rs.functions names h.inside g) (run_allowed p (h.procedures text p (proc_found text (number_of args) rs.procedures p e).0))
      stmt_allowed known h ch ok (if_alone names test first at base n k m end x y g d e) =
          allowed_then a x y (test_allowed a rs.functions names h.inside g) (all_allowed known (runs_more k (grows_test g) h) ch ok.1 d)
      stmt_allowed known h ch ok (if_else names test first other at base n k j m else_at end x y z g d q e f) =
          let later = runs_more k (grows_test g) h in
          allowed_then a x (y ++ op.Jump end ∷ z) (test_allowed a rs.functions names h.inside g)
          (allowed_then a y (op.Jump end ∷ z) (all_allowed known later ch ok.1 d) (tt, all_allowed known (runs_more j (grows_all d) later) ch ok.2 q))
      stmt_allowed known h ch ok (while_code names test body at base n k m head out x y d g e f) = (
        tt,
        (
          tt,
          allowed_then a y (x ++ op.Jump (base + 1) ∷ []) (all_allowed known h ch ok.1 d)
              (allowed_then a x (op.Jump (base + 1) ∷ []) (test_allowed a rs.functions names (allows_more k (grows_all d) h.inside) g) (tt, tt)),
        ),
      )
      stmt_allowed known h ch ok (each_code names shape from to body text place at base n k j m turn start out x y z t e g d q f1 f2 f3) =
          let up = grows g in
          let more = grows d in
          let head : List Instr = each_head n t out in
          let tail : List Instr = each_tail n turn out in
          let inner = all_allowed (with_known (counter text) known) (runs_local text (Single t) (n + 2) (runs_more j (omega (arith, up, more)) h)) (changes_more a names known (counter text) (Single t) (n + 2) (own_all (n + 2) 1 (omega arith) h.inside) ch) ok.5 q in
          let own_first = own_one n (omega arith) h.inside in
          let own_last = own_one (n + 1) (omega arith) h.inside in
          let own_name = own_one (n + 2) (omega arith) h.inside in
          let bounds : AreAllowed a head = (own_last, (own_first, (tt, (tt, (tt, (tt, (tt, (tt, (own_name, tt))))))))) in
          let next : AreAllowed a tail = (tt, (tt, (tt, (tt, (tt, (tt, (tt, (own_first, (tt, tt))))))))) in
          allowed_then a x (y ++ (head ++ (z ++ tail))) (code_allowed a rs.functions names (allows_more (n + 3) (omega arith) h.inside) g)
          (allowed_then a y (head ++ (z ++ tail)) (code_allowed a rs.functions names (allows_more k (omega (arith, up)) h.inside) d) (allowed_then a head (z ++ tail) bounds (allowed_then a z tail inner next)))
      stmt_allowed known h ch ok (each_counted names shape from to body text place at base n m low high c t e f1 f2 f3 q) =
          let own = own_one n (omega arith) h.inside in
          let inner = all_allowed (with_known (counter text) known) (runs_local text (Single t) n (runs_more (n + 1) (omega arith) h)) (changes_more a names known (counter text) (Single t) n (own_all n 1 (omega arith) h.inside) ch) ok.5 q in
          let tail : List Instr = count_next n high (base + 2) in
          (tt, (own, (tt, allowed_then a c tail inner (tt, (tt, (tt, (own, (tt, (tt, (tt, (tt, tt)))))))))))
      stmt_allowed known h ch ok (block_code names vars body at base n m code g) = block_allowed known h ch ok.2 g

      pub block_allowed : {names : List Name} {vars body : Tree} {base n m : ℕ} {code : List Instr} (known : Names) → AllowsRuns a rs names n → ChangesAreWritten a names known → AreStatements body procs (with_vars_known vars known) → IsBlock rs names vars body base n code m → AreAllowed a code
      block_allowed known h ch ok (no_more names body base n m code g) = all_allowed known h ch ok g
      block_allowed known h ch ok (variable_more names shape start vars body text place at base n k m x y t changes e g d) =
          let up = grows_start g in
          let u : Known = record { name = text; kind = kind_of_judged (type_judged shape known); value = None; changes = changes } in
          allowed_then a x y (start_allowed a rs.functions names (own_one n (omega arith) h.inside) (allows_more (n + 1) (omega arith) h.inside) g)
          (block_allowed (with_known u known) (runs_local text (Single t) n (runs_more k (omega (arith, up)) h)) (changes_more a names known u (Single t) n (own_all n 1 (omega arith) h.inside) ch) ok d)
      block_allowed known h ch ok (list_more names shape start vars body text place at base n k m x y t changes e g d) =
          let up = grows_list_start g in
          let u : Known = record { name = text; kind = kind_of_judged (type_judged shape known); value = None; changes = changes } in
          let size : ℕ = scalars_of_type t in
          allowed_then a x y (list_start_allowed a rs.functions (allows_more (n + size) (omega arith) h.inside) (own_all n size (omega arith) h.inside) g)
          (block_allowed (with_known u known) (runs_local text t n (runs_more k (omega (arith, up)) h)) (changes_more a names known u t n (own_all n size (omega arith) h.inside) ch) ok d)

      pub all_allowed : {names : List Name} {ss : Tree} {base n m : ℕ} {code : List Instr} (known : Names) → AllowsRuns a rs names n → ChangesAreWritten a names known → AreStatements ss procs known → AreStmts rs names ss base n code m → AreAllowed a code
      all_allowed known h ch ok (none names base n) = tt
      all_allowed known h ch ok (one_more names s rest base n k m x y g d) = allowed_then a x y (stmt_allowed known h ch ok.0 g) (all_allowed known (runs_more k (grows_stmt g) h) ch ok.1 d)

    -- ---- procedures

    proc_body_allowed : {body : Tree} {names : List Name} {xs : List Local} {base n m : ℕ} {code : List Instr} (known : Names) → AllowsRuns a rs names n → ChangesAreWritten a names known → AreStatements body procs (with_locals xs known) → IsProcBody rs body names xs base n code m → AreAllowed a code
    proc_body_allowed known h ch ok (no_local names base n m code g) = allowed_then a code (op.Return ∷ []) (all_allowed known h ch ok g) (tt, tt)
    proc_body_allowed known h ch ok (local_more names x xs kind base n k m u v shape first rest) =
        let up = grows_start first in
        allowed_then a u v (start_allowed a rs.functions names (own_one n (omega arith) h.inside) (allows_more (n + 1) (omega arith) h.inside) first)
        (proc_body_allowed (with_known (known_local x) known) (runs_local x.name (Single kind) n (runs_more k (omega (arith, up)) h)) (changes_more a names known (known_local x) (Single kind) n (own_all n 1 (omega arith) h.inside) ch) ok rest)
    proc_body_allowed known h ch ok (local_list names x xs base n k m u v typed first rest) =
        let up = grows_list_start first in
        let size : ℕ = scalars_of_type x.shape in
        allowed_then a u v (list_start_allowed a rs.functions (allows_more (n + size) (omega arith) h.inside) (own_all n size (omega arith) h.inside) first)
        (proc_body_allowed (with_known (known_local x) known) (runs_local x.name x.shape n (runs_more k (omega (arith, up)) h)) (changes_more a names known (known_local x) x.shape n (own_all n size (omega arith) h.inside) ch) ok rest)

    -- formals have cells of their own
    formals_change : (xs : List Local) (ys : List Formal) (names : List Name) (known : Names) → StandForFormals xs ys → AreWritten a ys → ChangesAreWritten a names known → ChangesAreWritten a (behind_formals xs ys names) (with_locals xs known)
    formals_change [] [] names known stand write ch = ch
    formals_change [] (y ∷ ys) names known stand write ch = absurd stand
    formals_change (x ∷ xs) [] names known stand write ch = absurd stand
    formals_change (x ∷ xs) (y ∷ ys) names known stand write ch =
        formals_change xs ys (local x.name y.kind y.cell ∷ names) (with_known (known_local x) known) stand.1 write.1
        (changes_more a names known (known_local x) (Single y.kind) y.cell (λ d from to. let same : y.cell ≡ d = omega (arith, from, to) in subst (λ c. a.cells c ≡ true) same write.0) ch)

    pub proc_allowed : (globals : List Name) (p : Proc) (g : Procedure) (base n m : ℕ) (code : List Instr) (known : Names) → AllowsRuns a rs globals n → ChangesAreWritten a globals known → IsProc procs known p → IsProcRoutine globals rs p g base n code m → AreAllowed a code
    proc_allowed globals p g base n m code known h ch sound is =
        let later = allows_more (n + length g.formals) (omega arith) h.inside in
        proc_body_allowed (with_locals p.formals known)
        (record { inside = record { own = later.own; formals = later.formals; read = formals_read a p.formals g.formals globals h.inside.read }; procedures = h.procedures })
        (formals_change p.formals g.formals globals known is.formals (row_written a n g.formals h.inside.own is.row) ch) sound.body is.body
