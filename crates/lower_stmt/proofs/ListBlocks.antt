-- The code of a block whose first variable is a list does what executing it does.
use Rattle.std.proofs.Common.{◌≡◌, ℕ, ◌+◌, ◌≤◌, inl, inr, ⊎_elim, List, ◌∷◌, ◌++◌, length, Bool, sym, ap, ◌∙◌, subst, Some, arith, length-append}
use Rattle.cal_ast.specs.Tree as tree
use Rattle.cal_ast.specs.Tree.{Tree}
use Rattle.cal_model.specs.Value.{Shape, Value, IsType, scalars_of_type}
use Rattle.cal_model.specs.Outcome.{Out, and_then}
use Rattle.cal_model.specs.Env.{Var, Env, variable, with_local}
use Rattle.cal_model.specs.Statement.{Runs, first_of, inside, with_vars}
use Rattle.code_ir.specs.declared.instr.Instr.{Instr}
use Rattle.code_ir.specs.Running.{State}
use Rattle.lower_base.specs.Calling.{Serves}
use Rattle.lower_base.specs.Following.{Follows}
use Rattle.lower_base.specs.Held.{AreApart}
use Rattle.lower_base.specs.Names.{Name}
use Rattle.lower_base.specs.Placed.{World, state}
use Rattle.lower_base.proofs.Keeping.{apart_last}
use Rattle.lower_base.proofs.Runs.{follows_then, stands_left, stands_right}
use Rattle.expr_lower.specs.ShapeMeant.{shape_meant}
use Rattle.expr_lower.proofs.ShapeIs.{shape_is, shape_typed}
use Rattle.lower_stmt.specs.Bodies.{CutShort}
use Rattle.lower_stmt.specs.ListStarting.{IsListStart, local_of}
use Rattle.lower_stmt.specs.Procedures.{Routines}
use Rattle.lower_stmt.proofs.Blocking.{blocked, leave_twice, then_then}
use Rattle.lower_stmt.proofs.ListStarting.{StartedList, grows_list_start, list_start_moves}
use Rattle.lower_stmt.proofs.Locals.{any_held, inside_any}
use Rattle.lower_stmt.proofs.Performing.{Moves, Performs, but_wider, keeps_but, move_after, moves_at}
use Rattle.lower_stmt.proofs.Scoping.{AreLaid, HoldsInside, inside_still}

module _ (rs : Routines) (outer : List Name) (w : World) (serves : Serves w outer rs.functions) (frames : List ℕ) (runs : Runs) where
  pub block_list : (inner : List Name) (M : Env → ℕ → Out Env) (shape start vars : Tree) (text : List ℕ) (place at base n k m : ℕ) (a b : List Instr) (t : Shape) (changes : Bool)
      → shape_meant shape ≡ Some t → k ≤ m → IsListStart rs.functions (inner ++ outer) t n start base (n + scalars_of_type t) a k
      → Performs rs outer w serves frames (local_of text t n ∷ inner) (blocked rs outer w serves frames runs vars M) (base + length a) k b m
      → Performs rs outer w serves frames inner (blocked rs outer w serves frames runs (tree.cons (tree.var shape (tree.ident text place) start changes at) vars) M) base n (a ++ b) m
  block_list inner M shape start vars text place at base n k m a b t changes meant ge starts body stack cells env left stands laid apart room holds =
      let s : State = state base stack frames cells left in
      let names : List Name = inner ++ outer in
      let typed : IsType t = shape_typed shape t meant in
      let le : n + scalars_of_type t ≤ k = grows_list_start starts in
      let finish : base + length a + length b ≡ base + length (a ++ b) = omega (arith, length-append a b) in
      let rest : Value → ℕ → Out Env = λ v j. and_then (with_vars vars w.calls (with_local (variable text t changes v) env) j) (λ x h. inside env x M h) in
      let whole : blocked rs outer w serves frames runs (tree.cons (tree.var shape (tree.ident text place) start changes at) vars) M env left ≡ and_then (first_of t start w.calls env left) rest =
      ap (λ (o : Out Shape). and_then (and_then o (λ u h. and_then (first_of u start w.calls env h) (λ v j. with_vars vars w.calls (with_local (variable text u changes v) env) j))) (λ x h. inside env x M h)) (shape_is shape t w.calls env left meant)
      ∙ then_then (first_of t start w.calls env left) (λ v j. with_vars vars w.calls (with_local (variable text t changes v) env) j) (λ x h. inside env x M h) in
      subst (λ (o : Out Env). Follows o (Moves rs outer w serves frames inner n m s (base + length (a ++ b)) (length env.locals)) (CutShort w names outer n m s)) (sym whole)
      (follows_then (first_of t start w.calls env left) rest (StartedList rs outer w serves frames runs t n k s (base + length a)) (CutShort w names outer n k s)
      (Moves rs outer w serves frames inner n m s (base + length (a ++ b)) (length env.locals)) (CutShort w names outer n m s)
      (list_start_moves rs outer w serves frames runs inner t n typed starts stack cells env left (stands_left w.code.instrs base a b stands) laid (⊎_elim (λ (x : m ≤ w.low). inl (omega (arith, x, ge))) (λ (x : w.high ≤ n). inr x) apart) (omega (arith, room, ge)) holds)
      (λ v j p.
      let var : Var = variable text t changes v in
      let r : State = state (base + length a) stack frames p.cells j in
      let held : HoldsInside rs outer w.tokens w.low w.high (local_of text t n ∷ inner) p.cells (with_local var env) =
      any_held rs outer w serves frames inner text t n p.cells env changes v p.kind p.stands (inside_still rs outer w.tokens w.low w.high n k inner cells p.cells env laid p.keeps holds) in
      let away : AreApart n (n + scalars_of_type t) w.low w.high = ⊎_elim (λ (x : m ≤ w.low). inl (omega (arith, x, le, ge))) (λ (x : w.high ≤ n). inr x) apart in
      let deeper : AreLaid rs outer w.tokens w.low w.high k (local_of text t n ∷ inner) = (n, (omega arith, le), omega (arith, le), typed, away, laid) in
      let done = body stack p.cells (with_local var env) j (stands_right w.code.instrs base a b stands) deeper (apart_last n k m w.low w.high (omega (arith, le)) apart) (let same = p.keeps.size in omega (arith, same, room)) held in
      subst (λ (o : Out Env). Follows o (Moves rs outer w serves frames inner n m s (base + length (a ++ b)) (length env.locals)) (CutShort w names outer n m s)) (sym (leave_twice M var env (with_vars vars w.calls (with_local var env) j)))
      (moves_at rs outer w serves frames (inside env (with_local var env) (blocked rs outer w serves frames runs vars M) j) inner n m (base + length a + length b) (base + length (a ++ b)) (length env.locals) s finish
      (move_after rs outer w serves frames inner n n m m base (base + length a) (base + length a + length b) (length env.locals) stack cells p.cells left j (inside env (with_local var env) (blocked rs outer w serves frames runs vars M) j) (omega arith) (omega arith)
      p.reaches (but_wider n m (omega arith) ge (keeps_but names p.keeps))
      (inside_any rs outer w serves frames inner text t (blocked rs outer w serves frames runs vars M) env var n n k m (base + length a + length b) r j (omega arith) (omega (arith, le, ge)) (omega (arith, le)) done))))
      (λ d x. record { cells = x.cells; ends = x.ends; keeps = but_wider n m (omega arith) ge x.keeps }))
