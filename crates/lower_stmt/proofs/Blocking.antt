-- The code of a block does what executing it does.
use Rattle.std.proofs.Common.{◌≡◌, ℕ, suc, ◌+◌, ◌-◌, ◌≤◌, inl, inr, ⊎_elim, ℤ, pos, List, [], ◌∷◌, ◌++◌, length, drop, Bool, refl, sym, ap, ◌∙◌, subst, None, Some, arith, length-append}
use Rattle.std.specs.Prelude.{slice_get, slice_set}
use Rattle.std.proofs.lemmas.List.{drop-drop, length-drop}
use Rattle.rvc_base.specs.declared.scalar.Scalar.{Scalar}
use Rattle.rvc_base.specs.declared.scalar.Scalar.TheVariants as scalar
use Rattle.cal_model.proofs.Numbers.{is-num}
use Rattle.rvc_base.specs.Storing.{conv, IsSize}
use Rattle.rvc_base.specs.Width.{IsNum}
use Rattle.cal_ast.specs.Tree as tree
use Rattle.cal_ast.specs.Tree.{Tree}
use Rattle.cal_model.specs.Value.{Shape, Single, Value, HasKind, kind_of_scalar, of_number, stored}
use Rattle.cal_model.specs.Outcome.{Out, Gives, Traps, Lacks, Clashes, and_then}
use Rattle.cal_model.specs.Env.{Var, Env, variable, with_local, back_to}
use Rattle.cal_model.specs.Expression.{eval}
use Rattle.cal_model.specs.Statement.{Runs, first_of, inside, with_vars}
use Rattle.code_ir.specs.declared.instr.Instr.{Instr}
use Rattle.code_ir.specs.declared.instr.Instr.TheVariants as op
use Rattle.code_ir.specs.Running.{State, Reaches, here, after}
use Rattle.lower_base.specs.Flat.{flat}
use Rattle.lower_base.specs.Names.{Name, local}
use Rattle.lower_base.specs.Meant.{single_meant}
use Rattle.lower_base.specs.Held.{AreApart, Keeps}
use Rattle.lower_base.specs.Placed.{StandsAt, World, state}
use Rattle.lower_base.specs.Starting.{IsStart, at_zero, at_value}
use Rattle.lower_base.specs.Following.{Follows, MayUse, Pushes, CutsOff}
use Rattle.lower_stmt.proofs.Counting.{store_on, there}
use Rattle.lower_base.proofs.Keeping.{keeps_join, keeps_wider, apart_last}
use Rattle.lower_stmt.proofs.Locals.{inside_moves, local_held}
use Rattle.expr_lower.proofs.MeantIs.{meant_is, meant_sized}
use Rattle.lower_base.proofs.Runs.{reaches_join, obeys, follows_both, follows_then, stands_left, stands_right}
use Rattle.lower_base.proofs.Singles.{IsSingleValue}
use Rattle.lower_base.proofs.Storing.{set_there, set_written, single_stored}
use Rattle.lower_stmt.proofs.Scoping.{AreLaid, HoldsInside, inside_still, laid_more}
use Rattle.lower_base.proofs.Written.{Written, written_keeps}
use Rattle.lower_stmt.proofs.Performing.{Moves, Performs, but_wider, cut_breaks, keeps_but, move_after, moves_at}
use Rattle.lower_stmt.specs.Procedures.{Routines}
use Rattle.lower_base.specs.Calling.{Serves}
use Rattle.lower_stmt.proofs.Evaluating.{does_there, may, singles_there}
use Rattle.lower_stmt.specs.Bodies.{CutShort}

-- ---- environments

back_same : (now next : Env) → length next.locals ≡ length now.locals → back_to now next ≡ next
back_same now next e =
    let count : length next.locals - length now.locals ≡ 0 = omega (arith, e) in
    ap (λ k. record next { locals = drop k next.locals }) count

-- back by one local, and then by the others
back_twice : (v : Var) (env next : Env) → back_to env (back_to (with_local v env) next) ≡ back_to env next
back_twice v env next =
    let j : ℕ = length next.locals - suc (length env.locals) in
    let size = length-drop j next.locals in
    let count : j + (length (drop j next.locals) - length env.locals) ≡ length next.locals - length env.locals = omega (arith, size) in
    ap (λ xs. record next { locals = xs }) (drop-drop (length (drop j next.locals) - length env.locals) j next.locals)
    ∙ ap (λ k. record next { locals = drop k next.locals }) count

pub then_then : {A B C : Type 0} (o : Out A) (f : A → ℕ → Out B) (g : B → ℕ → Out C) → and_then (and_then o f) g ≡ and_then o (λ x k. and_then (f x k) g)
then_then (Gives x k) f g = refl
then_then (Traps c) f g = refl
then_then Lacks f g = refl
then_then Clashes f g = refl

-- leaving all locals is leaving the later ones and then the first
pub leave_twice : (M : Env → ℕ → Out Env) (v : Var) (env : Env) (o : Out Env)
    → and_then o (λ x k. inside env x M k) ≡ and_then (and_then o (λ x k. inside (with_local v env) x M k)) (λ next k. Gives (back_to env next) k)
leave_twice M v env (Gives x k) = go (M x k)
  where
    go : (p : Out Env) → and_then p (λ next h. Gives (back_to env next) h) ≡ and_then (and_then p (λ next h. Gives (back_to (with_local v env) next) h)) (λ next h. Gives (back_to env next) h)
    go (Gives next h) = ap (λ e. Gives e h) (sym (back_twice v env next))
    go (Traps c) = refl
    go Lacks = refl
    go Clashes = refl
leave_twice M v env (Traps c) = refl
leave_twice M v env Lacks = refl
leave_twice M v env Clashes = refl

-- ---- starts

zero_num : IsNum (pos 0)
zero_num = is-num (pos 0) refl

pub zero_kind : (t : Scalar) → HasKind (kind_of_scalar t) (of_number t (pos 0)) × (flat (of_number t (pos 0)) ≡ pos 0 ∷ [])
zero_kind scalar.Bool = (tt, refl)
zero_kind (scalar.Int n) = (zero_num, refl)
zero_kind (scalar.Uint n) = (zero_num, refl)

module _ (rs : Routines) (outer : List Name) (w : World) (serves : Serves w outer rs.functions) (frames : List ℕ) (runs : Runs) where
  abbrev Inside : List Name → List ℤ → Env → Type 0
  Inside inner cells env = HoldsInside rs outer w.tokens w.low w.high inner cells env

  abbrev Laid : ℕ → List Name → Type 0
  Laid n inner = AreLaid rs outer w.tokens w.low w.high n inner

  -- the start stands in the cell
  pub record Started (t : Scalar) (n m : ℕ) (s : State) (end : ℕ) (v : Value) (left : ℕ) : Type 0 where
    pub cells : List ℤ
    pub reaches : Reaches w.code w.tokens s (state end s.stack s.frames cells left)
    pub keeps : Keeps n m w.low w.high s.cells cells
    pub kind : HasKind (kind_of_scalar t) v
    pub number : ℤ
    pub is : flat v ≡ number ∷ []
    pub stands : slice_get cells n ≡ Some number

  one_cell : (cells : List ℤ) (n m : ℕ) (z : ℤ) → n + 1 ≤ m → Keeps n m w.low w.high cells (slice_set cells n z)
  one_cell cells n m z le =
      let wrote : Written n 1 cells (slice_set cells n z) = let e : n + 0 ≡ n = omega arith in subst (λ d. Written n 1 cells (slice_set cells d z)) e (set_written cells n 1 0 z (omega arith)) in
      written_keeps n 1 n m w.low w.high cells (slice_set cells n z) (omega arith) le wrote

  pub start_moves : (inner : List Name) (t : Scalar) (n : ℕ) {base m : ℕ} {start : Tree} {a : List Instr} → IsSize t → n + 1 ≤ m → IsStart rs.functions (inner ++ outer) t n start base (n + 1) a m
      → (stack cells : List ℤ) (env : Env) (left : ℕ) → StandsAt w.code.instrs base a → Laid n inner → n + 1 ≤ length cells → Inside inner cells env → MayUse w (n + 1) m cells
      → Follows (first_of (Single t) start w.calls env left) (Started t n m (state base stack frames cells left) (base + length a)) (CutShort w (inner ++ outer) outer n m (state base stack frames cells left))
  start_moves inner t n sized le (at_zero base h) stack cells env left stands laid room holds usable =
      let old = there cells n (omega (arith, room)) in
      let s : State = state base stack frames cells left in
      let end : base + 1 + 1 ≡ base + 2 = omega arith in
      let made = zero_kind t in
      record {
        cells = slice_set cells n (pos 0);
        reaches = subst (λ p. Reaches w.code w.tokens s (state p stack frames (slice_set cells n (pos 0)) left)) end
            (reaches_join (after (obeys w.code w.tokens s (op.Const (pos 0)) stands.0) here) (store_on rs outer w serves frames (base + 1) n None stack cells left (pos 0) old.0 stands.1.0 old.1));
        keeps = one_cell cells n h (pos 0) le;
        kind = made.0;
        number = pos 0;
        is = made.1;
        stands = set_there cells n old.0 (pos 0) old.1;
      }
  start_moves inner t n sized le (at_value e base h m code coded) stack cells env left stands laid room holds usable =
      let names : List Name = inner ++ outer in
      let s : State = state base stack frames cells left in
      let i : List Instr = op.Store n (Some t) ∷ [] in
      let wide : n ≤ n + 1 = omega arith in
      let more : Laid (n + 1) inner = laid_more rs outer w.tokens w.low w.high n (n + 1) inner wide laid in
      let size : length (code ++ i) ≡ length code + 1 = length-append code i in
      follows_then (eval e w.calls env left) (λ v j. Gives (stored (Single t) v) j)
      (λ v j. Pushes w (n + 1) m s (base + length code) v j × IsSingleValue v) (λ d. CutsOff w (n + 1) m s d × Unit {0})
      (Started t n m s (base + length (code ++ i))) (CutShort w names outer n m s)
      (follows_both (eval e w.calls env left) (Pushes w (n + 1) m s (base + length code)) (CutsOff w (n + 1) m s) (λ v j. IsSingleValue v) (λ d. Unit {0})
      (does_there rs outer w serves frames inner coded stack cells env left (stands_left w.code.instrs base code i stands) more holds usable)
      (singles_there rs outer w serves frames inner coded cells env left (stands_left w.code.instrs base code i stands) more holds usable))
      (λ v j both.
      let p : Pushes w (n + 1) m s (base + length code) v j = both.0 in
      let y = there p.cells n (let same = p.keeps.size in omega (arith, same, room)) in
      let made = single_stored t v p.number sized both.1 p.is in
      let end : base + length code + 1 ≡ base + length (code ++ i) = omega (arith, size) in
      record {
        cells = slice_set p.cells n (conv t p.number);
        reaches = subst (λ q. Reaches w.code w.tokens s (state q stack frames (slice_set p.cells n (conv t p.number)) j)) end
            (reaches_join p.reaches (store_on rs outer w serves frames (base + length code) n (Some t) stack p.cells j p.number y.0 (stands_right w.code.instrs base code i stands).0 y.1));
        keeps = keeps_join (keeps_wider n m wide (omega arith) p.keeps) (one_cell p.cells n m (conv t p.number) le);
        kind = made.0;
        number = conv t p.number;
        is = made.1;
        stands = set_there p.cells n y.0 (conv t p.number) y.1;
      })
      (λ d q. cut_breaks rs outer w serves frames names n (n + 1) m m s d wide (omega arith) q.0)

  -- ---- blocks

  -- the variables, and then what is done inside them
  abbrev pub blocked : Tree → (Env → ℕ → Out Env) → Env → ℕ → Out Env
  blocked vars M env left = and_then (with_vars vars w.calls env left) (λ x k. inside env x M k)

  pub block_none : (inner : List Name) (M : Env → ℕ → Out Env) (base n m : ℕ) (code : List Instr) → Performs rs outer w serves frames inner M base n code m → Performs rs outer w serves frames inner (blocked tree.nil M) base n code m
  block_none inner M base n m code body stack cells env left stands laid apart room holds =
      let s : State = state base stack frames cells left in
      follows_then (M env left) (λ next k. Gives (back_to env next) k) (Moves rs outer w serves frames inner n m s (base + length code) (length env.locals)) (CutShort w (inner ++ outer) outer n m s)
      (Moves rs outer w serves frames inner n m s (base + length code) (length env.locals)) (CutShort w (inner ++ outer) outer n m s)
      (body stack cells env left stands laid apart room holds)
      (λ next k p.
      let same : back_to env next ≡ next = back_same env next p.as_many in
      subst (λ x. Moves rs outer w serves frames inner n m s (base + length code) (length env.locals) x k) (sym same) p)
      (λ d b. b)

  pub block_more : (inner : List Name) (M : Env → ℕ → Out Env) (shape start vars : Tree) (text : List ℕ) (place at base n k m : ℕ) (a b : List Instr) (t : Scalar) (changes : Bool)
      → single_meant shape ≡ Some t → n + 1 ≤ k → k ≤ m → IsStart rs.functions (inner ++ outer) t n start base (n + 1) a k
      → Performs rs outer w serves frames (local text t n ∷ inner) (blocked vars M) (base + length a) k b m
      → Performs rs outer w serves frames inner (blocked (tree.cons (tree.var shape (tree.ident text place) start changes at) vars) M) base n (a ++ b) m
  block_more inner M shape start vars text place at base n k m a b t changes meant le ge starts body stack cells env left stands laid apart room holds =
      let s : State = state base stack frames cells left in
      let names : List Name = inner ++ outer in
      let sized : IsSize t = meant_sized shape t meant in
      let finish : base + length a + length b ≡ base + length (a ++ b) = omega (arith, length-append a b) in
      let rest : Value → ℕ → Out Env = λ v j. and_then (with_vars vars w.calls (with_local (variable text (Single t) changes v) env) j) (λ x h. inside env x M h) in
      let whole : blocked (tree.cons (tree.var shape (tree.ident text place) start changes at) vars) M env left ≡ and_then (first_of (Single t) start w.calls env left) rest =
      ap (λ (o : Out Shape). and_then (and_then o (λ u h. and_then (first_of u start w.calls env h) (λ v j. with_vars vars w.calls (with_local (variable text u changes v) env) j))) (λ x h. inside env x M h)) (meant_is shape t w.calls env left meant)
      ∙ then_then (first_of (Single t) start w.calls env left) (λ v j. with_vars vars w.calls (with_local (variable text (Single t) changes v) env) j) (λ x h. inside env x M h) in
      subst (λ (o : Out Env). Follows o (Moves rs outer w serves frames inner n m s (base + length (a ++ b)) (length env.locals)) (CutShort w names outer n m s)) (sym whole)
      (follows_then (first_of (Single t) start w.calls env left) rest (Started t n k s (base + length a)) (CutShort w names outer n k s)
      (Moves rs outer w serves frames inner n m s (base + length (a ++ b)) (length env.locals)) (CutShort w names outer n m s)
      (start_moves inner t n sized le starts stack cells env left (stands_left w.code.instrs base a b stands) laid (omega (arith, room, le, ge)) holds (may w n m (n + 1) k cells cells (omega arith) ge apart room refl))
      (λ v j p.
      let var : Var = variable text (Single t) changes v in
      let r : State = state (base + length a) stack frames p.cells j in
      let held : Inside (local text t n ∷ inner) p.cells (with_local var env) =
      local_held rs outer w serves frames inner text t n p.cells env changes v p.number p.kind p.is p.stands (inside_still rs outer w.tokens w.low w.high n k inner cells p.cells env laid p.keeps holds) in
      let away : AreApart n (n + 1) w.low w.high = ⊎_elim (λ (x : m ≤ w.low). inl (omega (arith, x, le, ge))) (λ (x : w.high ≤ n). inr x) apart in
      let deeper : Laid k (local text t n ∷ inner) = (n, (omega arith, le), omega (arith, le), sized, away, laid) in
      let done = body stack p.cells (with_local var env) j (stands_right w.code.instrs base a b stands) deeper (apart_last n k m w.low w.high (omega (arith, le)) apart) (let same = p.keeps.size in omega (arith, same, room)) held in
      subst (λ (o : Out Env). Follows o (Moves rs outer w serves frames inner n m s (base + length (a ++ b)) (length env.locals)) (CutShort w names outer n m s)) (sym (leave_twice M var env (with_vars vars w.calls (with_local var env) j)))
      (moves_at rs outer w serves frames (inside env (with_local var env) (blocked vars M) j) inner n m (base + length a + length b) (base + length (a ++ b)) (length env.locals) s finish
      (move_after rs outer w serves frames inner n n m m base (base + length a) (base + length a + length b) (length env.locals) stack cells p.cells left j (inside env (with_local var env) (blocked vars M) j) (omega arith) (omega arith)
      p.reaches (but_wider n m (omega arith) ge (keeps_but names p.keeps))
      (inside_moves rs outer w serves frames inner text t (blocked vars M) env var n n k m (base + length a + length b) r j (omega arith) (omega (arith, le, ge)) (omega (arith, le)) done))))
      (λ d x. record { cells = x.cells; ends = x.ends; keeps = but_wider n m (omega arith) ge x.keeps }))
