-- The routine of a procedure does what the procedure does.
use Rattle.std.proofs.Common.{◌≡◌, ℕ, zero, suc, ◌⊎◌, Bool, true, false, ◌+◌, ◌<◌, ◌≤◌, inl, inr, ⊎_elim, ℤ, List, [], ◌∷◌, ◌++◌, length, refl, sym, ap, ◌∙◌, subst, Option, None, Some, arith, append_assoc, append-nil}
use Rattle.std.specs.Prelude.{slice_get, option_map, if◌then◌else◌}
use Rattle.std.specs.Str.{bytes_eq}
use Rattle.std.proofs.lemmas.Slice.Eq.{bytes_eq-Decides}
use Rattle.cal_ast.specs.Tree.{Tree}
use Rattle.cal_ast.specs.View.{optional}
use Rattle.cal_model.specs.Value.{Shape, Single, Value, Values, Nil, Cons, scalars_of_type, stored}
use Rattle.cal_model.specs.Outcome.{Out, Gives, Traps, Lacks, Clashes, and_then, needed}
use Rattle.cal_model.specs.Env.{Var, Env, variable, with_local}
use Rattle.cal_model.specs.Expression.{Calls}
use Rattle.cal_model.specs.Actor.{Fun, Local, Proc}
use Rattle.cal_model.specs.Call.{arguments, calls_of, declared, first_value}
use Rattle.cal_model.specs.Statement.{Runs, exec_all, first_of, performed, proc_named, runs_within}
use Rattle.code_ir.specs.declared.instr.Instr.{Instr}
use Rattle.code_ir.specs.declared.instr.Instr.TheVariants as op
use Rattle.code_ir.specs.declared.instr.Routine.{Routine}
use Rattle.code_ir.specs.Code.{Code}
use Rattle.code_ir.specs.Running.{State, Reaches, Ends, here, after}
use Rattle.code_ir.specs.declared.outcome.Outcome.{Outcome}
use Rattle.code_ir.proofs.Ends.{one-end}
use Rattle.lower_base.specs.declared.callees.Formal.{Formal}
use Rattle.lower_base.specs.declared.names.Seat.{Seat}
use Rattle.lower_base.specs.declared.names.Seat.TheVariants.{Cell, Tokens}
use Rattle.lower_base.specs.Callees.{Function}
use Rattle.lower_base.specs.Calling.{AreInRow, AreOfSizes, HoldArguments, Serves, outside}
use Rattle.lower_base.specs.Following.{Follows}
use Rattle.lower_base.specs.Held.{AllApart, AreApart, AreBelow, SeatIsApart, SeatIsBelow}
use Rattle.lower_base.specs.Names.{Name, local, named}
use Rattle.lower_base.specs.Placed.{StandsAt, World, state}
use Rattle.lower_base.specs.Routining.{LocalsSized, StandForFormals, behind_formals, world_of}
use Rattle.lower_base.specs.Starting.{IsStart}
use Rattle.lower_base.proofs.Runs.{ends_back, ends_join, follows_more, follows_then, obeys, reaches_join, stands_left, stands_right}
use Rattle.lower_base.proofs.Served.{routines_low, served_within, sizes_of}
use Rattle.lower_base.proofs.Keeping.{apart_first, apart_last}
use Rattle.lower_stmt.specs.Acting.{ActsAs, ComesBack, EndsAsRun, ServesRuns}
use Rattle.lower_stmt.specs.Changing.{AreTyped, HoldsVars, IsOfNone, KeepsBut, NamesApart}
use Rattle.lower_stmt.specs.Executing.{BreaksOff}
use Rattle.lower_stmt.specs.Proceeding.{AreProcRoutines, IsProcBody, IsProcRoutine, ProcSized, local_list, local_more, no_local, no_procedure, procedure_more}
use Rattle.lower_stmt.specs.Procedures.{Procedure, Routines, procedure_named}
use Rattle.lower_stmt.proofs.Evaluating.{may}
use Rattle.lower_stmt.proofs.Blocking.{Started, start_moves, then_then}
use Rattle.lower_stmt.proofs.Executed.{grows_all, grows_start, performs_all}
use Rattle.lower_stmt.specs.ListStarting.{IsListStart, local_of}
use Rattle.lower_stmt.proofs.ListStarting.{StartedList, grows_list_start, list_start_moves}
use Rattle.lower_stmt.proofs.Locals.{any_held, local_held}
use Rattle.lower_stmt.proofs.Performing.{Moves}
use Rattle.lower_stmt.proofs.Scoping.{AreLaid, HoldsInside, choose_name, inside_still}
use Rattle.lower_stmt.specs.Bodies.{CutShort, KeepsOver, SeatLies}

pub proc_grows : {rs : Routines} {body : Tree} {names : List Name} {xs : List Local} {base n m : ℕ} {code : List Instr} → IsProcBody rs body names xs base n code m → n ≤ m
proc_grows (no_local names base n m code h) = grows_all h
proc_grows (local_more names x xs kind base n k m a b shape first rest) = let g = grows_start first in let h = proc_grows rest in omega (arith, g, h)
proc_grows (local_list names x xs base n k m a b typed first rest) = let g = grows_list_start first in let h = proc_grows rest in omega (arith, g, h)

-- a value at first, in the words of a block
first_same : (t : Shape) (start : Option Tree) (calls : Calls) (env : Env) (left : ℕ) → first_of t (optional start) calls env left ≡ first_value t start calls env left
first_same t None calls env left = refl
first_same t (Some e) calls env left = refl

-- ---- cells that stay

-- the cells of a seat begin at n or later
abbrev BeginsFrom : ℕ → Seat → Type 0
BeginsFrom n (Cell c) = n ≤ c
BeginsFrom n (Tokens port first step) = Unit {0}

-- a cell before those of a seat, or behind them, is none of them
begins_apart : (seat : Seat) (from n d size m c : ℕ) → n ≤ m → SeatLies d n size seat → BeginsFrom from seat → (c < from) ⊎ (m ≤ c) → SeatIsApart c (c + 1) size seat
begins_apart (Cell k) from n d size m c le lies begins free = let to = lies.1 in ⊎_elim (λ (a : c < from). inr (omega (arith, a, begins))) (λ (a : m ≤ c). inl (omega (arith, a, to, le))) free
begins_apart (Tokens port first step) from n d size m c le lies begins free = tt

-- the cells of these names begin at n or later
abbrev AreFrom : ℕ → List Name → Type 0
AreFrom n [] = Unit {0}
AreFrom n (x ∷ inner) = BeginsFrom n x.seat × AreFrom n inner

module _ (rs : Routines) (outer : List Name) (tokens : ℕ → List ℤ) (low high : ℕ) where
  none_inside : (from n m c : ℕ) (inner : List Name) → AreLaid rs outer tokens low high n inner → AreFrom from inner → n ≤ m → (c < from) ⊎ (m ≤ c) → IsOfNone outer c → IsOfNone (inner ++ outer) c
  none_inside from n m c [] laid all le free none text y e = none text y e
  none_inside from n m c (x ∷ inner) (d, at, le, typed, apart, rest) (begins, all) ge free none text y e =
      ⊎_elim (λ (f : (bytes_eq x.text text ≡ true) × (x ≡ y)). subst (λ (z : Name). SeatIsApart c (c + 1) (scalars_of_type z.shape) z.seat) f.1 (begins_apart x.seat from n d (scalars_of_type x.shape) m c ge at begins free))
      (λ (f : (bytes_eq x.text text ≡ false) × (named text (inner ++ outer) ≡ Some y)). none_inside from d m c inner rest all (omega (arith, le, ge)) free none text y f.1)
      (choose_name (bytes_eq x.text text) x (named text (inner ++ outer)) y e)

  keeps_outer : {before now : List ℤ} (from n h m : ℕ) (inner : List Name) → AreLaid rs outer tokens low high n inner → AreFrom from inner → from ≤ n → n ≤ m → h ≤ m
      → KeepsOver (inner ++ outer) outer n h low high before now → KeepsBut outer from m low high before now
  keeps_outer from n h m inner laid all le ge top keeps = record {
    size = keeps.size;
    cell = λ c free apart none.
        keeps.cell c (⊎_elim (λ (a : c < from). inl (omega (arith, a, le))) (λ (a : m ≤ c). inr (omega (arith, a, top))) free) apart (none_inside from n m c inner laid all ge free none) none;
  }

  -- the globals, behind as many locals as there are names of them
  pub globals_behind : (inner : List Name) (cells : List ℤ) (env : Env) → HoldsInside rs outer tokens low high inner cells env → length env.locals ≡ length inner → HoldsVars outer tokens cells (outside env.globals)
  globals_behind [] cells env (vars, can) size =
      let none : env.locals ≡ [] = no_more env.locals size in
      let same : env ≡ outside env.globals = ap (λ ls. record env { locals = ls }) none in
      subst (λ (e : Env). HoldsVars outer tokens cells e) same vars
    where
      no_more : (xs : List Var) → length xs ≡ 0 → xs ≡ []
      no_more [] e = refl
      no_more (x ∷ xs) e = cc
  globals_behind (x ∷ inner) cells env (v, rest, is, var, below) size =
      let count : length (with_local v rest).locals ≡ suc (length inner) = ap (λ (e : Env). length e.locals) (sym is) ∙ size in
      let same : rest.globals ≡ env.globals = ap (λ (e : Env). e.globals) (sym is) in
      subst (λ gs. HoldsVars outer tokens cells (outside gs)) same (globals_behind inner cells rest below (omega (arith, count)))

joins_but : {names : List Name} {n m low high : ℕ} {a b c : List ℤ} → KeepsBut names n m low high a b → KeepsBut names n m low high b c → KeepsBut names n m low high a c
joins_but first second = record { size = second.size ∙ first.size; cell = λ c free apart none. second.cell c free apart none ∙ first.cell c free apart none }

-- ---- the body of a procedure

module _ (rs : Routines) (outer : List Name) (w : World) (serves : Serves w outer rs.functions) (runs : Runs) (acts : ServesRuns w runs outer rs.procedures) (back : ℕ) (frames : List ℕ) where
  abbrev open_frames : List ℕ
  open_frames = back ∷ frames

  -- the run comes back with cells that hold the globals, and has changed the cells from n to m
  pub record Finishes (n m : ℕ) (s : State) (vars : List Var) (left : ℕ) : Type 0 where
    pub cells : List ℤ
    pub reaches : Reaches w.code w.tokens s (state back s.stack frames cells left)
    pub keeps : KeepsBut outer n m w.low w.high s.cells cells
    pub holds : HoldsVars outer w.tokens cells (outside vars)

  abbrev pub ends_proc : Tree → List Local → Env → ℕ → Out (List Var)
  ends_proc body xs env left = and_then (declared xs w.calls env left) (λ now m. and_then (exec_all body w.calls runs now m) (λ last k. Gives last.globals k))

  pub body_comes_back : (from : ℕ) (body : Tree) {names : List Name} {xs : List Local} {base n m : ℕ} {code : List Instr} (inner : List Name) → names ≡ inner ++ outer → IsProcBody rs body names xs base n code m → LocalsSized xs
      → (stack cells : List ℤ) (env : Env) (left : ℕ) → StandsAt w.code.instrs base code → AreLaid rs outer w.tokens w.low w.high n inner → AreFrom from inner → from ≤ n → AreApart n m w.low w.high → m ≤ length cells
      → HoldsInside rs outer w.tokens w.low w.high inner cells env → length env.locals ≡ length inner
      → Follows (ends_proc body xs env left) (Finishes from m (state base stack open_frames cells left)) (BreaksOff w outer from m (state base stack open_frames cells left))
  body_comes_back from body inner is (no_local names base n m code coded) sizes stack cells env left stands laid all le apart room holds as_many =
      let s : State = state base stack open_frames cells left in
      let done = stands_right w.code.instrs base code (op.Return ∷ []) stands in
      let ge : n ≤ m = grows_all coded in
      follows_then (exec_all body w.calls runs env left) (λ last k. Gives last.globals k) (Moves rs outer w serves open_frames inner n m s (base + length code) (length env.locals)) (CutShort w (inner ++ outer) outer n m s)
      (Finishes from m s) (BreaksOff w outer from m s)
      (performs_all rs outer w serves open_frames runs acts inner is coded stack cells env left (stands_left w.code.instrs base code (op.Return ∷ []) stands) laid apart room holds)
      (λ last k p.
      let u : State = state (base + length code) stack open_frames p.cells k in
      let count = p.as_many in
      record {
        cells = p.cells;
        reaches = reaches_join p.reaches (after {t = state back stack frames p.cells k} (obeys w.code w.tokens u op.Return done.0) here);
        keeps = keeps_outer rs outer w.tokens w.low w.high from n m m inner laid all le ge (omega arith) p.keeps;
        holds = globals_behind rs outer w.tokens w.low w.high inner p.cells last p.holds (omega (arith, count, as_many));
      })
      (λ c b. record { cells = b.cells; ends = b.ends; keeps = keeps_outer rs outer w.tokens w.low w.high from n m m inner laid all le ge (omega arith) b.keeps })
  body_comes_back from body inner is (local_more names x xs kind base n k m a b shape first rest) sizes stack cells env left stands laid all le apart room holds as_many =
      subst (λ (h : Shape). Follows (and_then (and_then (first_value h x.start w.calls env left) (λ v j. declared xs w.calls (with_local (variable x.name h x.changes v) env) j)) (λ now i. and_then (exec_all body w.calls runs now i) (λ last q. Gives last.globals q))) (Finishes from m s) (BreaksOff w outer from m s)) (sym shape)
      (subst (λ (o : Out (List Var)). Follows o (Finishes from m s) (BreaksOff w outer from m s)) (sym (then_then (first_value (Single kind) x.start w.calls env left) (λ v j. declared xs w.calls (with_local (variable x.name (Single kind) x.changes v) env) j) (λ now i. and_then (exec_all body w.calls runs now i) (λ last q. Gives last.globals q))))
      (subst (λ (o : Out Value). Follows (and_then o (λ v j. ends_proc body xs (with_local (variable x.name (Single kind) x.changes v) env) j)) (Finishes from m s) (BreaksOff w outer from m s)) (first_same (Single kind) x.start w.calls env left)
      (follows_then (first_of (Single kind) (optional x.start) w.calls env left) (λ v j. ends_proc body xs (with_local (variable x.name (Single kind) x.changes v) env) j) (Started rs outer w serves open_frames runs kind n k s (base + length a)) (CutShort w (inner ++ outer) outer n k s) (Finishes from m s) (BreaksOff w outer from m s)
      (start_moves rs outer w serves open_frames runs inner kind n (sizes.0 kind shape) up (subst (λ ns. IsStart rs.functions ns kind n (optional x.start) base (n + 1) a k) is first) stack cells env left (stands_left w.code.instrs base a b stands) laid (omega (arith, room, up, more)) holds (may w n m (n + 1) k cells cells (omega arith) more apart room refl))
      (λ v j p.
      let var : Var = variable x.name (Single kind) x.changes v in
      let size_same = p.keeps.size in
      let held : HoldsInside rs outer w.tokens w.low w.high (local x.name kind n ∷ inner) p.cells (with_local var env) =
      local_held rs outer w serves open_frames inner x.name kind n p.cells env x.changes v p.number p.kind p.is p.stands (inside_still rs outer w.tokens w.low w.high n k inner cells p.cells env laid p.keeps holds) in
      let away : AreApart n (n + 1) w.low w.high = ⊎_elim (λ (g : m ≤ w.low). inl (omega (arith, g, up, more))) (λ (g : w.high ≤ n). inr g) apart in
      let deeper : AreLaid rs outer w.tokens w.low w.high k (local x.name kind n ∷ inner) = (n, (omega arith, up), omega (arith, up), sizes.0 kind shape, away, laid) in
      later v j p
      (body_comes_back from body (local x.name kind n ∷ inner) (ap (λ ns. local x.name kind n ∷ ns) is) rest sizes.1 stack p.cells (with_local var env) j (stands_right w.code.instrs base a b stands) deeper (le, all) (omega (arith, le, up))
      (apart_last n k m w.low w.high (omega (arith, up)) apart) (omega (arith, room, size_same)) held (ap suc as_many)))
      (λ d q. record { cells = q.cells; ends = q.ends; keeps = keeps_outer rs outer w.tokens w.low w.high from n k m inner laid all le (omega (arith, up, more)) more q.keeps }))))
    where
      s : State
      s = state base stack open_frames cells left

      up : n + 1 ≤ k
      up = grows_start first

      more : k ≤ m
      more = proc_grows rest

      later : (v : Value) (j : ℕ) (p : Started rs outer w serves open_frames runs kind n k s (base + length a) v j)
          → Follows (ends_proc body xs (with_local (variable x.name (Single kind) x.changes v) env) j) (Finishes from m (state (base + length a) stack open_frames p.cells j)) (BreaksOff w outer from m (state (base + length a) stack open_frames p.cells j))
          → Follows (ends_proc body xs (with_local (variable x.name (Single kind) x.changes v) env) j) (Finishes from m s) (BreaksOff w outer from m s)
      later v j p done =
          let var : Var = variable x.name (Single kind) x.changes v in
          let u : State = state (base + length a) stack open_frames p.cells j in
          let kept : KeepsBut outer from m w.low w.high cells p.cells = record {
            size = p.keeps.size;
            cell = λ c free apart none. p.keeps.cell c (⊎_elim (λ (a : c < from). inl (omega (arith, a, le))) (λ (a : m ≤ c). inr (omega (arith, a, more))) free) apart;
          } in
          follows_more (ends_proc body xs (with_local var env) j) (Finishes from m u) (BreaksOff w outer from m u) (Finishes from m s) (BreaksOff w outer from m s) done
          (λ vars i q. record { cells = q.cells; reaches = reaches_join p.reaches q.reaches; keeps = joins_but kept q.keeps; holds = q.holds })
          (λ d q. record { cells = q.cells; ends = ends_join p.reaches q.ends; keeps = joins_but kept q.keeps })
  body_comes_back from body inner is (local_list names x xs base n k m a b typed first rest) sizes stack cells env left stands laid all le apart room holds as_many =
      subst (λ (o : Out (List Var)). Follows o (Finishes from m s) (BreaksOff w outer from m s)) (sym (then_then (first_value x.shape x.start w.calls env left) (λ v j. declared xs w.calls (with_local (variable x.name x.shape x.changes v) env) j) (λ now i. and_then (exec_all body w.calls runs now i) (λ last q. Gives last.globals q))))
      (subst (λ (o : Out Value). Follows (and_then o (λ v j. ends_proc body xs (with_local (variable x.name x.shape x.changes v) env) j)) (Finishes from m s) (BreaksOff w outer from m s)) (first_same x.shape x.start w.calls env left)
      (follows_then (first_of x.shape (optional x.start) w.calls env left) (λ v j. ends_proc body xs (with_local (variable x.name x.shape x.changes v) env) j) (StartedList rs outer w serves open_frames runs x.shape n k s (base + length a)) (CutShort w (inner ++ outer) outer n k s) (Finishes from m s) (BreaksOff w outer from m s)
      (list_start_moves rs outer w serves open_frames runs inner x.shape n typed (subst (λ ns. IsListStart rs.functions ns x.shape n (optional x.start) base (n + scalars_of_type x.shape) a k) is first) stack cells env left (stands_left w.code.instrs base a b stands) laid (apart_first n k m w.low w.high more apart) (omega (arith, room, more)) holds)
      (λ v j p.
      let var : Var = variable x.name x.shape x.changes v in
      let size_same = p.keeps.size in
      let held : HoldsInside rs outer w.tokens w.low w.high (local_of x.name x.shape n ∷ inner) p.cells (with_local var env) =
      any_held rs outer w serves open_frames inner x.name x.shape n p.cells env x.changes v p.kind p.stands (inside_still rs outer w.tokens w.low w.high n k inner cells p.cells env laid p.keeps holds) in
      let away : AreApart n (n + scalars_of_type x.shape) w.low w.high = ⊎_elim (λ (g : m ≤ w.low). inl (omega (arith, g, up, more))) (λ (g : w.high ≤ n). inr g) apart in
      let deeper : AreLaid rs outer w.tokens w.low w.high k (local_of x.name x.shape n ∷ inner) = (n, (omega arith, up), omega (arith, up), typed, away, laid) in
      later v j p
      (body_comes_back from body (local_of x.name x.shape n ∷ inner) (ap (λ ns. local_of x.name x.shape n ∷ ns) is) rest sizes.1 stack p.cells (with_local var env) j (stands_right w.code.instrs base a b stands) deeper (le, all) (omega (arith, le, up))
      (apart_last n k m w.low w.high (omega (arith, up)) apart) (omega (arith, room, size_same)) held (ap suc as_many)))
      (λ d q. record { cells = q.cells; ends = q.ends; keeps = keeps_outer rs outer w.tokens w.low w.high from n k m inner laid all le (omega (arith, up, more)) more q.keeps })))
    where
      s : State
      s = state base stack open_frames cells left

      up : n + scalars_of_type x.shape ≤ k
      up = grows_list_start first

      more : k ≤ m
      more = proc_grows rest

      later : (v : Value) (j : ℕ) (p : StartedList rs outer w serves open_frames runs x.shape n k s (base + length a) v j)
          → Follows (ends_proc body xs (with_local (variable x.name x.shape x.changes v) env) j) (Finishes from m (state (base + length a) stack open_frames p.cells j)) (BreaksOff w outer from m (state (base + length a) stack open_frames p.cells j))
          → Follows (ends_proc body xs (with_local (variable x.name x.shape x.changes v) env) j) (Finishes from m s) (BreaksOff w outer from m s)
      later v j p done =
          let var : Var = variable x.name x.shape x.changes v in
          let u : State = state (base + length a) stack open_frames p.cells j in
          let kept : KeepsBut outer from m w.low w.high cells p.cells = record {
            size = p.keeps.size;
            cell = λ c free apart none. p.keeps.cell c (⊎_elim (λ (a : c < from). inl (omega (arith, a, le))) (λ (a : m ≤ c). inr (omega (arith, a, more))) free) apart;
          } in
          follows_more (ends_proc body xs (with_local var env) j) (Finishes from m u) (BreaksOff w outer from m u) (Finishes from m s) (BreaksOff w outer from m s) done
          (λ vars i q. record { cells = q.cells; reaches = reaches_join p.reaches q.reaches; keeps = joins_but kept q.keeps; holds = q.holds })
          (λ d q. record { cells = q.cells; ends = ends_join p.reaches q.ends; keeps = joins_but kept q.keeps })

  -- ---- formals

  -- what a procedure sees at first
  pub record Enters (xs : List Local) (ys : List Formal) (vs : Values) (inner : List Name) (from m : ℕ) (cells : List ℤ) (env : Env) : Type 0 where
    pub all : List Name
    pub names_are : behind_formals xs ys (inner ++ outer) ≡ all ++ outer
    pub args : List Var
    pub are : arguments xs vs ≡ Some args
    pub laid : AreLaid rs outer w.tokens w.low w.high m all
    pub starts_at : AreFrom from all
    pub holds : HoldsInside rs outer w.tokens w.low w.high all cells (record { globals = env.globals; locals = args ++ env.locals })
    pub as_many : length (args ++ env.locals) ≡ length all

  pub enters : (xs : List Local) (ys : List Formal) (vs : Values) (inner : List Name) (from n : ℕ) (cells : List ℤ) (env : Env) → StandForFormals xs ys → AreInRow n ys → AreOfSizes ys → HoldArguments ys cells vs → w.high ≤ n → from ≤ n
      → AreLaid rs outer w.tokens w.low w.high n inner → AreFrom from inner → HoldsInside rs outer w.tokens w.low w.high inner cells env → length env.locals ≡ length inner → Enters xs ys vs inner from (n + length ys) cells env
  enters [] [] Nil inner from n cells env h row sizes held far le laid all holds as_many =
      let e : n ≡ n + 0 = omega arith in
      record { all = inner; names_are = refl; args = []; are = refl; laid = subst (λ k. AreLaid rs outer w.tokens w.low w.high k inner) e laid; starts_at = all; holds = holds; as_many = as_many }
  enters [] [] (Cons v vs) inner from n cells env h row sizes held far le laid all holds as_many = absurd held
  enters [] (y ∷ ys) vs inner from n cells env h row sizes held far le laid all holds as_many = absurd h
  enters (x ∷ xs) [] vs inner from n cells env h row sizes held far le laid all holds as_many = absurd h
  enters (x ∷ xs) (y ∷ ys) Nil inner from n cells env h row sizes held far le laid all holds as_many = absurd held
  enters (x ∷ xs) (y ∷ ys) (Cons v vs) inner from n cells env (shape, h) (at, row) (size, sizes) (one, held) far le laid all holds as_many =
      let var : Var = variable x.name x.shape x.changes (stored x.shape v) in
      let front : HoldsInside rs outer w.tokens w.low w.high (local x.name y.kind y.cell ∷ inner) cells (with_local var env) =
      subst (λ (s : Shape). HoldsInside rs outer w.tokens w.low w.high (local x.name y.kind y.cell ∷ inner) cells (with_local (variable x.name s x.changes (stored s v)) env)) (sym shape)
      (local_held rs outer w serves open_frames inner x.name y.kind y.cell cells env x.changes (stored (Single y.kind) v) one.number one.kind one.is one.there holds) in
      let deeper : AreLaid rs outer w.tokens w.low w.high (n + 1) (local x.name y.kind y.cell ∷ inner) =
      (y.cell, (omega arith, omega (arith, at)), omega (arith, at), size, inr (omega (arith, at, far)), subst (λ k. AreLaid rs outer w.tokens w.low w.high k inner) (sym at) laid) in
      let rest : Enters xs ys vs (local x.name y.kind y.cell ∷ inner) from (n + 1 + length ys) cells (with_local var env) =
      enters xs ys vs (local x.name y.kind y.cell ∷ inner) from (n + 1) cells (with_local var env) h row sizes held (omega (arith, far)) (omega (arith, le)) deeper (omega (arith, at, le), all) front (ap suc as_many) in
      let sum : n + 1 + length ys ≡ n + suc (length ys) = omega arith in
      let moved : rest.args ++ var ∷ env.locals ≡ (rest.args ++ var ∷ []) ++ env.locals = sym (append_assoc rest.args (var ∷ []) env.locals) in
      record {
        all = rest.all;
        names_are = rest.names_are;
        args = rest.args ++ var ∷ [];
        are = ap (λ o. option_map (λ vars. vars ++ var ∷ []) o) rest.are;
        laid = subst (λ k. AreLaid rs outer w.tokens w.low w.high k rest.all) sum rest.laid;
        starts_at = rest.starts_at;
        holds = subst (λ ls. HoldsInside rs outer w.tokens w.low w.high rest.all cells (record { globals = env.globals; locals = ls })) moved rest.holds;
        as_many = ap length (sym moved) ∙ rest.as_many;
      }

-- ---- the routine

ends_as_run : (w : World) (globals : List Name) (s : State) (back : ℕ) (frames : List ℕ) (out : Out (List Var)) (o : Outcome) (last : List ℤ) → Follows out (ComesBack w globals s back frames) (BreaksOff w globals 0 0 s) → Ends w.code w.tokens s o last
    → EndsAsRun w globals s back frames out o last
ends_as_run w globals s back frames (Gives vars left) o last p r = (p.cells, p.keeps, p.holds, ends_back o last p.reaches r)
ends_as_run w globals s back frames (Traps c) o last b r =
    let one = one-end w.code w.tokens _ b.cells r b.ends in
    (one.0, subst (λ cells. KeepsBut globals 0 0 w.low w.high s.cells cells) (sym one.1) b.keeps)
ends_as_run w globals s back frames Lacks o last t r = tt
ends_as_run w globals s back frames Clashes o last t r = tt

pub acts_one : (code : Code) (tokens : ℕ → List ℤ) (calls : Calls) (low high : ℕ) (globals : List Name) (rs : Routines) (inner outer : Runs) (p : Proc) (g : Procedure) (base n m : ℕ) (instrs : List Instr) (r : Routine)
    → IsProcRoutine globals rs p g base n instrs m → ProcSized p → Serves (world_of code tokens calls low n) globals rs.functions → ServesRuns (world_of code tokens calls low n) inner globals rs.procedures
    → low ≤ n → m ≤ high → AreBelow low globals → NamesApart globals → AreTyped globals
    → slice_get code.routines g.routine ≡ Some r → r.start ≡ base → StandsAt code.instrs base instrs
    → ((vars : List Var) (args : Values) (left : ℕ) → outer vars g.text args left ≡ performed p calls inner vars args left)
    → ActsAs (world_of code tokens calls low high) outer globals g.text g
acts_one code tokens calls low high globals rs inner outer p g base n m instrs r is sized serves acts le ge below distinct typed at starts stands same = record {
  formals = record { first = n; row = is.row; low_end = le; high_end = omega (arith, up, ge); sizes = sizes_of p.formals g.formals is.formals sized.formals };
  routine = r;
  is = at;
  goes = λ vars args stack back frames cells left room holds held. goes vars args stack back frames cells left room holds held;
  only = λ vars args stack back frames cells left room holds held o last e.
      ends_as_run (world_of code tokens calls low high) globals (state r.start stack (back ∷ frames) cells left) back frames (outer vars g.text args left) o last (goes vars args stack back frames cells left room holds held) e;
}
  where
    up : n + length g.formals ≤ m
    up = proc_grows is.body

    w : World
    w = world_of code tokens calls low n

    globals_apart : AllApart low n globals
    globals_apart text x h = seat_apart x.seat (below text x h)
      where
        seat_apart : (seat : Seat) → SeatIsBelow low (scalars_of_type x.shape) seat → SeatIsApart low n (scalars_of_type x.shape) seat
        seat_apart (Cell c) h = inl h
        seat_apart (Tokens port first step) h = tt

    wider_below : AreBelow n globals
    wider_below text x h = seat_below x.seat (below text x h)
      where
        seat_below : (seat : Seat) → SeatIsBelow low (scalars_of_type x.shape) seat → SeatIsBelow n (scalars_of_type x.shape) seat
        seat_below (Cell c) h = omega (arith, h, le)
        seat_below (Tokens port first step) h = tt

    widen : (before now : List ℤ) → KeepsBut globals n m low n before now → KeepsBut globals 0 0 low high before now
    widen before now keeps = record {
      size = keeps.size;
      cell = λ c free apart none.
          ⊎_elim (λ (a : c + 1 ≤ low). keeps.cell c (inl (omega (arith, a, le))) (inl a) none) (λ (a : high ≤ c). keeps.cell c (inr (omega (arith, a, ge))) (inr (omega (arith, a, ge, up))) none) apart;
    }

    goes : (vars : List Var) (args : Values) (stack : List ℤ) (back : ℕ) (frames : List ℕ) (cells : List ℤ) (left : ℕ) → high ≤ length cells → HoldsVars globals tokens cells (outside vars) → HoldArguments g.formals cells args
        → Follows (outer vars g.text args left) (ComesBack (world_of code tokens calls low high) globals (state r.start stack (back ∷ frames) cells left) back frames) (BreaksOff (world_of code tokens calls low high) globals 0 0 (state r.start stack (back ∷ frames) cells left))
    goes vars args stack back frames cells left room holds held =
        let s : State = state base stack (back ∷ frames) cells left in
        let start : Env = outside vars in
        let e : Enters rs globals w serves inner acts back frames p.formals g.formals args [] n (n + length g.formals) cells start =
        enters rs globals w serves inner acts back frames p.formals g.formals args [] n n cells start is.formals is.row (sizes_of p.formals g.formals is.formals sized.formals) held (omega arith) (omega arith)
        (wider_below, distinct, typed, globals_apart) tt (holds, λ some. (refl, omega (arith, room, up, ge))) refl in
        let entry : Env = record { globals = vars; locals = e.args ++ [] } in
        let body : Follows (ends_proc rs globals w serves inner acts back frames p.body p.locals entry left) (Finishes rs globals w serves inner acts back frames n m s) (BreaksOff w globals n m s) =
        body_comes_back rs globals w serves inner acts back frames n p.body e.all e.names_are is.body sized.locals stack cells entry left stands e.laid e.starts_at (omega arith) (inr (omega arith)) (omega (arith, room, ge)) e.holds e.as_many in
        let wide : World = world_of code tokens calls low high in
        subst (λ (o : Out (List Var)). Follows o (ComesBack wide globals (state r.start stack (back ∷ frames) cells left) back frames) (BreaksOff wide globals 0 0 (state r.start stack (back ∷ frames) cells left))) (sym (same vars args left))
        (subst (λ q. Follows (performed p calls inner vars args left) (ComesBack wide globals (state q stack (back ∷ frames) cells left) back frames) (BreaksOff wide globals 0 0 (state q stack (back ∷ frames) cells left))) (sym starts)
        (subst (λ (o : Option (List Var)). Follows (and_then (and_then (needed o left) (λ vs k. Gives (record { globals = vars; locals = vs }) k)) (λ entry h. and_then (declared p.locals calls entry h) (λ env i. and_then (exec_all p.body calls inner env i) (λ last k. Gives last.globals k))))
        (ComesBack wide globals s back frames) (BreaksOff wide globals 0 0 s)) (sym e.are)
        (subst (λ ls. Follows (and_then (declared p.locals calls (record { globals = vars; locals = ls }) left) (λ env i. and_then (exec_all p.body calls inner env i) (λ last k. Gives last.globals k))) (ComesBack wide globals s back frames) (BreaksOff wide globals 0 0 s)) (append-nil e.args)
        (follows_more (ends_proc rs globals w serves inner acts back frames p.body p.locals entry left) (Finishes rs globals w serves inner acts back frames n m s) (BreaksOff w globals n m s) (ComesBack wide globals s back frames) (BreaksOff wide globals 0 0 s)
        body
        (λ now k q. record { cells = q.cells; reaches = q.reaches; keeps = widen cells q.cells q.keeps; holds = q.holds })
        (λ c q. record { cells = q.cells; ends = q.ends; keeps = widen cells q.cells q.keeps })))))

-- ---- all routines

-- the last of the procedures is found if none before it has the name
named_last : (text : List ℕ) (ps : List Procedure) (g h : Procedure) → procedure_named text (ps ++ g ∷ []) ≡ Some h → (procedure_named text ps ≡ Some h) ⊎ ((g ≡ h) × (bytes_eq g.text text ≡ true))
named_last text [] g h e = by (bytes_eq g.text text) refl e
  where
    by : (b : Bool) → bytes_eq g.text text ≡ b → (if b then Some g else None) ≡ Some h → (procedure_named text [] ≡ Some h) ⊎ ((g ≡ h) × (bytes_eq g.text text ≡ true))
    by true f i = inr (cc, f)
    by false f i = cc
named_last text (x ∷ ps) g h e = by (bytes_eq x.text text) e (named_last text ps g h)
  where
    by : (b : Bool) → (if b then Some x else procedure_named text (ps ++ g ∷ [])) ≡ Some h → (procedure_named text (ps ++ g ∷ []) ≡ Some h → (procedure_named text ps ≡ Some h) ⊎ ((g ≡ h) × (bytes_eq g.text text ≡ true)))
        → ((if b then Some x else procedure_named text ps) ≡ Some h) ⊎ ((g ≡ h) × (bytes_eq g.text text ≡ true))
    by true i later = inl i
    by false i later = later i

pub procs_low : {globals : List Name} {whole : Code} {funs : List Fun} {procs : List Proc} {low : ℕ} {fs : List Function} {ps : List Procedure} {n : ℕ} → AreProcRoutines globals whole funs procs low fs ps n → low ≤ n
procs_low (no_procedure n are) = routines_low are
procs_low (procedure_more ps p g r base n m code before is named sized at starts stands) = let h = procs_low before in let u = proc_grows is.body in omega (arith, h, u)

pub functions_served : (globals : List Name) (whole : Code) (tokens : ℕ → List ℤ) (funs : List Fun) (procs : List Proc) (low : ℕ) (fs : List Function) → AreBelow low globals → {ps : List Procedure} {n : ℕ} (high : ℕ)
    → AreProcRoutines globals whole funs procs low fs ps n → n ≤ high → Serves (world_of whole tokens (calls_of funs) low high) globals fs
functions_served globals whole tokens funs procs low fs below high (no_procedure n are) le = served_within globals whole tokens funs low below (length funs) high are le
functions_served globals whole tokens funs procs low fs below high (procedure_more ps p g r base n m code before is named sized at starts stands) le =
    let u = proc_grows is.body in functions_served globals whole tokens funs procs low fs below high before (omega (arith, u, le))

module _ (globals : List Name) (whole : Code) (tokens : ℕ → List ℤ) (funs : List Fun) (procs : List Proc) (low : ℕ) (fs : List Function) (below : AreBelow low globals) (distinct : NamesApart globals) (typed : AreTyped globals) where
  same_text : (high : ℕ) (runs : Runs) (text : List ℕ) (g h : Procedure) → g ≡ h → bytes_eq g.text text ≡ true → ActsAs (world_of whole tokens (calls_of funs) low high) runs globals g.text g → ActsAs (world_of whole tokens (calls_of funs) low high) runs globals text h
  same_text high runs text g h e f a =
      subst (λ (x : Procedure). ActsAs (world_of whole tokens (calls_of funs) low high) runs globals text x) e (subst (λ t. ActsAs (world_of whole tokens (calls_of funs) low high) runs globals t g) ((bytes_eq-Decides g.text text).0 f) a)

  -- a routine for a procedure of which nothing is asked
  acts_none : (high : ℕ) (rs : Routines) (p : Proc) (g : Procedure) (base n m : ℕ) (code : List Instr) (r : Routine) → IsProcRoutine globals rs p g base n code m → ProcSized p → low ≤ n → m ≤ high → slice_get whole.routines g.routine ≡ Some r
      → ActsAs (world_of whole tokens (calls_of funs) low high) (λ vars text args left. Lacks) globals g.text g
  acts_none high rs p g base n m code r is sized le ge at =
      let up = proc_grows is.body in
      record {
        formals = record { first = n; row = is.row; low_end = le; high_end = omega (arith, up, ge); sizes = sizes_of p.formals g.formals is.formals sized.formals };
        routine = r;
        is = at;
        goes = λ vars args stack back frames cells left room holds held. tt;
        only = λ vars args stack back frames cells left room holds held o last e. tt;
      }

  pub acts_within : (k : ℕ) {ps : List Procedure} {n : ℕ} (high : ℕ) → AreProcRoutines globals whole funs procs low fs ps n → n ≤ high → ServesRuns (world_of whole tokens (calls_of funs) low high) (runs_within k procs (calls_of funs)) globals ps
  acts_within k high (no_procedure n are) le text h e = cc
  acts_within zero high (procedure_more ps p g r base n m code before is named sized at starts stands) le text h e =
      let up = proc_grows is.body in
      ⊎_elim (λ (i : procedure_named text ps ≡ Some h). acts_within zero high before (omega (arith, up, le)) text h i)
      (λ (i : (g ≡ h) × (bytes_eq g.text text ≡ true)). same_text high (runs_within zero procs (calls_of funs)) text g h i.0 i.1 (acts_none high (record { functions = fs; procedures = ps }) p g base n m code r is sized (procs_low before) le at))
      (named_last text ps g h e)
  acts_within (suc k) high (procedure_more ps p g r base n m code before is named sized at starts stands) le text h e =
      let up = proc_grows is.body in
      let rs : Routines = record { functions = fs; procedures = ps } in
      ⊎_elim (λ (i : procedure_named text ps ≡ Some h). acts_within (suc k) high before (omega (arith, up, le)) text h i)
      (λ (i : (g ≡ h) × (bytes_eq g.text text ≡ true)). same_text high (runs_within (suc k) procs (calls_of funs)) text g h i.0 i.1
      (acts_one whole tokens (calls_of funs) low high globals rs (runs_within k procs (calls_of funs)) (runs_within (suc k) procs (calls_of funs)) p g base n m code r is sized (functions_served globals whole tokens funs procs low fs below n before (omega arith)) (acts_within k n before (omega arith))
      (procs_low before) le below distinct typed at starts stands
      (λ vars args left. ap (λ (o : Option Proc). elim o [ None ↦ Lacks | Some x ↦ performed x (calls_of funs) (runs_within k procs (calls_of funs)) vars args left ]) (ap (λ t. proc_named t procs) is.text ∙ named))))
      (named_last text ps g h e)
