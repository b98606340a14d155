-- Code of locals does what declaring them does.
use Rattle.std.proofs.Common.{◌≡◌, ℕ, suc, ◌+◌, ◌≤◌, inl, inr, ⊎_elim, ℤ, List, [], ◌∷◌, ◌++◌, length, refl, sym, ap, ◌∙◌, subst, None, Some, arith, length-append}
use Rattle.cal_ast.specs.View.{optional}
use Rattle.cal_model.specs.Actor.{Local}
use Rattle.cal_model.specs.Call.{declared, first_value}
use Rattle.cal_model.specs.Env.{Env, Var, variable, with_local}
use Rattle.cal_model.specs.Outcome.{Out, Gives, Traps, Lacks, Clashes, and_then}
use Rattle.cal_model.specs.Statement.{Runs, first_of}
use Rattle.cal_model.specs.Value.{Shape, Single, Value, scalars_of_type}
use Rattle.cal_ast.specs.Tree.{Tree}
use Rattle.std.specs.Prelude.{Option}
use Rattle.cal_model.specs.Expression.{Calls}
use Rattle.code_ir.specs.declared.instr.Instr.{Instr}
use Rattle.code_ir.specs.declared.outcome.Outcome.{Outcome}
use Rattle.code_ir.specs.Running.{State, Reaches, Ends, here}
use Rattle.code_ir.proofs.Ends.{one-end}
use Rattle.lower_base.specs.Calling.{Serves, outside}
use Rattle.lower_base.specs.Following.{Follows}
use Rattle.lower_base.specs.Held.{AreApart, Keeps}
use Rattle.lower_base.specs.Names.{Name, local}
use Rattle.lower_base.specs.Placed.{StandsAt, World, state}
use Rattle.lower_base.specs.Routining.{LocalsSized}
use Rattle.lower_base.specs.Starting.{IsStart}
use Rattle.lower_base.proofs.Keeping.{apart_first, apart_last, keeps_all, keeps_join, keeps_wider}
use Rattle.lower_base.proofs.Runs.{ends_back, ends_join, follows_more, follows_then, reaches_join, stands_left, stands_right}
use Rattle.lower_stmt.specs.Bodies.{CutShort, HoldLocals, IsReady, KeepsOver}
use Rattle.lower_stmt.specs.Changing.{HoldsVars}
use Rattle.lower_stmt.specs.Procedures.{Routines}
use Rattle.lower_stmt.proofs.Blocking.{Started, start_moves}
use Rattle.lower_stmt.specs.ListStarting.{IsListStart, local_of}
use Rattle.lower_stmt.proofs.Evaluating.{may}
use Rattle.lower_stmt.proofs.Executed.{grows_start}
use Rattle.lower_stmt.proofs.ListStarting.{StartedList, grows_list_start, list_start_moves}
use Rattle.lower_stmt.proofs.Locals.{any_held, but_any, but_local, local_held}
use Rattle.lower_stmt.proofs.Performing.{but_join, but_wider, keeps_but}
use Rattle.lower_stmt.proofs.ProcServed.{globals_behind}
use Rattle.lower_stmt.proofs.Scoping.{AreLaid, HoldsInside, inside_still}
use Rattle.action_lower.specs.LocalCode.{AreStarted, EndsStarted, Starts, StartsAs, list_more, none_started, start_more}

pub started_grows : (rs : Routines) {names behind : List Name} {xs : List Local} {base n m : ℕ} {code : List Instr} → AreStarted rs.functions names xs behind base n code m → n ≤ m
started_grows rs (none_started names base n) = omega arith
started_grows rs (start_more names behind x others t base n k m a b shape first rest) = let g = grows_start first in let h = started_grows rs rest in omega (arith, g, h)
started_grows rs (list_more names behind x others base n k m a b typed first rest) = let g = grows_list_start first in let h = started_grows rs rest in omega (arith, g, h)

-- a value at first, in the words of a block
first_same : (t : Shape) (start : Option Tree) (calls : Calls) (env : Env) (left : ℕ) → first_of t (optional start) calls env left ≡ first_value t start calls env left
first_same t None calls env left = refl
first_same t (Some e) calls env left = refl

-- ---- locals of an environment and the names of their cells

module _ (rs : Routines) (globals : List Name) (tokens : ℕ → List ℤ) (low high : ℕ) where
  pub inside_from : (locals : List Name) (vs gs : List Var) (cells : List ℤ) → HoldLocals locals tokens cells vs → HoldsVars globals tokens cells (outside gs) → high ≤ length cells
      → HoldsInside rs globals tokens low high locals cells (record { globals = gs; locals = vs })
  inside_from [] [] gs cells h held room = (held, λ some. (refl, room))
  inside_from [] (v ∷ vs) gs cells h held room = absurd h
  inside_from (x ∷ xs) [] gs cells h held room = absurd h
  inside_from (x ∷ xs) (v ∷ vs) gs cells h held room = (v, record { globals = gs; locals = vs }, refl, h.0, inside_from xs vs gs cells h.1 held room)

  pub as_many_locals : (locals : List Name) (vs : List Var) (cells : List ℤ) → HoldLocals locals tokens cells vs → length vs ≡ length locals
  as_many_locals [] [] cells h = refl
  as_many_locals [] (v ∷ vs) cells h = absurd h
  as_many_locals (x ∷ xs) [] cells h = absurd h
  as_many_locals (x ∷ xs) (v ∷ vs) cells h = ap suc (as_many_locals xs vs cells h.1)

  pub held_locals : (locals : List Name) (cells : List ℤ) (env : Env) → HoldsInside rs globals tokens low high locals cells env → length env.locals ≡ length locals → HoldLocals locals tokens cells env.locals
  held_locals [] cells env h size = subst (λ ls. HoldLocals [] tokens cells ls) (sym (no_more env.locals size)) tt
    where
      no_more : (xs : List Var) → length xs ≡ 0 → xs ≡ []
      no_more [] e = refl
      no_more (x ∷ xs) e = cc
  held_locals (x ∷ locals) cells env (v, rest, is, var, below) size =
      let count : length (with_local v rest).locals ≡ suc (length locals) = ap (λ (e : Env). length e.locals) (sym is) ∙ size in
      subst (λ ls. HoldLocals (x ∷ locals) tokens cells ls) (sym (ap (λ (e : Env). e.locals) is)) (var, held_locals locals cells rest below (omega (arith, count)))

-- ---- runs

module _ (rs : Routines) (outer : List Name) (w : World) (serves : Serves w outer rs.functions) (frames : List ℕ) (runs : Runs) where
  -- the run goes on to a place, with cells that hold the locals and the names outside
  record Inner (behind : List Name) (n m : ℕ) (s : State) (end : ℕ) (env : Env) (left : ℕ) : Type 0 where
    inner : List Name
    are : behind ≡ inner ++ outer
    cells : List ℤ
    reaches : Reaches w.code w.tokens s (state end s.stack s.frames cells left)
    keeps : Keeps n m w.low w.high s.cells cells
    laid : AreLaid rs outer w.tokens w.low w.high m inner
    holds : HoldsInside rs outer w.tokens w.low w.high inner cells env
    as_many : length env.locals ≡ length inner

  locals_move : (inner : List Name) {names behind : List Name} {xs : List Local} {base n m : ℕ} {code : List Instr} → names ≡ inner ++ outer → AreStarted rs.functions names xs behind base n code m → LocalsSized xs
      → (stack cells : List ℤ) (env : Env) (left : ℕ) → StandsAt w.code.instrs base code → AreLaid rs outer w.tokens w.low w.high n inner → AreApart n m w.low w.high → m ≤ length cells
      → HoldsInside rs outer w.tokens w.low w.high inner cells env → length env.locals ≡ length inner
      → Follows (declared xs w.calls env left) (Inner behind n m (state base stack frames cells left) (base + length code)) (CutShort w (inner ++ outer) outer n m (state base stack frames cells left))
  locals_move inner is (none_started names base n) sizes stack cells env left stands laid apart room holds as_many =
      let same : base ≡ base + 0 = omega arith in
      record {
        inner = inner;
        are = is;
        cells = cells;
        reaches = subst (λ p. Reaches w.code w.tokens (state base stack frames cells left) (state p stack frames cells left)) same here;
        keeps = keeps_all n n w.low w.high cells;
        laid = laid;
        holds = holds;
        as_many = as_many;
      }
  locals_move inner {behind = behind} is (start_more names _ x xs kind base n k m a b shape first rest) sizes stack cells env left stands laid apart room holds as_many =
      subst (λ (h : Shape). Follows (and_then (first_value h x.start w.calls env left) (λ v j. declared xs w.calls (with_local (variable x.name h x.changes v) env) j)) (Inner behind n m s end) (CutShort w (inner ++ outer) outer n m s)) (sym shape)
      (subst (λ (o : Out Value). Follows (and_then o (λ v j. declared xs w.calls (with_local (variable x.name (Single kind) x.changes v) env) j)) (Inner behind n m s end) (CutShort w (inner ++ outer) outer n m s)) (first_same (Single kind) x.start w.calls env left)
      (follows_then (first_of (Single kind) (optional x.start) w.calls env left) (λ v j. declared xs w.calls (with_local (variable x.name (Single kind) x.changes v) env) j) (Started rs outer w serves frames runs kind n k s (base + length a)) (CutShort w (inner ++ outer) outer n k s)
      (Inner behind n m s end) (CutShort w (inner ++ outer) outer n m s)
      (start_moves rs outer w serves frames runs inner kind n (sizes.0 kind shape) up (subst (λ ns. IsStart rs.functions ns kind n (optional x.start) base (n + 1) a k) is first) stack cells env left (stands_left w.code.instrs base a b stands) laid (omega (arith, room, up, more)) holds (may w n m (n + 1) k cells cells (omega arith) more apart room refl))
      (λ v j p.
      let var : Var = variable x.name (Single kind) x.changes v in
      let size_same = p.keeps.size in
      let held : HoldsInside rs outer w.tokens w.low w.high (local x.name kind n ∷ inner) p.cells (with_local var env) =
      local_held rs outer w serves frames inner x.name kind n p.cells env x.changes v p.number p.kind p.is p.stands (inside_still rs outer w.tokens w.low w.high n k inner cells p.cells env laid p.keeps holds) in
      let away : AreApart n (n + 1) w.low w.high = ⊎_elim (λ (g : m ≤ w.low). inl (omega (arith, g, up, more))) (λ (g : w.high ≤ n). inr g) apart in
      let deeper : AreLaid rs outer w.tokens w.low w.high k (local x.name kind n ∷ inner) = (n, (omega arith, up), omega (arith, up), sizes.0 kind shape, away, laid) in
      later v j p
      (locals_move (local x.name kind n ∷ inner) (ap (λ ns. local x.name kind n ∷ ns) is) rest sizes.1 stack p.cells (with_local var env) j (stands_right w.code.instrs base a b stands) deeper
      (apart_last n k m w.low w.high (omega (arith, up)) apart) (omega (arith, room, size_same)) held (ap suc as_many)))
      (λ d q. record { cells = q.cells; ends = q.ends; keeps = but_wider n m (omega arith) more q.keeps })))
    where
      s : State
      s = state base stack frames cells left

      end : ℕ
      end = base + length (a ++ b)

      finish : base + length a + length b ≡ end
      finish = omega (arith, length-append a b)

      up : n + 1 ≤ k
      up = grows_start first

      more : k ≤ m
      more = started_grows rs rest

      later : (v : Value) (j : ℕ) (p : Started rs outer w serves frames runs kind n k s (base + length a) v j)
          → Follows (declared xs w.calls (with_local (variable x.name (Single kind) x.changes v) env) j) (Inner behind k m (state (base + length a) stack frames p.cells j) (base + length a + length b))
          (CutShort w ((local x.name kind n ∷ inner) ++ outer) outer k m (state (base + length a) stack frames p.cells j))
          → Follows (declared xs w.calls (with_local (variable x.name (Single kind) x.changes v) env) j) (Inner behind n m s end) (CutShort w (inner ++ outer) outer n m s)
      later v j p done =
          let var : Var = variable x.name (Single kind) x.changes v in
          let u : State = state (base + length a) stack frames p.cells j in
          follows_more (declared xs w.calls (with_local var env) j) (Inner behind k m u (base + length a + length b)) (CutShort w ((local x.name kind n ∷ inner) ++ outer) outer k m u) (Inner behind n m s end) (CutShort w (inner ++ outer) outer n m s) done
          (λ now i q. record {
            inner = q.inner;
            are = q.are;
            cells = q.cells;
            reaches = subst (λ p. Reaches w.code w.tokens s (state p stack frames q.cells i)) finish (reaches_join p.reaches q.reaches);
            keeps = keeps_join (keeps_wider n m (omega arith) more p.keeps) (keeps_wider n m (omega (arith, up)) (omega arith) q.keeps);
            laid = q.laid;
            holds = q.holds;
            as_many = q.as_many;
          })
          (λ d q. record {
            cells = q.cells;
            ends = ends_join p.reaches q.ends;
            keeps = but_join (but_wider n m (omega arith) more (keeps_but (inner ++ outer) p.keeps)) (but_local (inner ++ outer) x.name kind n n k m w.low w.high p.cells q.cells (omega arith) (omega (arith, up, more)) (omega (arith, up)) q.keeps);
          })
  locals_move inner {behind = behind} is (list_more names _ x xs base n k m a b typed first rest) sizes stack cells env left stands laid apart room holds as_many =
      subst (λ (o : Out Value). Follows (and_then o (λ v j. declared xs w.calls (with_local (variable x.name x.shape x.changes v) env) j)) (Inner behind n m s end) (CutShort w (inner ++ outer) outer n m s)) (first_same x.shape x.start w.calls env left)
      (follows_then (first_of x.shape (optional x.start) w.calls env left) (λ v j. declared xs w.calls (with_local (variable x.name x.shape x.changes v) env) j) (StartedList rs outer w serves frames runs x.shape n k s (base + length a)) (CutShort w (inner ++ outer) outer n k s)
      (Inner behind n m s end) (CutShort w (inner ++ outer) outer n m s)
      (list_start_moves rs outer w serves frames runs inner x.shape n typed (subst (λ ns. IsListStart rs.functions ns x.shape n (optional x.start) base (n + scalars_of_type x.shape) a k) is first) stack cells env left (stands_left w.code.instrs base a b stands) laid (apart_first n k m w.low w.high more apart) (omega (arith, room, more)) holds)
      (λ v j p.
      let var : Var = variable x.name x.shape x.changes v in
      let size_same = p.keeps.size in
      let held : HoldsInside rs outer w.tokens w.low w.high (local_of x.name x.shape n ∷ inner) p.cells (with_local var env) =
      any_held rs outer w serves frames inner x.name x.shape n p.cells env x.changes v p.kind p.stands (inside_still rs outer w.tokens w.low w.high n k inner cells p.cells env laid p.keeps holds) in
      let away : AreApart n (n + scalars_of_type x.shape) w.low w.high = ⊎_elim (λ (g : m ≤ w.low). inl (omega (arith, g, up, more))) (λ (g : w.high ≤ n). inr g) apart in
      let deeper : AreLaid rs outer w.tokens w.low w.high k (local_of x.name x.shape n ∷ inner) = (n, (omega arith, up), omega (arith, up), typed, away, laid) in
      later v j p
      (locals_move (local_of x.name x.shape n ∷ inner) (ap (λ ns. local_of x.name x.shape n ∷ ns) is) rest sizes.1 stack p.cells (with_local var env) j (stands_right w.code.instrs base a b stands) deeper
      (apart_last n k m w.low w.high (omega (arith, up)) apart) (omega (arith, room, size_same)) held (ap suc as_many)))
      (λ d q. record { cells = q.cells; ends = q.ends; keeps = but_wider n m (omega arith) more q.keeps }))
    where
      s : State
      s = state base stack frames cells left

      end : ℕ
      end = base + length (a ++ b)

      finish : base + length a + length b ≡ end
      finish = omega (arith, length-append a b)

      up : n + scalars_of_type x.shape ≤ k
      up = grows_list_start first

      more : k ≤ m
      more = started_grows rs rest

      later : (v : Value) (j : ℕ) (p : StartedList rs outer w serves frames runs x.shape n k s (base + length a) v j)
          → Follows (declared xs w.calls (with_local (variable x.name x.shape x.changes v) env) j) (Inner behind k m (state (base + length a) stack frames p.cells j) (base + length a + length b))
          (CutShort w ((local_of x.name x.shape n ∷ inner) ++ outer) outer k m (state (base + length a) stack frames p.cells j))
          → Follows (declared xs w.calls (with_local (variable x.name x.shape x.changes v) env) j) (Inner behind n m s end) (CutShort w (inner ++ outer) outer n m s)
      later v j p done =
          let var : Var = variable x.name x.shape x.changes v in
          let u : State = state (base + length a) stack frames p.cells j in
          follows_more (declared xs w.calls (with_local var env) j) (Inner behind k m u (base + length a + length b)) (CutShort w ((local_of x.name x.shape n ∷ inner) ++ outer) outer k m u) (Inner behind n m s end) (CutShort w (inner ++ outer) outer n m s) done
          (λ now i q. record {
            inner = q.inner;
            are = q.are;
            cells = q.cells;
            reaches = subst (λ p. Reaches w.code w.tokens s (state p stack frames q.cells i)) finish (reaches_join p.reaches q.reaches);
            keeps = keeps_join (keeps_wider n m (omega arith) more p.keeps) (keeps_wider n m (omega (arith, up)) (omega arith) q.keeps);
            laid = q.laid;
            holds = q.holds;
            as_many = q.as_many;
          })
          (λ d q. record {
            cells = q.cells;
            ends = ends_join p.reaches q.ends;
            keeps = but_join (but_wider n m (omega arith) more (keeps_but (inner ++ outer) p.keeps)) (but_any (inner ++ outer) x.name x.shape n n k m w.low w.high p.cells q.cells (omega arith) (omega (arith, up, more)) (omega (arith, up)) q.keeps);
          })

-- ---- both directions

ends_started : (w : World) (globals names behind : List Name) (n m : ℕ) (s : State) (end : ℕ) (out : Out Env) (o : Outcome) (last : List ℤ) → Follows out (Starts w globals behind n m s end) (CutShort w names globals n m s) → Ends w.code w.tokens s o last
    → EndsStarted w globals names behind n m s end out o last
ends_started w globals names behind n m s end (Gives env left) o last p r = (p, ends_back o last p.reaches r)
ends_started w globals names behind n m s end (Traps c) o last b r =
    let one = one-end w.code w.tokens _ b.cells r b.ends in
    (one.0, subst (λ cells. KeepsOver names globals n m w.low w.high s.cells cells) (sym one.1) b.keeps)
ends_started w globals names behind n m s end Lacks o last t r = tt
ends_started w globals names behind n m s end Clashes o last t r = tt

pub starts_as : (rs : Routines) (names : List Name) (xs : List Local) (behind : List Name) (base n m : ℕ) (code : List Instr) → AreStarted rs.functions names xs behind base n code m → StartsAs rs names xs behind base n m code
starts_as rs names xs behind base n m code coded = record {
  goes = λ w runs globals locals env stack frames cells left is stands sizes ready. arrives w runs globals locals env stack frames cells left is stands sizes ready;
  only = λ w runs globals locals env stack frames cells left is stands sizes ready o last r.
      ends_started w globals names behind n m (state base stack frames cells left) (base + length code) (declared xs w.calls env left) o last (arrives w runs globals locals env stack frames cells left is stands sizes ready) r;
}
  where
    arrives : (w : World) (runs : Runs) (globals locals : List Name) (env : Env) (stack : List ℤ) (frames : List ℕ) (cells : List ℤ) (left : ℕ) → names ≡ locals ++ globals → StandsAt w.code.instrs base code → LocalsSized xs
        → IsReady rs w runs globals locals n m cells env
        → Follows (declared xs w.calls env left) (Starts w globals behind n m (state base stack frames cells left) (base + length code)) (CutShort w names globals n m (state base stack frames cells left))
    arrives w runs globals locals env stack frames cells left is stands sizes ready =
        let s : State = state base stack frames cells left in
        let many : length env.locals ≡ length locals = as_many_locals rs globals w.tokens w.low w.high locals env.locals cells ready.holds.0 in
        follows_more (declared xs w.calls env left) (Inner rs globals w ready.functions frames runs behind n m s (base + length code)) (CutShort w (locals ++ globals) globals n m s) (Starts w globals behind n m s (base + length code)) (CutShort w names globals n m s)
        (locals_move rs globals w ready.functions frames runs locals is coded sizes stack cells env left stands ready.laid ready.apart ready.room (inside_from rs globals w.tokens w.low w.high locals env.locals env.globals cells ready.holds.0 ready.holds.1 ready.routine_room) many)
        (λ now j p. record {
          locals = p.inner;
          are = p.are;
          cells = p.cells;
          reaches = p.reaches;
          keeps = p.keeps;
          laid = p.laid;
          holds = (
            held_locals rs globals w.tokens w.low w.high p.inner p.cells now p.holds p.as_many,
            globals_behind rs globals w.tokens w.low w.high p.inner p.cells now p.holds p.as_many,
          );
        })
        (λ c q. subst (λ ns. CutShort w ns globals n m s c) (sym is) q)
