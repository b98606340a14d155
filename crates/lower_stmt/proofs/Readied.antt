-- Code of statements that call executes them.
use Rattle.std.proofs.Common.{◌≡◌, ℕ, suc, ◌+◌, ◌≤◌, ℤ, List, [], ◌∷◌, ◌++◌, length, refl, sym, ap, ◌∙◌, subst, arith}
use Rattle.cal_ast.specs.Tree.{Tree}
use Rattle.cal_model.specs.Outcome.{Out, Gives, Traps, Lacks, Clashes}
use Rattle.cal_model.specs.Env.{Var, Env, with_local}
use Rattle.cal_model.specs.Statement.{Runs, exec_all}
use Rattle.code_ir.specs.declared.instr.Instr.{Instr}
use Rattle.code_ir.specs.declared.outcome.Outcome.{Outcome}
use Rattle.code_ir.specs.Running.{State, Ends}
use Rattle.code_ir.proofs.Ends.{one-end}
use Rattle.lower_base.specs.declared.draft.Draft.{Draft}
use Rattle.lower_base.specs.Calling.{outside}
use Rattle.lower_base.specs.Following.{Follows}
use Rattle.lower_base.specs.Held.{AreBelow}
use Rattle.lower_base.specs.Lowered.{Adds}
use Rattle.lower_base.specs.Names.{Name}
use Rattle.lower_base.specs.Placed.{StandsAt, World, state}
use Rattle.lower_base.proofs.Runs.{ends_back, follows_more}
use Rattle.lower_stmt.specs.Bodies.{CutShort, EndsOn, ExecutesCalling, GoesOn, HoldLocals, IsExecutedCalling, IsReady, KeepsOver}
use Rattle.lower_stmt.specs.Changing.{AreTyped, HoldsVars}
use Rattle.lower_stmt.specs.Procedures.{Routines}
use Rattle.lower_stmt.specs.Stating.{AreStmts}
use Rattle.lower_stmt.proofs.AllowedStmts.{all_allowed}
use Rattle.lower_stmt.proofs.Executed.{grows_all, performs_all}
use Rattle.lower_stmt.proofs.FittedStmts.{fits_all}
use Rattle.lower_stmt.proofs.Performing.{Moves}
use Rattle.lower_stmt.proofs.ProcServed.{globals_behind}
use Rattle.lower_stmt.proofs.Scoping.{HoldsInside}

module _ (rs : Routines) (globals : List Name) (tokens : ℕ → List ℤ) (low high : ℕ) where
  inside_from : (locals : List Name) (vs gs : List Var) (cells : List ℤ) → HoldLocals locals tokens cells vs → HoldsVars globals tokens cells (outside gs) → high ≤ length cells
      → HoldsInside rs globals tokens low high locals cells (record { globals = gs; locals = vs })
  inside_from [] [] gs cells h held room = (held, λ some. (refl, room))
  inside_from [] (v ∷ vs) gs cells h held room = absurd h
  inside_from (x ∷ xs) [] gs cells h held room = absurd h
  inside_from (x ∷ xs) (v ∷ vs) gs cells h held room = (v, record { globals = gs; locals = vs }, refl, h.0, inside_from xs vs gs cells h.1 held room)

  as_many_locals : (locals : List Name) (vs : List Var) (cells : List ℤ) → HoldLocals locals tokens cells vs → length vs ≡ length locals
  as_many_locals [] [] cells h = refl
  as_many_locals [] (v ∷ vs) cells h = absurd h
  as_many_locals (x ∷ xs) [] cells h = absurd h
  as_many_locals (x ∷ xs) (v ∷ vs) cells h = ap suc (as_many_locals xs vs cells h.1)

  held_locals : (locals : List Name) (cells : List ℤ) (env : Env) → HoldsInside rs globals tokens low high locals cells env → length env.locals ≡ length locals → HoldLocals locals tokens cells env.locals
  held_locals [] cells env h size = subst (λ ls. HoldLocals [] tokens cells ls) (sym (no_more env.locals size)) tt
    where
      no_more : (xs : List Var) → length xs ≡ 0 → xs ≡ []
      no_more [] e = refl
      no_more (x ∷ xs) e = cc
  held_locals (x ∷ locals) cells env (v, rest, is, var, below) size =
      let count : length (with_local v rest).locals ≡ suc (length locals) = ap (λ (e : Env). length e.locals) (sym is) ∙ size in
      subst (λ ls. HoldLocals (x ∷ locals) tokens cells ls) (sym (ap (λ (e : Env). e.locals) is)) (var, held_locals locals cells rest below (omega (arith, count)))

ends_on : (w : World) (globals locals : List Name) (n m : ℕ) (s : State) (end : ℕ) (out : Out Env) (o : Outcome) (last : List ℤ) → Follows out (GoesOn w globals locals n m s end) (CutShort w (locals ++ globals) globals n m s) → Ends w.code w.tokens s o last
    → EndsOn w globals locals n m s end out o last
ends_on w globals locals n m s end (Gives env left) o last p r = (p.cells, p.keeps, p.holds, ends_back o last p.reaches r)
ends_on w globals locals n m s end (Traps c) o last b r =
    let one = one-end w.code w.tokens _ b.cells r b.ends in
    (one.0, subst (λ cells. KeepsOver (locals ++ globals) globals n m w.low w.high s.cells cells) (sym one.1) b.keeps)
ends_on w globals locals n m s end Lacks o last t r = tt
ends_on w globals locals n m s end Clashes o last t r = tt

executes_calling : (rs : Routines) (names : List Name) (body : Tree) (base n m : ℕ) (code : List Instr) → AreStmts rs names body base n code m → ExecutesCalling rs names body base n m code
executes_calling rs names body base n m code coded = record {
  goes = λ w runs globals locals env stack frames cells left is stands ready. arrives w runs globals locals env stack frames cells left is stands ready;
  only = λ w runs globals locals env stack frames cells left is stands ready o last r.
      ends_on w globals locals n m (state base stack frames cells left) (base + length code) (exec_all body w.calls runs env left) o last (arrives w runs globals locals env stack frames cells left is stands ready) r;
}
  where
    arrives : (w : World) (runs : Runs) (globals locals : List Name) (env : Env) (stack : List ℤ) (frames : List ℕ) (cells : List ℤ) (left : ℕ) → names ≡ locals ++ globals → StandsAt w.code.instrs base code → IsReady rs w runs globals locals n m cells env
        → Follows (exec_all body w.calls runs env left) (GoesOn w globals locals n m (state base stack frames cells left) (base + length code)) (CutShort w (locals ++ globals) globals n m (state base stack frames cells left))
    arrives w runs globals locals env stack frames cells left is stands ready =
        let s : State = state base stack frames cells left in
        let many : length env.locals ≡ length locals = as_many_locals rs globals w.tokens w.low w.high locals env.locals cells ready.holds.0 in
        follows_more (exec_all body w.calls runs env left) (Moves rs globals w ready.functions frames locals n m s (base + length code) (length env.locals)) (CutShort w (locals ++ globals) globals n m s) (GoesOn w globals locals n m s (base + length code)) (CutShort w (locals ++ globals) globals n m s)
        (performs_all rs globals w ready.functions frames runs ready.procedures locals is coded stack cells env left stands ready.laid ready.apart ready.room (inside_from rs globals w.tokens w.low w.high locals env.locals env.globals cells ready.holds.0 ready.holds.1 ready.routine_room))
        (λ next j p. record {
          cells = p.cells;
          reaches = p.reaches;
          keeps = p.keeps;
          holds = (
            held_locals rs globals w.tokens w.low w.high locals p.cells next p.holds (p.as_many ∙ many),
            globals_behind rs globals w.tokens w.low w.high locals p.cells next p.holds (p.as_many ∙ many),
          );
        })
        (λ c q. q)

pub executed_calling : (rs : Routines) (names : List Name) (body : Tree) (old new : Draft) → AreBelow old.cells names → AreTyped names → Adds (AreStmts rs names body) old new → Adds (IsExecutedCalling rs names body) old new
executed_calling rs names body old new below typed a = record {
  code = a.code;
  is = a.is;
  routines = a.routines;
  has = record {
    cells = grows_all a.has;
    executes = executes_calling rs names body (length old.instrs.items) old.cells new.cells a.code a.has;
    fits = λ whole callable h has stands. fits_all whole callable new.cells rs has h below typed (omega arith) stands a.has;
    allowed = λ bounds procs known h changes ok. all_allowed bounds rs procs known h changes ok a.has;
  };
}
