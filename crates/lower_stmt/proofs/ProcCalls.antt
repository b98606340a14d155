-- A call of a procedure does what the procedure does.
use Rattle.std.proofs.Common.{◌≡◌, ◌≢◌, ℕ, zero, suc, ◌+◌, ◌<◌, ◌≤◌, inl, inr, ⊎_elim, ℤ, List, [], ◌∷◌, ◌++◌, length, Bool, true, false, refl, sym, ap, ◌∙◌, subst, Option, None, Some, arith, length-append}
use Rattle.std.specs.Prelude.{slice_get, nat_eq, if◌then◌else◌}
use Rattle.std.proofs.lemmas.Option.{slice_get_within}
use Rattle.std.proofs.lemmas.Bool.Decides.{nat_tests}
use Rattle.cal_ast.specs.Tree as tree
use Rattle.cal_ast.specs.Tree.{Tree}
use Rattle.cal_model.specs.Value.{Values, count, scalars_of_type}
use Rattle.cal_model.specs.Outcome.{Gives, and_then, turn}
use Rattle.cal_model.specs.Env.{Var, Env}
use Rattle.cal_model.specs.Expression.{eval_all}
use Rattle.cal_model.specs.Statement.{Runs, exec}
use Rattle.code_ir.specs.declared.instr.Instr.{Instr}
use Rattle.code_ir.specs.declared.instr.Instr.TheVariants as op
use Rattle.code_ir.specs.declared.instr.Routine.{Routine}
use Rattle.code_ir.specs.Running.{Goes, State, Stuck, step, stop, Reaches, here, after}
use Rattle.lower_base.specs.declared.names.Seat.{Seat}
use Rattle.lower_base.specs.declared.names.Seat.TheVariants.{Cell, Tokens}
use Rattle.lower_base.specs.Calling.{Serves, outside}
use Rattle.lower_base.specs.Coding.{AreArgs, formal_stores}
use Rattle.lower_base.specs.Flat.{flat}
use Rattle.lower_base.specs.Following.{CutsOff, Follows}
use Rattle.lower_base.specs.Held.{Keeps, SeatIsApart, SeatIsBelow, StandAt}
use Rattle.lower_base.specs.Names.{Name}
use Rattle.lower_base.specs.Parted.{number_of}
use Rattle.lower_base.specs.Placed.{StandsAt, World, state}
use Rattle.lower_stmt.specs.Acting.{ActsAs, ComesBack, ServesRuns}
use Rattle.lower_stmt.specs.Changing.{HoldsVars, IsOfNone, KeepsBut}
use Rattle.lower_stmt.specs.Executing.{BreaksOff}
use Rattle.lower_stmt.specs.Procedures.{Procedure, Routines, procedure_for, procedure_named}
use Rattle.lower_stmt.specs.Stating.{run_code}
use Rattle.lower_base.proofs.Called.{ArePut, Piles, put_all}
use Rattle.lower_base.proofs.GivenKinds.{routine_keeps}
use Rattle.lower_base.proofs.Keeping.{flat_length, keeps_join, scalars_same}
use Rattle.lower_base.proofs.Runs.{ends_join, follows_then, obeys, reaches_join, stands_left, stands_right}
use Rattle.lower_stmt.proofs.Evaluating.{GlobalsHeld, args_there, globals_held, may}
use Rattle.lower_stmt.proofs.Performing.{Moves, Performs, but_join, cut_breaks, keeps_but}
use Rattle.lower_stmt.proofs.Scoping.{AreLaid, HoldsInside, inside_still, outer_below}
use Rattle.lower_stmt.specs.Bodies.{CutShort, KeepsOver, SeatLies}

-- ---- what is found

pub proc_there : (text : List ℕ) (ps : List Procedure) (p : Procedure) → procedure_named text ps ≡ Some p → 0 < length ps
proc_there text [] p e = cc
proc_there text (x ∷ ps) p e = omega arith

pub proc_found : (text : List ℕ) (n : ℕ) (ps : List Procedure) (p : Procedure) → procedure_for text n ps ≡ Some p → (procedure_named text ps ≡ Some p) × (length p.formals ≡ n)
proc_found text n ps p e = go (procedure_named text ps) refl e
  where
    at_size : (q : Procedure) (b : Bool) → nat_eq (length q.formals) n ≡ b → procedure_named text ps ≡ Some q → (if b then Some q else None) ≡ Some p → (procedure_named text ps ≡ Some p) × (length p.formals ≡ n)
    at_size q true f is h =
        let same : q ≡ p = cc in
        let size : length q.formals ≡ n = grind (arith, nat_tests, f) in
        (is ∙ ap Some same, subst (λ (x : Procedure). length x.formals ≡ n) same size)
    at_size q false f is h = cc

    go : (o : Option Procedure) → procedure_named text ps ≡ o → elim o [ None ↦ None | Some q ↦ if nat_eq (length q.formals) n then Some q else None ] ≡ Some p → (procedure_named text ps ≡ Some p) × (length p.formals ≡ n)
    go None is h = cc
    go (Some q) is h = at_size q (nat_eq (length q.formals) n) refl is h

pub proc_for : (text : List ℕ) (ps : List Procedure) (n k : ℕ) (p : Procedure) → procedure_named text ps ≡ Some p → length p.formals ≡ k → k ≡ n → procedure_for text n ps ≡ Some p
proc_for text ps n k p is size number =
    let same : nat_eq (length p.formals) n ≡ true = grind (arith, nat_tests, size, number) in
    ap (λ (o : Option Procedure). elim o [ None ↦ None | Some q ↦ if nat_eq (length q.formals) n then Some q else None ]) is ∙ ap (λ b. if b then Some p else None) same

pub proc_other : (text : List ℕ) (ps : List Procedure) (n k : ℕ) (p : Procedure) → procedure_named text ps ≡ Some p → length p.formals ≢ k → k ≡ n → procedure_for text n ps ≡ None
proc_other text ps n k p is size number =
    let other : length p.formals ≢ n = λ e. size (e ∙ sym number) in
    ap (λ (o : Option Procedure). elim o [ None ↦ None | Some q ↦ if nat_eq (length q.formals) n then Some q else None ]) is ∙ go (nat_eq (length p.formals) n) refl other
  where
    go : (b : Bool) → nat_eq (length p.formals) n ≡ b → length p.formals ≢ n → (if b then Some p else None) ≡ None
    go true e g = absurd (g (grind (arith, nat_tests, e)))
    go false e g = refl

-- ---- cells behind a call

pub run_keeps : {names outer : List Name} {low high : ℕ} {before now : List ℤ} (n m : ℕ) → KeepsBut outer 0 0 low high before now → KeepsOver names outer n m low high before now
run_keeps n m keeps = record { size = keeps.size; cell = λ c free apart none far. keeps.cell c (inr (omega arith)) apart far }

module _ (rs : Routines) (outer : List Name) (tokens : ℕ → List ℤ) (low high : ℕ) where
  -- a cell behind those of the names outside is none of theirs
  behind_outer : (c d n : ℕ) (inner : List Name) → AreLaid rs outer tokens low high c inner → c ≤ d → IsOfNone outer d
  behind_outer c d n inner laid le text y e = away y.seat (scalars_of_type y.shape) (outer_below rs outer tokens low high c inner laid text y e)
    where
      away : (seat : Seat) (size : ℕ) → SeatIsBelow c size seat → SeatIsApart d (d + 1) size seat
      away (Cell a) size below = inl (omega (arith, below, le))
      away (Tokens port first step) size below = tt

  -- the locals still stand when the globals have changed
  pub inside_run : (n : ℕ) (inner : List Name) (before now : List ℤ) (env : Env) (vars : List Var) → AreLaid rs outer tokens low high n inner → KeepsBut outer 0 0 low high before now → HoldsVars outer tokens now (outside vars)
      → 0 < length rs.functions + length rs.procedures → HoldsInside rs outer tokens low high inner before env → HoldsInside rs outer tokens low high inner now (record env { globals = vars })
  inside_run n [] before now env vars laid keeps held some (old, can) =
      let c = can some in
      let room = c.1 in
      let size = keeps.size in
      let same : outside vars ≡ record env { globals = vars } = ap (λ ls. record env { locals = ls; globals = vars }) (sym c.0) in
      (subst (λ (e : Env). HoldsVars outer tokens now e) same held, λ more. (c.0, omega (arith, room, size)))
  inside_run n (x ∷ inner) before now env vars (c, at, le, typed, apart, rest) keeps held some (v, under, is, var, below) = (
    v,
    record under { globals = vars },
    ap (λ (e : Env). record e { globals = vars }) is,
    record { called = var.called; stored = var.stored; of_type = var.of_type; stands = still x.seat at apart var.stands },
    inside_run c inner before now under vars rest keeps held some below,
  )
    where
      size : scalars_of_type x.shape ≡ length (flat v.value)
      size = sym (flat_length _ v.value var.of_type ∙ scalars_same x.shape)

      still : (seat : Seat) → SeatLies c n (scalars_of_type x.shape) seat → SeatIsApart low high (scalars_of_type x.shape) seat → StandAt seat tokens before (flat v.value) → StandAt seat tokens now (flat v.value)
      still (Cell d) lies away was k z e =
          let within = slice_get_within (flat v.value) k z e in
          let from = lies.0 in
          keeps.cell (d + k) (inr (omega arith)) (⊎_elim (λ (a : d + scalars_of_type x.shape ≤ low). inl (omega (arith, a, within, size))) (λ (a : high ≤ d). inr (omega (arith, a))) away) (behind_outer c (d + k) n inner rest (omega (arith, from))) ∙ was k z e
      still (Tokens port first step) lies away was k z e = was k z e

-- ---- the call

module _ (rs : Routines) (outer : List Name) (w : World) (serves : Serves w outer rs.functions) (frames : List ℕ) (runs : Runs) (acts : ServesRuns w runs outer rs.procedures) where
  pub run_performs : (inner : List Name) (text : List ℕ) (args : Tree) (place at base n m : ℕ) (code : List Instr) (p : Procedure) → procedure_for text (number_of args) rs.procedures ≡ Some p
      → AreArgs rs.functions (inner ++ outer) args base n code m
      → Performs rs outer w serves frames inner (λ env left. exec (tree.call_stmt (tree.ident text place) args at) w.calls runs env left) base n (code ++ run_code p) m
  run_performs inner text args place at base n m code p e coded stack cells env left stands laid apart room holds =
      follows_then (eval_all args w.calls env left) (λ vs j. turn j (λ k. and_then (runs env.globals text vs k) (λ globals i. Gives (record env { globals = globals }) i)))
      (Piles w n m (number_of args) s (base + length code)) (CutsOff w n m s) (Moves rs outer w serves frames inner n m s end (length env.locals)) (CutShort w (inner ++ outer) outer n m s)
      (args_there rs outer w serves frames inner coded stack cells env left (stands_left w.code.instrs base code (run_code p) stands) laid holds (may w n m n m cells cells (omega arith) (omega arith) apart room refl) some)
      (λ vs j q. turned vs j q)
      (λ c t. cut_breaks rs outer w serves frames (inner ++ outer) n n m m s c (omega arith) (omega arith) t)
    where
      s : State
      s = state base stack frames cells left

      end : ℕ
      end = base + length (code ++ run_code p)

      found : (procedure_named text rs.procedures ≡ Some p) × (length p.formals ≡ number_of args)
      found = proc_found text (number_of args) rs.procedures p e

      some : 0 < length rs.functions + length rs.procedures
      some = let there = proc_there text rs.procedures p found.0 in omega (arith, there)

      g : GlobalsHeld outer w.tokens w.high cells env
      g = globals_held rs outer w.tokens w.low w.high inner cells env holds some

      a : ActsAs w runs outer text p
      a = acts text p found.0

      puts : List Instr
      puts = formal_stores p.formals

      here_stands : StandsAt w.code.instrs (base + length code) (run_code p)
      here_stands = stands_right w.code.instrs base code (run_code p) stands

      turned : (vs : Values) (j : ℕ) → Piles w n m (number_of args) s (base + length code) vs j
          → Follows (turn j (λ k. and_then (runs env.globals text vs k) (λ globals i. Gives (record env { globals = globals }) i))) (Moves rs outer w serves frames inner n m s end (length env.locals)) (CutShort w (inner ++ outer) outer n m s)
      turned vs zero q =
          let t : State = state (base + length code) q.top frames q.cells 0 in
          record { cells = q.cells; ends = ends_join q.reaches (stop (obeys w.code w.tokens t op.Turn here_stands.0)); keeps = keeps_but (inner ++ outer) q.keeps }
      turned vs (suc j) q =
          let t : State = state (base + length code) q.top frames q.cells (suc j) in
          let u : State = state (base + length code + 1) q.top frames q.cells j in
          let size = q.keeps.size in
          let wide = g.room in
          let high = a.formals.high_end in
          let many : count vs ≡ length p.formals = q.as_many ∙ sym found.1 in
          let put : ArePut w p.formals a.formals.first vs u (base + length code + 1 + length puts) stack =
          put_all w frames p.formals a.formals.first vs (base + length code + 1) stack q.top q.cells j a.formals.row a.formals.sizes many q.piled (omega (arith, high, wide, size))
          (stands_left w.code.instrs (base + length code + 1) puts (op.Call p.routine ∷ []) here_stands.1) in
          let spot : ℕ = base + length code + 1 + length puts in
          let called : State = state spot stack frames put.cells j in
          let within : State = state a.routine.start stack ((spot + 1) ∷ frames) put.cells j in
          let there : slice_get w.code.instrs spot ≡ Some (op.Call p.routine) = (stands_right w.code.instrs (base + length code + 1) puts (op.Call p.routine ∷ []) here_stands.1).0 in
          let goes : step w.code w.tokens called ≡ Goes within =
          obeys w.code w.tokens called (op.Call p.routine) there
          ∙ ap (λ (o : Option Routine). elim o [ None ↦ Stuck | Some routine ↦ Goes (record called { place = routine.start; frames = (spot + 1) ∷ frames }) ]) a.is in
          let reached : Reaches w.code w.tokens s within =
          reaches_join q.reaches (after (obeys w.code w.tokens t op.Turn here_stands.0) (reaches_join put.reaches (after goes here))) in
          let kept : Keeps n m w.low w.high cells put.cells = keeps_join q.keeps (routine_keeps a.formals.first (length p.formals) n m w.low w.high q.cells put.cells a.formals.low_end high put.written) in
          let finish : spot + 1 ≡ end = omega (arith, length-append code (run_code p), length-append puts (op.Call p.routine ∷ [])) in
          let known = kept.size in
          let held : HoldsInside rs outer w.tokens w.low w.high inner put.cells env = inside_still rs outer w.tokens w.low w.high n m inner cells put.cells env laid kept holds in
          let now : GlobalsHeld outer w.tokens w.high put.cells env = globals_held rs outer w.tokens w.low w.high inner put.cells env held some in
          follows_then (runs env.globals text vs j) (λ globals i. Gives (record env { globals = globals }) i) (ComesBack w outer within (spot + 1) frames) (BreaksOff w outer 0 0 within)
          (Moves rs outer w serves frames inner n m s end (length env.locals)) (CutShort w (inner ++ outer) outer n m s)
          (a.goes env.globals vs stack (spot + 1) frames put.cells j (omega (arith, wide, known)) now.vars put.holds)
          (λ globals i r. record {
            cells = r.cells;
            reaches = subst (λ x. Reaches w.code w.tokens s (state x stack frames r.cells i)) finish (reaches_join reached r.reaches);
            keeps = but_join (keeps_but (inner ++ outer) kept) (run_keeps n m r.keeps);
            holds = inside_run rs outer w.tokens w.low w.high n inner put.cells r.cells env globals laid r.keeps r.holds some held;
            as_many = refl;
          })
          (λ c r. record { cells = r.cells; ends = ends_join reached r.ends; keeps = but_join (keeps_but (inner ++ outer) kept) (run_keeps n m r.keeps) })
