-- The routines of an actor write only cells that may be written, and read only tokens that may be read.
use Rattle.std.proofs.Common.{◌≡◌, ℕ, suc, ◌+◌, ◌≤◌, ⊎_elim, Bool, true, false, List, [], ◌∷◌, ◌++◌, length, refl, sym, ap, subst, ◌∙◌, Some, arith, append_assoc}
use Rattle.std.specs.Prelude.{slice_get, if◌then◌else◌}
use Rattle.std.specs.Str.{bytes_eq}
use Rattle.rvc_base.specs.declared.scalar.Scalar.{Scalar}
use Rattle.cal_ast.specs.Tree.{Tree}
use Rattle.cal_model.specs.Actor.{Fun, Local, Proc}
use Rattle.cal_model.specs.Kinding.{Names}
use Rattle.cal_model.specs.Sound.{Each, IsProc}
use Rattle.cal_model.specs.Statement.{proc_named}
use Rattle.code_ir.specs.declared.instr.Instr.{Instr}
use Rattle.code_ir.specs.declared.instr.Instr.TheVariants as op
use Rattle.code_ir.specs.declared.instr.Routine.{Routine}
use Rattle.code_ir.specs.Code.{Code}
use Rattle.lower_base.specs.Allowing.{Allowed, Allows, AreAllowed, AreRead, AreWritten, IsAllowed}
use Rattle.lower_base.specs.Callees.{Function, function_named}
use Rattle.lower_base.specs.Fitting.{IsInner}
use Rattle.lower_base.specs.Names.{Name}
use Rattle.lower_base.specs.Placed.{StandsAt}
use Rattle.lower_base.specs.Routining.{AreRoutines, IsBody, no_more_locals, no_routine, one_more_list, one_more_local, routine_more}
use Rattle.lower_base.proofs.AllowedRoutines.{routine_allowed, row_written}
use Rattle.lower_base.proofs.Routined.{body_grows}
use Rattle.lower_stmt.specs.AllowingRuns.{AllowsRuns, ChangesAreWritten}
use Rattle.lower_stmt.specs.Proceeding.{AreProcRoutines, IsProcBody, local_list, local_more, no_local, no_procedure, procedure_more}
use Rattle.lower_stmt.specs.Procedures.{Procedure, Routines, procedure_named}
use Rattle.lower_stmt.proofs.AllowedStmts.{proc_allowed}
use Rattle.lower_stmt.proofs.ProcServed.{proc_grows}
use Rattle.lower_actor.specs.ClearedBodies.{IsAllowedAt}
use Rattle.lower_actor.specs.Settled.{calling}
use Rattle.lower_actor.proofs.Placed.{last-or-before}
use Rattle.lower_actor.proofs.Routined.{named-or-last}

-- ---- the return at the end

abbrev EndsByReturn : List Instr → Type 0
EndsByReturn code = (body : List Instr) × (code ≡ body ++ op.Return ∷ [])

ends-later : (x y : List Instr) → EndsByReturn y → EndsByReturn (x ++ y)
ends-later x y h = (x ++ h.0, ap (λ is. x ++ is) h.1 ∙ sym (append_assoc x h.0 (op.Return ∷ [])))

body-ends : {fs : List Function} {t : Scalar} {e : Tree} {names : List Name} {xs : List Local} {base n m : ℕ} {code : List Instr} → IsBody fs t e names xs base n code m → EndsByReturn code
body-ends {t = t} (no_more_locals names base n m code g) =
    (code ++ op.Store n (Some t) ∷ op.Load n ∷ [], sym (append_assoc code (op.Store n (Some t) ∷ op.Load n ∷ []) (op.Return ∷ [])))
body-ends (one_more_local names x xs kind base n k m a b shape first rest) = ends-later a b (body-ends rest)
body-ends (one_more_list names x xs base n k m a b typed first rest) = ends-later a b (body-ends rest)

proc-ends : {rs : Routines} {body : Tree} {names : List Name} {xs : List Local} {base n m : ℕ} {code : List Instr} → IsProcBody rs body names xs base n code m → EndsByReturn code
proc-ends (no_local names base n m code g) = (code, refl)
proc-ends (local_more names x xs kind base n k m a b shape first rest) = ends-later a b (proc-ends rest)
proc-ends (local_list names x xs base n k m a b typed first rest) = ends-later a b (proc-ends rest)

pub allowed-left : (a : Allowed) (x y : List Instr) → AreAllowed a (x ++ y) → AreAllowed a x
allowed-left a [] y h = tt
allowed-left a (i ∷ x) y h = (h.0, allowed-left a x y h.1)

-- what stands in the same place up to its end is allowed, too
same-instr : {x y : Instr} → Some x ≡ Some y → x ≡ y
same-instr e = cc

pub allowed-there : (a : Allowed) (all : List Instr) (base : ℕ) (body rest : List Instr) → StandsAt all base (body ++ op.Return ∷ []) → StandsAt all base (rest ++ op.Return ∷ []) → ((j : ℕ) (i : Instr) → slice_get rest j ≡ Some i → IsInner i)
    → AreAllowed a body → AreAllowed a rest
allowed-there a all base body [] here there inner h = tt
allowed-there a all base [] (i ∷ rest) here there inner h =
    let same : op.Return ≡ i = same-instr (sym here.0 ∙ there.0) in absurd (subst IsInner (sym same) (inner 0 i refl))
allowed-there a all base (x ∷ body) (i ∷ rest) here there inner h =
    let same : x ≡ i = same-instr (sym here.0 ∙ there.0) in
    (subst (IsAllowed a) same h.0, allowed-there a all (base + 1) body rest here.1 there.1 (λ j y e. inner (suc j) y e) h.1)

-- ---- functions and procedures

-- a procedure that has a name is one of a sound actor
sound-proc : (all : List Proc) (known : Names) (name : List ℕ) (ps : List Proc) (p : Proc) → Each (IsProc all known) ps → proc_named name ps ≡ Some p → IsProc all known p
sound-proc all known name [] p h e = cc
sound-proc all known name (q ∷ ps) p h e = by (bytes_eq q.name name) e (sound-proc all known name ps p h.1)
  where
    by : (b : Bool) → (if b then Some q else proc_named name ps) ≡ Some p → (proc_named name ps ≡ Some p → IsProc all known p) → IsProc all known p
    by true f more = let same : q ≡ p = cc in subst (IsProc all known) same h.0
    by false f more = more f

-- what is known of functions whose routines stand there, and of their cells
pub record FunctionsAllowed (a : Allowed) (whole : Code) (low : ℕ) (fs : List Function) (n : ℕ) : Type 0 where
  pub up : low ≤ n
  pub formals : (text : List ℕ) (f : Function) → function_named text fs ≡ Some f → AreWritten a f.formals
  pub each : (k : ℕ) (g : Function) → slice_get fs k ≡ Some g → IsAllowedAt a whole g.routine

-- .. and of procedures
pub record ProceduresAllowed (a : Allowed) (whole : Code) (low : ℕ) (fs : List Function) (ps : List Procedure) (n : ℕ) : Type 0 where
  pub functions : FunctionsAllowed a whole low fs n
  pub formals : (text : List ℕ) (p : Procedure) → procedure_named text ps ≡ Some p → AreWritten a p.formals
  pub each : (k : ℕ) (g : Procedure) → slice_get ps k ≡ Some g → IsAllowedAt a whole g.routine

module _ (a : Allowed) (whole : Code) (globals : List Name) (read : AreRead a globals) (low : ℕ) (own : (c : ℕ) → low ≤ c → a.cells c ≡ true) where
  own-from : (n : ℕ) → low ≤ n → (c : ℕ) → n ≤ c → a.cells c ≡ true
  own-from n le c up = own c (omega (arith, le, up))

  at-routine : (number : ℕ) (r : Routine) (base : ℕ) (code : List Instr) → slice_get whole.routines number ≡ Some r → r.start ≡ base → StandsAt whole.instrs base code → EndsByReturn code → AreAllowed a code → IsAllowedAt a whole number
  at-routine number r base code there start stands ends ok = record {
    routine = r;
    there = there;
    body = ends.0;
    stands = subst (λ p. StandsAt whole.instrs p (ends.0 ++ op.Return ∷ [])) (sym start) (subst (StandsAt whole.instrs base) ends.1 stands);
    allowed = allowed-left a ends.0 (op.Return ∷ []) (subst (AreAllowed a) ends.1 ok);
  }

  pub functions-allowed : {all : List Fun} {fs : List Function} {n : ℕ} → AreRoutines globals whole all low fs n → FunctionsAllowed a whole low fs n
  functions-allowed no_routine = record { up = omega arith; formals = λ text f e. cc; each = λ k g e. cc }
  functions-allowed (routine_more fs f g r base n m code before is named sized there start stands) =
      let h = functions-allowed before in
      let le = h.up in
      let grows = body_grows is.body in
      let allows : Allows a fs globals n = record { own = own-from n le; formals = h.formals; read = read } in
      let ok : AreAllowed a code = routine_allowed a fs globals f g base n m code allows is in
      let here : IsAllowedAt a whole g.routine = at-routine g.routine r base code there start stands (body-ends is.body) ok in
      let formals : AreWritten a g.formals = row_written a n g.formals (own-from n le) is.row in
      record {
        up = omega (arith, le, grows);
        formals = λ text x e.
            ⊎_elim (λ (old : function_named text fs ≡ Some x). h.formals text x old) (λ (last : g ≡ x). subst (λ (y : Function). AreWritten a y.formals) last formals)
            (named-or-last (λ (y : Function). y.text) function_named (λ text. refl) (λ text y ys. refl) fs g text x e);
        each = λ k x e.
            ⊎_elim (λ (old : slice_get fs k ≡ Some x). h.each k x old) (λ (last : (k ≡ length fs) × (g ≡ x)). subst (λ (y : Function). IsAllowedAt a whole y.routine) last.1 here) (last-or-before fs g k x e);
      }

  module _ (procs : List Proc) (known : Names) (changes : ChangesAreWritten a globals known) (sound : Each (IsProc procs known) procs) where
    pub procedures-allowed : {funs : List Fun} {fs : List Function} {ps : List Procedure} {n : ℕ} → AreProcRoutines globals whole funs procs low fs ps n → ProceduresAllowed a whole low fs ps n
    procedures-allowed (no_procedure n are) = record { functions = functions-allowed are; formals = λ text p e. cc; each = λ k g e. cc }
    procedures-allowed {fs = fs} (procedure_more ps p g r base n m code before is named sized there start stands) =
        let h = procedures-allowed before in
        let le = h.functions.up in
        let grows = proc_grows is.body in
        let allows : AllowsRuns a (calling fs ps) globals n = record { inside = record { own = own-from n le; formals = h.functions.formals; read = read }; procedures = h.formals } in
        let ok : AreAllowed a code = proc_allowed a (calling fs ps) procs globals p g base n m code known allows changes (sound-proc procs known p.name procs p sound named) is in
        let here : IsAllowedAt a whole g.routine = at-routine g.routine r base code there start stands (proc-ends is.body) ok in
        let formals : AreWritten a g.formals = row_written a n g.formals (own-from n le) is.row in
        record {
          functions = record { up = omega (arith, le, grows); formals = h.functions.formals; each = h.functions.each };
          formals = λ text x e.
              ⊎_elim (λ (old : procedure_named text ps ≡ Some x). h.formals text x old) (λ (last : g ≡ x). subst (λ (y : Procedure). AreWritten a y.formals) last formals)
              (named-or-last (λ (y : Procedure). y.text) procedure_named (λ text. refl) (λ text y ys. refl) ps g text x e);
          each = λ k x e.
              ⊎_elim (λ (old : slice_get ps k ≡ Some x). h.each k x old) (λ (last : (k ≡ length ps) × (g ≡ x)). subst (λ (y : Procedure). IsAllowedAt a whole y.routine) last.1 here) (last-or-before ps g k x e);
        }

  -- only the functions, where there are procedures too
  pub only-functions : {funs : List Fun} {procs : List Proc} {fs : List Function} {ps : List Procedure} {n : ℕ} → AreProcRoutines globals whole funs procs low fs ps n → (m : ℕ) × FunctionsAllowed a whole low fs m
  only-functions (no_procedure n are) = (n, functions-allowed are)
  only-functions (procedure_more ps p g r base n m code before is named sized there start stands) = only-functions before
