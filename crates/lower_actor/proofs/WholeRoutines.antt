-- All functions and procedures of a sound actor have routines.
use Rattle.std.proofs.Common.{◌≡◌, ℕ, zero, suc, ◌<◌, ⊎_elim, Bool, true, false, List, [], ◌∷◌, ◌++◌, length, refl, sym, ap, subst, ◌∙◌, Option, None, Some, arith}
use Rattle.std.specs.Prelude.{slice_get, if◌then◌else◌}
use Rattle.std.specs.Str.{bytes_eq}
use Rattle.std.proofs.lemmas.Slice.Eq.{bytes_eq-Decides}
use Rattle.cal_model.specs.Actor.{Actor, Fun, Local, Proc}
use Rattle.cal_model.specs.Call.{fun_named}
use Rattle.cal_model.specs.Sound.{Each, FunCallsBelow, IsFun, IsProc, IsSound, ProcCallsBelow, names_of}
use Rattle.cal_model.specs.Statement.{proc_named}
use Rattle.lower_base.specs.declared.callees.Formal.{Formal}
use Rattle.lower_base.specs.Callees.{Function, function_named}
use Rattle.lower_base.specs.Routining.{StandForFormals, left_out_fun}
use Rattle.lower_stmt.specs.Proceeding.{left_out_proc}
use Rattle.lower_stmt.specs.Procedures.{Procedure, Routines, procedure_named}
use Rattle.action_lower.specs.FiringCode.{globals_of}
use Rattle.law_forms.specs.Lowerable.{CallsRoutines, HasRoutine, IsRoutineOf}
use Rattle.law_bodies.specs.NoneLeft.{AllHaveRoutines}
use Rattle.law_bodies.specs.Standing.{AreReady, CallsAll, HasProcRoutine, IsRoutineOfProc, StartsCallAll}
use Rattle.law_bodies.proofs.Calls.{calls_as, locals_any, locals_as}
use Rattle.law_bodies.proofs.Names.{ready_vars}
use Rattle.law_bodies.proofs.Routines.{fun_none, proc_none}
use Rattle.lower_actor.specs.Settled.{AreFunctions, AreProcedures, AreSettled, HasFunction, HasProcedure, IsFunction, IsProcedure, no_function, function_more, no_procedure, procedure_more}
use Rattle.lower_actor.proofs.Routined.{each-at, fun-found, proc-found}

each-last : {A : Type 0} (P : A → Type 0) (xs : List A) (x : A) → Each P xs → P x → Each P (xs ++ x ∷ [])
each-last P [] x h p = (p, tt)
each-last P (y ∷ xs) x h p = (h.0, each-last P xs x h.1 p)

same-many : (xs : List Local) (ys : List Formal) → StandForFormals xs ys → length ys ≡ length xs
same-many [] [] h = refl
same-many (x ∷ xs) (y ∷ ys) h = ap suc (same-many xs ys h.1)
same-many [] (y ∷ ys) h = absurd h
same-many (x ∷ xs) [] h = absurd h

-- ---- what is found by a name

pub record IsAt {A : Type 0} (name : A → List ℕ) (text : List ℕ) (xs : List A) (x : A) : Type 0 where
  pub place : ℕ
  pub there : slice_get xs place ≡ Some x
  pub same : name x ≡ text

module _ {A : Type 0} (name : A → List ℕ) (named : List ℕ → List A → Option A) (none : (text : List ℕ) → named text [] ≡ None)
    (more : (text : List ℕ) (x : A) (xs : List A) → named text (x ∷ xs) ≡ (if bytes_eq (name x) text then Some x else named text xs)) where
  -- it stands somewhere
  pub place-of : (text : List ℕ) (xs : List A) (x : A) → named text xs ≡ Some x → IsAt name text xs x
  place-of text [] x e = let f : None ≡ Some x = sym (none text) ∙ e in absurd (cc)
  place-of text (y ∷ xs) x e = go (λ h. place-of text xs x h) (bytes_eq (name y) text) refl (sym (more text y xs) ∙ e)
    where
      go : (named text xs ≡ Some x → IsAt name text xs x) → (b : Bool) → bytes_eq (name y) text ≡ b → (if b then Some y else named text xs) ≡ Some x → IsAt name text (y ∷ xs) x
      go later true is h =
          let one : y ≡ x = cc in
          record { place = 0; there = ap (λ z. Some z) one; same = ap name (sym one) ∙ (bytes_eq-Decides (name y) text).0 is }
      go later false is h = let p : IsAt name text xs x = later h in record { place = suc p.place; there = p.there; same = p.same }

  -- .. and what stands there is found, or another one of its name
  found-first : (P : A → Type 0) (text : List ℕ) (xs : List A) (k : ℕ) (x : A) → Each P xs → slice_get xs k ≡ Some x → name x ≡ text → (y : A) × (named text xs ≡ Some y) × P y × (name y ≡ text)
  found-first P text [] k x h e same = absurd (cc)
  found-first P text (z ∷ xs) k x h e same = go (λ j f. found-first P text xs j x h.1 f same) (bytes_eq (name z) text) refl k e
    where
      go : ((j : ℕ) → slice_get xs j ≡ Some x → (y : A) × (named text xs ≡ Some y) × P y × (name y ≡ text)) → (b : Bool) → bytes_eq (name z) text ≡ b → (j : ℕ) → slice_get (z ∷ xs) j ≡ Some x → (y : A) × (named text (z ∷ xs) ≡ Some y) × P y × (name y ≡ text)
      go later true is j f = (z, more text z xs ∙ ap (λ b. if b then Some z else named text xs) is, h.0, (bytes_eq-Decides (name z) text).0 is)
      go later false is zero f =
          let one : z ≡ x = cc in
          let yes : bytes_eq (name z) text ≡ true = (bytes_eq-Decides (name z) text).1 (ap name one ∙ same) in
          let no : true ≡ false = sym yes ∙ is in
          absurd (cc)
      go later false is (suc j) f =
          let r = later j f in
          (r.0, more text z xs ∙ ap (λ b. if b then Some z else named text xs) is ∙ r.1, r.2, r.3)

module _ (actor : Actor) (sound : IsSound actor) where
  pub ready : AreReady actor.funs (names_of actor) (globals_of actor)
  ready = ready_vars actor.funs actor.vars sound.vars

  record StandsForFun (g : Function) : Type 0 where
    fun : Fun
    named : fun_named g.text actor.funs ≡ Some fun
    is : IsFunction fun g

  functions-named : (fs : List Function) → AreFunctions actor fs → Each StandsForFun fs
  functions-named [] no_function = tt
  functions-named now (function_more fs k f g all there is none) =
      each-last StandsForFun fs g (functions-named fs all) (record { fun = f; named = ap (λ text. fun_named text actor.funs) is.text ∙ fun-found actor sound k f there; is = is })

  -- a function that is among these has a routine
  pub function-routine : (fs : List Function) → AreFunctions actor fs → (text : List ℕ) (f : Fun) → fun_named text actor.funs ≡ Some f → HasFunction fs f → IsRoutineOf fs text f
  function-routine fs are text f e has =
      let p : IsAt (λ (x : Fun). x.name) text actor.funs f = place-of (λ (x : Fun). x.name) fun_named (λ text. refl) (λ text x xs. refl) text actor.funs f e in
      let r = found-first (λ (x : Function). x.text) function_named (λ text. refl) (λ text x xs. refl) StandsForFun text fs has.place has.function (functions-named fs are) has.there (has.is.text ∙ p.same) in
      let s : StandsForFun r.0 = r.2 in
      let again : fun_named text actor.funs ≡ Some s.fun = ap (λ t. fun_named t actor.funs) (sym r.3) ∙ s.named in
      let one : s.fun ≡ f = cc in
      let is : IsFun (names_of actor) f = each-at (IsFun (names_of actor)) actor.funs p.place f sound.funs p.there in
      record {
        routine = r.0;
        found = r.1;
        formals = is.formals;
        as_many = same-many s.fun.formals r.0.formals s.is.formals ∙ ap (λ (x : Fun). length x.formals) one;
        result = s.is.result ∙ ap (λ (x : Fun). x.result) one;
      }

  record StandsForProc (g : Procedure) : Type 0 where
    proc : Proc
    named : proc_named g.text actor.procs ≡ Some proc
    is : IsProcedure proc g

  procedures-named : (fs : List Function) (ps : List Procedure) → AreProcedures actor fs ps → Each StandsForProc ps
  procedures-named fs [] no_procedure = tt
  procedures-named fs now (procedure_more ps k p g all there is none) =
      each-last StandsForProc ps g (procedures-named fs ps all) (record { proc = p; named = ap (λ text. proc_named text actor.procs) is.text ∙ proc-found actor sound k p there; is = is })

  -- .. and a procedure
  pub procedure-routine : (fs : List Function) (ps : List Procedure) → AreProcedures actor fs ps → (text : List ℕ) (q : Proc) → proc_named text actor.procs ≡ Some q → HasProcedure ps q → IsRoutineOfProc ps text q
  procedure-routine fs ps are text q e has =
      let p : IsAt (λ (x : Proc). x.name) text actor.procs q = place-of (λ (x : Proc). x.name) proc_named (λ text. refl) (λ text x xs. refl) text actor.procs q e in
      let r = found-first (λ (x : Procedure). x.text) procedure_named (λ text. refl) (λ text x xs. refl) StandsForProc text ps has.place has.procedure (procedures-named fs ps are) has.there (has.is.text ∙ p.same) in
      let s : StandsForProc r.0 = r.2 in
      let again : proc_named text actor.procs ≡ Some s.proc = ap (λ t. proc_named t actor.procs) (sym r.3) ∙ s.named in
      let one : s.proc ≡ q = cc in
      let is : IsProc actor.procs (names_of actor) q = each-at (IsProc actor.procs (names_of actor)) actor.procs p.place q sound.procs p.there in
      record {
        routine = r.0;
        found = r.1;
        formals = is.formals;
        as_many = same-many s.proc.formals r.0.formals s.is.formals ∙ ap (λ (x : Proc). length x.formals) one;
      }

module _ (actor : Actor) (sound : IsSound actor) (rs : Routines) (settled : AreSettled actor rs) where
  -- ---- functions

  routine-of : (text : List ℕ) (f : Fun) → fun_named text actor.funs ≡ Some f → HasFunction rs.functions f → IsRoutineOf rs.functions text f
  routine-of = function-routine actor sound rs.functions settled.functions

  -- one whose calls all have routines has one
  fun-step : (k : ℕ) (f : Fun) → slice_get actor.funs k ≡ Some f → ((text : List ℕ) → sound.funs_end.rank text < sound.funs_end.rank f.name → HasRoutine actor.funs rs.functions text) → HasFunction rs.functions f
  fun-step k f there deeper = ⊎_elim (λ (h : HasFunction rs.functions f). h) (λ (out : (at : ℕ) × (left_out_fun rs.functions (globals_of actor) f ≡ Some at)). absurd (not-left out.0 out.1)) (settled.all_functions k f there)
    where
      below : FunCallsBelow sound.funs_end.rank f
      below = each-at (FunCallsBelow sound.funs_end.rank) actor.funs k f sound.funs_end.calls there

      starts : StartsCallAll actor.funs rs.functions f.locals
      starts = locals_as {P = λ text. sound.funs_end.rank text < sound.funs_end.rank f.name} {Q = λ text. ⊥} {R = HasRoutine actor.funs rs.functions} {S = λ text. Unit {0}} deeper (λ text h. tt) f.locals below.locals

      calls : CallsRoutines actor.funs rs.functions f.body
      calls = calls_as {P = λ text. sound.funs_end.rank text < sound.funs_end.rank f.name} {Q = λ text. ⊥} {R = HasRoutine actor.funs rs.functions} {S = λ text. Unit {0}} deeper (λ text h. tt) f.body below.body

      not-left : (at : ℕ) → left_out_fun rs.functions (globals_of actor) f ≡ Some at → ⊥
      not-left at e =
          let none : left_out_fun rs.functions (globals_of actor) f ≡ None = fun_none actor.funs rs.functions f (names_of actor) (globals_of actor) (ready actor sound) starts calls (each-at (IsFun (names_of actor)) actor.funs k f sound.funs there) in
          cc

  have-fun : (n k : ℕ) (f : Fun) → slice_get actor.funs k ≡ Some f → sound.funs_end.rank f.name < n → HasFunction rs.functions f
  have-fun zero k f there low = absurd (omega (arith, low))
  have-fun (suc n) k f there low =
      fun-step k f there (λ text lower g e.
      let p : IsAt (λ (x : Fun). x.name) text actor.funs g = place-of (λ (x : Fun). x.name) fun_named (λ text. refl) (λ text x xs. refl) text actor.funs g e in
      let less : sound.funs_end.rank g.name < n = subst (λ (t : List ℕ). sound.funs_end.rank t < n) (sym p.same) (omega (arith, lower, low)) in
      routine-of text g e (have-fun n p.place g p.there less))

  have-functions : (text : List ℕ) → HasRoutine actor.funs rs.functions text
  have-functions text f e =
      let p : IsAt (λ (x : Fun). x.name) text actor.funs f = place-of (λ (x : Fun). x.name) fun_named (λ text. refl) (λ text x xs. refl) text actor.funs f e in
      routine-of text f e (have-fun (suc (sound.funs_end.rank f.name)) p.place f p.there (omega arith))

  -- ---- procedures

  routine-of-proc : (text : List ℕ) (q : Proc) → proc_named text actor.procs ≡ Some q → HasProcedure rs.procedures q → IsRoutineOfProc rs.procedures text q
  routine-of-proc = procedure-routine actor sound rs.functions rs.procedures settled.procedures

  proc-step : (k : ℕ) (q : Proc) → slice_get actor.procs k ≡ Some q → ((text : List ℕ) → sound.procs_end.rank text < sound.procs_end.rank q.name → HasProcRoutine actor.procs rs.procedures text) → HasProcedure rs.procedures q
  proc-step k q there deeper = ⊎_elim (λ (h : HasProcedure rs.procedures q). h) (λ (out : (at : ℕ) × (left_out_proc rs (globals_of actor) q ≡ Some at)). absurd (not-left out.0 out.1)) (settled.all_procedures k q there)
    where
      below : ProcCallsBelow sound.procs_end.rank q
      below = each-at (ProcCallsBelow sound.procs_end.rank) actor.procs k q sound.procs_end.calls there

      starts : StartsCallAll actor.funs rs.functions q.locals
      starts = locals_any {P = HasRoutine actor.funs rs.functions} {Q = λ text. Unit {0}} have-functions (λ text. tt) q.locals

      calls : CallsAll actor.funs actor.procs rs q.body
      calls = calls_as {P = λ text. Unit {0}} {Q = λ text. sound.procs_end.rank text < sound.procs_end.rank q.name} {R = HasRoutine actor.funs rs.functions} {S = HasProcRoutine actor.procs rs.procedures} (λ text h. have-functions text) deeper q.body below.body

      not-left : (at : ℕ) → left_out_proc rs (globals_of actor) q ≡ Some at → ⊥
      not-left at e =
          let none : left_out_proc rs (globals_of actor) q ≡ None = proc_none actor.funs actor.procs rs q (names_of actor) (globals_of actor) (ready actor sound) starts calls (each-at (IsProc actor.procs (names_of actor)) actor.procs k q sound.procs there) in
          cc

  have-proc : (n k : ℕ) (q : Proc) → slice_get actor.procs k ≡ Some q → sound.procs_end.rank q.name < n → HasProcedure rs.procedures q
  have-proc zero k q there low = absurd (omega (arith, low))
  have-proc (suc n) k q there low =
      proc-step k q there (λ text lower g e.
      let p : IsAt (λ (x : Proc). x.name) text actor.procs g = place-of (λ (x : Proc). x.name) proc_named (λ text. refl) (λ text x xs. refl) text actor.procs g e in
      let less : sound.procs_end.rank g.name < n = subst (λ (t : List ℕ). sound.procs_end.rank t < n) (sym p.same) (omega (arith, lower, low)) in
      routine-of-proc text g e (have-proc n p.place g p.there less))

  have-procedures : (text : List ℕ) → HasProcRoutine actor.procs rs.procedures text
  have-procedures text q e =
      let p : IsAt (λ (x : Proc). x.name) text actor.procs q = place-of (λ (x : Proc). x.name) proc_named (λ text. refl) (λ text x xs. refl) text actor.procs q e in
      routine-of-proc text q e (have-proc (suc (sound.procs_end.rank q.name)) p.place q p.there (omega arith))

  pub all-have-routines : AllHaveRoutines actor rs
  all-have-routines = record { functions = have-functions; procedures = have-procedures }
