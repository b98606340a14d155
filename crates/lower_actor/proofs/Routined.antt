-- Drafts that begin with the routines of functions and procedures.
use Rattle.std.proofs.Common.{◌≡◌, ℕ, zero, suc, ◌+◌, ◌<◌, ◌≤◌, ◌⊎◌, inl, inr, ⊎_elim, Bool, true, false, List, [], ◌∷◌, ◌++◌, length, map, refl, sym, ap, subst, ◌∙◌, Option, None, Some, arith, append_assoc, length-append}
use Rattle.std.specs.Prelude.{slice_get, if◌then◌else◌, Contains, slice_index_or}
use Rattle.std.specs.Str.{bytes_eq}
use Rattle.std.proofs.lemmas.List.{append-nil}
use Rattle.std.proofs.lemmas.Slice.Eq.{bytes_eq-Decides}
use Rattle.cal_model.specs.Actor.{Actor, Fun, Local, Proc}
use Rattle.cal_model.specs.Call.{fun_named}
use Rattle.cal_model.specs.Sound.{AreDistinct, Each, IsFormal, IsFun, IsProc, IsSound, names_of, with_locals}
use Rattle.cal_model.specs.Statement.{proc_named}
use Rattle.code_ir.specs.declared.instr.Instr.{Instr}
use Rattle.code_ir.specs.declared.instr.Instr.TheVariants as op
use Rattle.code_ir.specs.declared.instr.Routine.{Routine}
use Rattle.code_ir.specs.Code.{Code, results_of}
use Rattle.lower_base.specs.declared.draft.Draft.{Draft}
use Rattle.lower_base.specs.Callees.{Function, function_named}
use Rattle.lower_base.specs.Calling.{HasFormals, HasRoutines}
use Rattle.lower_base.specs.Fitting.{Fits}
use Rattle.lower_base.specs.Held.{AreBelow}
use Rattle.lower_base.specs.Names.{Name}
use Rattle.lower_base.specs.Placed.{StandsAt}
use Rattle.lower_base.specs.Routining.{AreRoutines, FitsAsRoutine, FunSized, LocalsSized, no_routine, routine_more}
use Rattle.lower_base.proofs.FittedRoutines.{routine_fits}
use Rattle.lower_base.proofs.Routined.{body_grows}
use Rattle.lower_base.proofs.Runs.{stands_left, stands_right}
use Rattle.lower_base.proofs.Served.{sizes_of}
use Rattle.lower_stmt.specs.Acting.{HasCells}
use Rattle.lower_stmt.specs.Bodies.{AreLaid}
use Rattle.lower_stmt.specs.Calls.{HasRunRoutines}
use Rattle.lower_stmt.specs.Proceeding.{FitsAsProc, ProcSized, no_procedure, procedure_more}
use Rattle.lower_stmt.specs.Procedures.{Procedure, procedure_named}
use Rattle.lower_stmt.proofs.FittedProcs.{proc_fits}
use Rattle.lower_stmt.proofs.ProcServed.{proc_grows}
use Rattle.action_lower.specs.FiringCode.{globals_of}
use Rattle.action_lower.specs.Seats.{state_cells, var_seats}
use Rattle.action_lower.proofs.BelowState.{each-below, vars-below}
use Rattle.action_lower.proofs.FiringRuns.{locals-sized}
use Rattle.action_lower.proofs.StateSeats.{globals-laid}
use Rattle.lower_actor.specs.Drafted.{AddsFunction, AddsProcedure, BeginsWith, HoldsFunctions, HoldsProcedures, HoldsRoutines, IsServed, starts}
use Rattle.lower_actor.specs.Fitting.{AreBodies, body_more}
use Rattle.lower_actor.specs.Settled.{calling}
use Rattle.lower_actor.proofs.FiringFits.{has-more}
use Rattle.lower_actor.proofs.Placed.{last-or-before}
use Rattle.lower_actor.proofs.Rowed.{stood-in}

-- ---- names

pub each-at : {A : Type 0} (P : A → Type 0) (xs : List A) (k : ℕ) (x : A) → Each P xs → slice_get xs k ≡ Some x → P x
each-at P [] k x h e = absurd (cc)
each-at P (y ∷ xs) zero x h e = let same : y ≡ x = cc in subst P same h.0
each-at P (y ∷ xs) (suc k) x h e = each-at P xs k x h.1 e

left-item : {A : Type 0} (x : A) (xs ys : List A) (k : ℕ) → k < length xs → slice_index_or (xs ++ ys) k x ≡ slice_index_or xs k x
left-item x [] ys k low = absurd (omega (arith, low))
left-item x (y ∷ xs) ys zero low = refl
left-item x (y ∷ xs) ys (suc k) low = left-item x xs ys k (omega (arith, low))

left-contains : {A : Type 0} (x : A) (xs ys : List A) → Contains xs x → Contains (xs ++ ys) x
left-contains x xs ys c = (c.0, (let s = length-append xs ys in let low = c.1 in omega (arith, s, low)), left-item x xs ys c.0 c.1 ∙ c.2)

distinct-left : {A : Type 0} (xs ys : List A) → AreDistinct (xs ++ ys) → AreDistinct xs
distinct-left [] ys h = tt
distinct-left (x ∷ xs) ys h = (λ c. h.0 (left-contains x xs ys c), distinct-left xs ys h.1)

distinct-right : {A : Type 0} (xs ys : List A) → AreDistinct (xs ++ ys) → AreDistinct ys
distinct-right [] ys h = h
distinct-right (x ∷ xs) ys h = distinct-right xs ys h.1

is-same : (text : List ℕ) → bytes_eq text text ≡ true
is-same text = (bytes_eq-Decides text text).1 refl

contained : {A : Type 0} (xs : List A) (k : ℕ) (x : A) → slice_get xs k ≡ Some x → Contains xs x
contained [] k x e = absurd (cc)
contained (y ∷ xs) zero x e = let same : y ≡ x = cc in (0, omega arith, same)
contained (y ∷ xs) (suc k) x e = let more = contained xs k x e in (suc more.0, (let low = more.1 in omega (arith, low)), more.2)

-- the names of a list whose names are distinct
module _ {A : Type 0} (name : A → List ℕ) (named : List ℕ → List A → Option A) (none : (text : List ℕ) → named text [] ≡ None)
    (more : (text : List ℕ) (x : A) (xs : List A) → named text (x ∷ xs) ≡ (if bytes_eq (name x) text then Some x else named text xs)) where
  mapped-at : (xs : List A) (k : ℕ) (x : A) → slice_get xs k ≡ Some x → slice_get (map name xs) k ≡ Some (name x)
  mapped-at [] k x e = absurd (cc)
  mapped-at (y ∷ xs) zero x e = let same : y ≡ x = cc in ap (λ z. Some (name z)) same
  mapped-at (y ∷ xs) (suc k) x e = mapped-at xs k x e

  found-at : (xs : List A) (k : ℕ) (x : A) → AreDistinct (map name xs) → slice_get xs k ≡ Some x → named (name x) xs ≡ Some x
  found-at [] k x h e = absurd (cc)
  found-at (y ∷ xs) zero x h e =
      let same : y ≡ x = cc in
      more (name x) y xs ∙ ap (λ b. if b then Some y else named (name x) xs) (ap (λ z. bytes_eq (name z) (name x)) same ∙ is-same (name x)) ∙ ap Some same
  found-at (y ∷ xs) (suc k) x h e = more (name x) y xs ∙ ap (λ b. if b then Some y else named (name x) xs) (by (bytes_eq (name y) (name x)) refl) ∙ found-at xs k x h.1 e
    where
      by : (b : Bool) → bytes_eq (name y) (name x) ≡ b → bytes_eq (name y) (name x) ≡ false
      by true f = absurd (h.0 (subst (Contains (map name xs)) (sym ((bytes_eq-Decides (name y) (name x)).0 f)) (contained (map name xs) k (name x) (mapped-at xs k x e))))
      by false f = f

  -- one more behind them
  pub named-or-last : (xs : List A) (x : A) (text : List ℕ) (y : A) → named text (xs ++ x ∷ []) ≡ Some y → (named text xs ≡ Some y) ⊎ (x ≡ y)
  named-or-last [] x text y e = by (bytes_eq (name x) text) (sym (more text x []) ∙ e)
    where
      by : (b : Bool) → (if b then Some x else named text []) ≡ Some y → (named text [] ≡ Some y) ⊎ (x ≡ y)
      by true f = inr (cc)
      by false f = inl f
  named-or-last (z ∷ xs) x text y e = by (bytes_eq (name z) text) refl (sym (more text z (xs ++ x ∷ [])) ∙ e) (named-or-last xs x text y)
    where
      by : (b : Bool) → bytes_eq (name z) text ≡ b → (if b then Some z else named text (xs ++ x ∷ [])) ≡ Some y → (named text (xs ++ x ∷ []) ≡ Some y → (named text xs ≡ Some y) ⊎ (x ≡ y))
          → (named text (z ∷ xs) ≡ Some y) ⊎ (x ≡ y)
      by true g f later = inl (more text z xs ∙ ap (λ b. if b then Some z else named text xs) g ∙ f)
      by false g f later = ⊎_elim (λ (h : named text xs ≡ Some y). inl (more text z xs ∙ ap (λ b. if b then Some z else named text xs) g ∙ h)) (λ (h : x ≡ y). inr h) (later f)

at-end : {A : Type 0} (xs : List A) (x : A) (ys : List A) → slice_get (xs ++ x ∷ ys) (length xs) ≡ Some x
at-end [] x ys = refl
at-end (y ∷ xs) x ys = at-end xs x ys

-- ---- sizes

formals-sized : (xs : List Local) → Each IsFormal xs → LocalsSized xs
formals-sized [] h = tt
formals-sized (x ∷ xs) h =
    (λ t e. let same : h.0.scalar ≡ t = let s = h.0.single in cc in subst (λ u. Rattle.rvc_base.specs.Storing.IsSize u) same h.0.size, formals-sized xs h.1)

-- ---- what a draft begins with

-- code that begins with a draft begins with what was there before
begins-before : (old new : Draft) (code : List Instr) (routine : Routine) → new.instrs.items ≡ old.instrs.items ++ code → new.routines.items ≡ old.routines.items ++ routine ∷ [] → (whole : Code) → BeginsWith new whole → BeginsWith old whole
begins-before old new code routine is routines whole b = record {
  more = code ++ b.more;
  instrs = b.instrs ∙ ap (λ xs. xs ++ b.more) is ∙ append_assoc old.instrs.items code b.more;
  others = routine ∷ b.others;
  routines = b.routines ∙ ap (λ xs. xs ++ b.others) routines ∙ append_assoc old.routines.items (routine ∷ []) b.others;
}

-- the routine that was added last
last-there : (old new : Draft) (routine : Routine) → new.routines.items ≡ old.routines.items ++ routine ∷ [] → (whole : Code) → BeginsWith new whole → slice_get whole.routines (length old.routines.items) ≡ Some routine
last-there old new routine routines whole b =
    ap (λ rs. slice_get rs (length old.routines.items)) (b.routines ∙ ap (λ xs. xs ++ b.others) routines ∙ append_assoc old.routines.items (routine ∷ []) b.others)
    ∙ at-end old.routines.items routine b.others

-- instructions that fit as those of a routine with so many results
record FitsSo (whole : Code) (callable base : ℕ) (code : List Instr) (results : ℕ) : Type 0 where
  body : List Instr
  is : code ≡ body ++ op.Return ∷ []
  fits : Fits whole callable whole.cells base 0 body results (base + length body) results

bodies-more : (old new : Draft) (code : List Instr) (routine : Routine) → new.instrs.items ≡ old.instrs.items ++ code → new.routines.items ≡ old.routines.items ++ routine ∷ [] → routine.start ≡ length old.instrs.items
    → old.cells ≤ new.cells → HoldsRoutines old
    → ((whole : Code) → BeginsWith new whole → new.cells ≤ whole.cells → FitsSo whole (length old.routines.items) (length old.instrs.items) code routine.results)
    → HoldsRoutines new
bodies-more old new code routine is routines start grown holds fitting whole rest b room rows =
    let base = length old.instrs.items in
    let number = length old.routines.items in
    let fit = fitting whole b room in
    let stands : StandsAt whole.instrs base code = stood-in whole old.instrs.items new.instrs.items code b.more is b.instrs in
    let here : StandsAt whole.instrs base (fit.body ++ op.Return ∷ []) = subst (StandsAt whole.instrs base) fit.is stands in
    let size : length code ≡ length fit.body + 1 = ap length fit.is ∙ length-append fit.body (op.Return ∷ []) in
    let long : length new.instrs.items ≡ base + length fit.body + 1 = let e = ap length is ∙ length-append old.instrs.items code in omega (arith, e, size) in
    let many : length new.routines.items ≡ number + 1 = ap length routines ∙ length-append old.routines.items (routine ∷ []) in
    let among : number < length whole.routines = let e = ap length b.routines ∙ length-append new.routines.items b.others in omega (arith, e, many) in
    let leaves : results_of whole number ≡ routine.results = ap (λ o. elim o [ None ↦ 0 | Some r ↦ r.results ]) (last-there old new routine routines whole b) in
    let later : AreBodies whole (base + length fit.body + 1) (number + 1) rest = subst (λ p. AreBodies whole p (number + 1) rest) long (subst (λ k. AreBodies whole (length new.instrs.items) k rest) many rows) in
    let one : AreBodies whole base number (base ∷ rest) = body_more base (base + length fit.body) number rest (record {
      callable = number;
      before = omega arith;
      routines = omega (arith, among);
      instrs = fit.body;
      left = routine.results;
      last = op.Return;
      at_end = refl;
      stands = stands_left whole.instrs base fit.body (op.Return ∷ []) here;
      fits = fit.fits;
      ends = (stands_right whole.instrs base fit.body (op.Return ∷ []) here).0;
      is_end = (among, sym leaves);
    }) later in
    let all : AreBodies whole 0 0 (starts old ++ (base ∷ rest)) = holds whole (base ∷ rest) (begins-before old new code routine is routines whole b) (omega (arith, grown, room)) one in
    let begin : starts new ++ rest ≡ starts old ++ (base ∷ rest) =
    ap (λ rs. map (λ r. r.start) rs ++ rest) routines ∙ ap (λ es. es ++ rest) (starts-more old.routines.items routine) ∙ append_assoc (starts old) (routine.start ∷ []) rest
    ∙ ap (λ p. starts old ++ (p ∷ rest)) start in
    subst (AreBodies whole 0 0) (sym begin) all
  where
    starts-more : (rs : List Routine) (r : Routine) → map (λ r. r.start) (rs ++ r ∷ []) ≡ map (λ r. r.start) rs ++ r.start ∷ []
    starts-more [] r = refl
    starts-more (x ∷ rs) r = ap (λ es. x.start ∷ es) (starts-more rs r)

-- ---- functions and procedures of an actor

module _ (actor : Actor) (sound : IsSound actor) where
  abbrev globals : List Name
  globals = globals_of actor

  abbrev low : ℕ
  low = state_cells actor

  below-cells : (n : ℕ) → low ≤ n → AreBelow n globals
  below-cells n le = each-below n (var_seats 0 actor.vars) (vars-below n 0 actor.vars (omega (arith, le)))

  laid : AreLaid globals low low low []
  laid = globals-laid actor.vars low low low sound.vars (omega arith) (omega arith)

  pub fun-found : (k : ℕ) (f : Fun) → slice_get actor.funs k ≡ Some f → fun_named f.name actor.funs ≡ Some f
  fun-found k f e =
      found-at (λ (x : Fun). x.name) fun_named (λ text. refl) (λ text x xs. refl) actor.funs k f
      (distinct-right (map (λ x. x.name) actor.vars) (map (λ f. f.name) actor.funs) (distinct-left (map (λ x. x.name) actor.vars ++ map (λ f. f.name) actor.funs) (map (λ p. p.name) actor.procs) sound.distinct)) e

  pub proc-found : (k : ℕ) (p : Proc) → slice_get actor.procs k ≡ Some p → proc_named p.name actor.procs ≡ Some p
  proc-found k p e =
      found-at (λ (x : Proc). x.name) proc_named (λ text. refl) (λ text x xs. refl) actor.procs k p
      (distinct-right (map (λ x. x.name) actor.vars ++ map (λ f. f.name) actor.funs) (map (λ p. p.name) actor.procs) sound.distinct) e

  fun-sized : (k : ℕ) (f : Fun) → slice_get actor.funs k ≡ Some f → FunSized f
  fun-sized k f e =
      let is : IsFun (names_of actor) f = each-at (IsFun (names_of actor)) actor.funs k f sound.funs e in
      record { formals = formals-sized f.formals is.formals; locals = locals-sized f.locals (with_locals f.formals (names_of actor)) is.locals; result = is.result }

  proc-sized : (k : ℕ) (p : Proc) → slice_get actor.procs k ≡ Some p → ProcSized p
  proc-sized k p e =
      let is : IsProc actor.procs (names_of actor) p = each-at (IsProc actor.procs (names_of actor)) actor.procs k p sound.procs e in
      record { formals = formals-sized p.formals is.formals; locals = locals-sized p.locals (with_locals p.formals (names_of actor)) is.locals }

  -- with more routines and cells
  wider : (whole : Code) (k n j m : ℕ) (fs : List Function) → k ≤ j → n ≤ m → HasRoutines whole k n fs → HasRoutines whole j m fs
  wider whole k n j m fs le ge has text f e =
      let one = has text f e in
      ((let r = one.0 in omega (arith, r, le)), one.1, record { first = one.2.first; row = one.2.row; low_end = one.2.low_end; high_end = (let h = one.2.high_end in omega (arith, h, ge)); sizes = one.2.sizes })

  pub functions-more : (fs now : List Function) (k : ℕ) (f : Fun) (old new : Draft) → HoldsFunctions actor fs old → slice_get actor.funs k ≡ Some f → AddsFunction globals f fs now old new → HoldsFunctions actor now new
  functions-more fs now k f old new holds there added =
      let g = added.function in
      let one = added.added in
      let base = length old.instrs.items in
      let sized = fun-sized k f there in
      let grows = body_grows one.has.body in
      let grown : old.cells ≤ new.cells = omega (arith, grows) in
      let many : length new.routines.items ≡ length old.routines.items + 1 = ap length one.routines ∙ length-append old.routines.items (one.routine ∷ []) in
      subst (λ gs. HoldsFunctions actor gs new) (sym added.is) (record {
        state = let le = holds.state in omega (arith, le, grown);
        stand = λ whole b.
            routine_more fs f g one.routine base old.cells new.cells one.code (holds.stand whole (begins-before old new one.code one.routine one.is one.routines whole b)) one.has
            (fun-found k f there) sized (ap (slice_get whole.routines) one.number ∙ last-there old new one.routine one.routines whole b) one.start
            (stood-in whole old.instrs.items new.instrs.items one.code b.more one.is b.instrs);
        called = λ whole b text h e.
            ⊎_elim
            (λ (before : function_named text fs ≡ Some h).
            wider whole (length old.routines.items) old.cells (length new.routines.items) new.cells fs (omega (arith, many)) grown
            (holds.called whole (begins-before old new one.code one.routine one.is one.routines whole b)) text h before)
            (λ (last : g ≡ h).
            subst (λ x. (x.routine < length new.routines.items) × (results_of whole x.routine ≡ 1) × HasFormals 0 new.cells x) last (
              (let n = one.number in omega (arith, n, many)),
              ap (λ o. elim o [ None ↦ 0 | Some r ↦ r.results ]) (ap (slice_get whole.routines) one.number ∙ last-there old new one.routine one.routines whole b) ∙ one.results,
              record { first = old.cells; row = one.has.row; low_end = omega arith; high_end = omega (arith, grows); sizes = sizes_of f.formals g.formals one.has.formals sized.formals },
            ))
            (named-or-last (λ (x : Function). x.text) function_named (λ text. refl) (λ text x xs. refl) fs g text h e);
        bodies = bodies-more old new one.code one.routine one.is one.routines one.start grown holds.bodies (λ whole b room.
            let has = wider whole (length old.routines.items) old.cells (length old.routines.items) whole.cells fs (omega arith) (omega (arith, grown, room))
            (holds.called whole (begins-before old new one.code one.routine one.is one.routines whole b)) in
            let fit : FitsAsRoutine whole (length old.routines.items) whole.cells base one.code =
            routine_fits whole (length old.routines.items) whole.cells globals fs f g base old.cells new.cells one.code has (below-cells old.cells holds.state) sized room (stood-in whole old.instrs.items new.instrs.items one.code b.more one.is b.instrs) one.has in
            record { body = fit.body; is = fit.is; fits = subst (λ n. Fits whole (length old.routines.items) whole.cells base 0 fit.body n (base + length fit.body) n) (sym one.results) fit.fits });
        count = let c = holds.count in let l = length-append fs (g ∷ []) in omega (arith, many, c, l);
        first = λ j h e.
            ⊎_elim (λ (before : slice_get fs j ≡ Some h). holds.first j h before)
            (λ (last : (j ≡ length fs) × (g ≡ h)).
            let place = last.0 in
            let c = holds.count in
            let number = one.number in
            let same : g.routine ≡ h.routine = ap (λ (x : Function). x.routine) last.1 in
            omega (arith, place, c, number, same)) (last-or-before fs g j h e);
      })

  pub procedures-more : (fs : List Function) (ps now : List Procedure) (k : ℕ) (p : Proc) (old new : Draft) → HoldsProcedures actor fs ps old → slice_get actor.procs k ≡ Some p → AddsProcedure globals fs p ps now old new
      → HoldsProcedures actor fs now new
  procedures-more fs ps now k p old new holds there added =
      let g = added.procedure in
      let one = added.added in
      let base = length old.instrs.items in
      let sized = proc-sized k p there in
      let grows = proc_grows one.has.body in
      let grown : old.cells ≤ new.cells = omega (arith, grows) in
      let many : length new.routines.items ≡ length old.routines.items + 1 = ap length one.routines ∙ length-append old.routines.items (one.routine ∷ []) in
      subst (λ gs. HoldsProcedures actor fs gs new) (sym added.is) (record {
        state = let le = holds.state in omega (arith, le, grown);
        stand = λ whole b.
            procedure_more ps p g one.routine base old.cells new.cells one.code (holds.stand whole (begins-before old new one.code one.routine one.is one.routines whole b)) one.has
            (proc-found k p there) sized (ap (slice_get whole.routines) one.number ∙ last-there old new one.routine one.routines whole b) one.start
            (stood-in whole old.instrs.items new.instrs.items one.code b.more one.is b.instrs);
        called = λ whole b.
            let before = holds.called whole (begins-before old new one.code one.routine one.is one.routines whole b) in
            record {
              functions = wider whole (length old.routines.items) old.cells (length new.routines.items) new.cells fs (omega (arith, many)) grown before.functions;
              procedures = λ text h e.
                  ⊎_elim
                  (λ (earlier : procedure_named text ps ≡ Some h).
                  let two = before.procedures text h earlier in (
                    (let r = two.0 in omega (arith, r, many)),
                    two.1,
                    record { first = two.2.first; row = two.2.row; low_end = two.2.low_end; high_end = (let x = two.2.high_end in omega (arith, x, grown)); sizes = two.2.sizes },
                  ))
                  (λ (last : g ≡ h).
                  subst (λ x. (x.routine < length new.routines.items) × (results_of whole x.routine ≡ 0) × HasCells 0 new.cells x.formals) last (
                    (let n = one.number in omega (arith, n, many)),
                    ap (λ o. elim o [ None ↦ 0 | Some r ↦ r.results ]) (ap (slice_get whole.routines) one.number ∙ last-there old new one.routine one.routines whole b) ∙ one.results,
                    record { first = old.cells; row = one.has.row; low_end = omega arith; high_end = omega (arith, grows); sizes = sizes_of p.formals g.formals one.has.formals sized.formals },
                  ))
                  (named-or-last (λ (x : Procedure). x.text) procedure_named (λ text. refl) (λ text x xs. refl) ps g text h e);
            };
        bodies = bodies-more old new one.code one.routine one.is one.routines one.start grown holds.bodies (λ whole b room.
            let before = begins-before old new one.code one.routine one.is one.routines whole b in
            let has : HasRunRoutines whole (length old.routines.items) whole.cells (calling fs ps) =
            has-more whole (length old.routines.items) old.cells whole.cells (calling fs ps) (omega (arith, grown, room)) (holds.called whole before) in
            let fit : FitsAsProc whole (length old.routines.items) whole.cells base one.code =
            proc_fits whole (length old.routines.items) whole.cells (calling fs ps) has globals p g base old.cells new.cells one.code (below-cells old.cells holds.state) laid.2 sized room
            (stood-in whole old.instrs.items new.instrs.items one.code b.more one.is b.instrs) one.has in
            record { body = fit.body; is = fit.is; fits = subst (λ n. Fits whole (length old.routines.items) whole.cells base 0 fit.body n (base + length fit.body) n) (sym one.results) fit.fits });
        count = let c = holds.count in let l = length-append ps (g ∷ []) in omega (arith, many, c, l);
        first = holds.first;
        next = λ j h e.
            ⊎_elim (λ (before : slice_get ps j ≡ Some h). holds.next j h before)
            (λ (last : (j ≡ length ps) × (g ≡ h)).
            let place = last.0 in
            let c = holds.count in
            let number = one.number in
            let same : g.routine ≡ h.routine = ap (λ (x : Procedure). x.routine) last.1 in
            omega (arith, place, c, number, same)) (last-or-before ps g j h e);
      })

  -- ---- at first, and behind all

  pub no-functions : (draft : Draft) → draft.instrs.items ≡ [] → draft.routines.items ≡ [] → draft.cells ≡ low → HoldsFunctions actor [] draft
  no-functions draft instrs routines cells = record {
    state = omega (arith, cells);
    stand = λ whole b. subst (AreRoutines globals whole actor.funs low []) (sym cells) no_routine;
    called = λ whole b text f e. absurd (cc);
    bodies = λ whole rest b room rows.
        let begin : starts draft ≡ [] = ap (map (λ r. r.start)) routines in
        subst (λ es. AreBodies whole 0 0 (es ++ rest)) (sym begin)
        (subst (λ n. AreBodies whole n 0 rest) (ap length instrs) (subst (λ k. AreBodies whole (length draft.instrs.items) k rest) (ap length routines) rows));
    count = ap length routines;
    first = λ k g e. cc;
  }

  pub no-procedures : (fs : List Function) (draft : Draft) → HoldsFunctions actor fs draft → HoldsProcedures actor fs [] draft
  no-procedures fs draft holds = record {
    state = holds.state;
    stand = λ whole b. no_procedure draft.cells (holds.stand whole b);
    called = λ whole b. record { functions = holds.called whole b; procedures = λ text p e. absurd (cc) };
    bodies = holds.bodies;
    count = let c = holds.count in omega (arith, c);
    first = holds.first;
    next = λ k g e. cc;
  }

  pub all-served : (fs : List Function) (ps : List Procedure) (draft : Draft) → HoldsProcedures actor fs ps draft → IsServed actor (calling fs ps) draft
  all-served fs ps draft holds = record {
    high = draft.cells;
    state = holds.state;
    below = omega arith;
    stand = λ whole more goes. holds.stand whole (record { more = more; instrs = goes.0; others = []; routines = goes.1 ∙ sym (append-nil draft.routines.items) });
    called = λ whole more goes. holds.called whole (record { more = more; instrs = goes.0; others = []; routines = goes.1 ∙ sym (append-nil draft.routines.items) });
    count = holds.count;
    first = holds.first;
    next = holds.next;
  }
