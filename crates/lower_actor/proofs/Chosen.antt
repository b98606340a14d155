-- Functions and procedures that have routines, and those that are left.
use Rattle.std.proofs.Common.{◌≡◌, ℕ, zero, suc, ◌<◌, ◌≤◌, ◌⊎◌, inl, inr, ⊎_elim, Bool, true, false, List, [], ◌∷◌, ◌++◌, length, map, refl, sym, ap, subst, ◌∙◌, None, Some, Result, Ok, Err, arith}
use Rattle.std.specs.Prelude.{IfErr, OnOk, slice_get, slice_index_or, slice_set}
use Rattle.std.proofs.lemmas.List.{length-replicate, length-set}
use Rattle.std.specs.Result.{IsErrAnd}
use Rattle.cal_model.specs.declared.bound.Bound.{Bound}
use Rattle.cal_model.specs.Actor.{Actor, Fun, Proc}
use Rattle.cal_model.specs.Sound.{IsSound}
use Rattle.lower_base.specs.declared.draft.Draft.{Draft}
use Rattle.lower_base.specs.Callees.{Function}
use Rattle.lower_base.specs.Routining.{left_out_fun}
use Rattle.lower_stmt.specs.Proceeding.{left_out_proc}
use Rattle.lower_base.specs.declared.fault.LowerFault.{LowerFault}
use Rattle.lower_base.specs.declared.fault.LowerFault.TheVariants as lowering
use Rattle.lower_stmt.specs.Procedures.{Procedure, Routines, routines_of}
use Rattle.lower_stmt.specs.declared.callees.ProcCallee.{ProcCallee}
use Rattle.lower_base.specs.declared.callees.Callee.{Callee}
use Rattle.cal_model.specs.View.{actor_of}
use Rattle.action_lower.specs.FiringCode.{globals_of}
use Rattle.lower_actor.specs.Calls.{is_made, none_made, unmade}
use Rattle.lower_actor.specs.Drafted.{AddsFunction, AddsProcedure, FunctionsSoFar, HoldsFunctions, HoldsProcedures, IsServed, ProceduresSoFar}
use Rattle.lower_actor.specs.declared.fault.ActorFault.{ActorFault}
use Rattle.lower_actor.specs.declared.fault.ActorFault.TheVariants.{Memory, NotLowered}
use Rattle.lower_actor.specs.Faults.{AreWhole, IsActorFault, IsLeftOut, IsWhole, IsWhyAction, IsWhyActions, OnlyMemory, actor_fault}
use Rattle.lower_actor.specs.Settled.{AreFunctions, AreProcedures, AreSettled, HasFunction, HasProcedure, IsFunction, IsProcedure, calling, function_more, no_function, no_procedure, procedure_more}
use Rattle.lower_actor.proofs.Likeness.{mapped}
use Rattle.lower_actor.proofs.Routined.{functions-more, procedures-more}
use Rattle.lower_actor.proofs.Sent.{below, found}

pub still-there : {A : Type 0} (xs more : List A) (k : ℕ) (x : A) → slice_get xs k ≡ Some x → slice_get (xs ++ more) k ≡ Some x
still-there [] more k x e = absurd (cc)
still-there (y ∷ xs) more zero x e = e
still-there (y ∷ xs) more (suc k) x e = still-there xs more k x e

pub at-end : {A : Type 0} (xs : List A) (x : A) → slice_get (xs ++ x ∷ []) (length xs) ≡ Some x
at-end [] x = refl
at-end (y ∷ xs) x = at-end xs x

pub same-item : {A : Type 0} (xs : List A) (k j : ℕ) (x y : A) → k ≡ j → slice_get xs k ≡ Some x → slice_get xs j ≡ Some y → x ≡ y
same-item xs k j x y same e f = let two : Some x ≡ Some y = sym e ∙ ap (slice_get xs) same ∙ f in cc

-- ---- marks

set-marked : (made : List Bool) (k j : ℕ) → is_made (slice_set made k true) j ≡ true → (k ≡ j) ⊎ (is_made made j ≡ true)
set-marked [] k j h = inr h
set-marked (b ∷ made) zero zero h = inl refl
set-marked (b ∷ made) zero (suc j) h = inr h
set-marked (b ∷ made) (suc k) zero h = inr h
set-marked (b ∷ made) (suc k) (suc j) h = ⊎_elim (λ (same : k ≡ j). inl (ap suc same)) (λ (was : is_made made j ≡ true). inr was) (set-marked made k j h)

pub fewer-unmade : (made : List Bool) (k : ℕ) → k < length made → is_made made k ≡ false → unmade (slice_set made k true) < unmade made
fewer-unmade [] k low h = absurd (omega (arith, low))
fewer-unmade (true ∷ made) zero low h = absurd (cc)
fewer-unmade (false ∷ made) zero low h = omega arith
fewer-unmade (true ∷ made) (suc k) low h = let less = fewer-unmade made k (omega (arith, low)) h in omega (arith, less)
fewer-unmade (false ∷ made) (suc k) low h = let less = fewer-unmade made k (omega (arith, low)) h in omega (arith, less)

none-is-made : (n k : ℕ) → is_made (none_made n) k ≡ true → ⊥
none-is-made zero k h = absurd (cc)
none-is-made (suc n) zero h = absurd (cc)
none-is-made (suc n) (suc k) h = none-is-made n k h

module _ (actor : Actor) (sound : IsSound actor) where
  pub function-taken : (fs now : List Function) (made marked : List Bool) (k : ℕ) (f : Fun) (old new : Draft) → FunctionsSoFar actor fs made old → marked ≡ slice_set made k true → slice_get actor.funs k ≡ Some f
      → left_out_fun fs (globals_of actor) f ≡ None → AddsFunction (globals_of actor) f fs now old new → FunctionsSoFar actor now marked new
  function-taken fs now made marked k f old new so_far is there whole added =
      let g = added.function in
      let one = added.added in
      let function : IsFunction f g = record { text = one.has.text; result = one.has.result; formals = one.has.formals } in
      record {
        holds = functions-more actor sound fs now k f old new so_far.holds there added;
        known = record {
          are = subst (λ gs. AreFunctions actor gs) (sym added.is) (function_more fs k f g so_far.known.are there function whole);
          marks = λ j h e marks.
              ⊎_elim
              (λ (same : k ≡ j).
              let is_f : f ≡ h = same-item actor.funs k j f h same there e in
              subst (HasFunction now) is_f (record { place = length fs; function = g; there = ap (λ gs. slice_get gs (length fs)) added.is ∙ at-end fs g; is = function }))
              (λ (was : is_made made j ≡ true).
              let has = so_far.known.marks j h e was in
              record { place = has.place; function = has.function; there = ap (λ gs. slice_get gs has.place) added.is ∙ still-there fs (g ∷ []) has.place has.function has.there; is = has.is })
              (set-marked made k j (subst (λ bs. is_made bs j ≡ true) is marks));
          count = ap length is ∙ length-set made k true ∙ so_far.known.count;
        };
      }

  pub procedure-taken : (fs : List Function) (ps now : List Procedure) (made marked : List Bool) (k : ℕ) (p : Proc) (old new : Draft) → ProceduresSoFar actor fs ps made old → marked ≡ slice_set made k true → slice_get actor.procs k ≡ Some p
      → left_out_proc (calling fs ps) (globals_of actor) p ≡ None → AddsProcedure (globals_of actor) fs p ps now old new → ProceduresSoFar actor fs now marked new
  procedure-taken fs ps now made marked k p old new so_far is there whole added =
      let g = added.procedure in
      let one = added.added in
      let procedure : IsProcedure p g = record { text = one.has.text; formals = one.has.formals } in
      record {
        holds = procedures-more actor sound fs ps now k p old new so_far.holds there added;
        known = record {
          are = subst (λ gs. AreProcedures actor fs gs) (sym added.is) (procedure_more ps k p g so_far.known.are there procedure whole);
          marks = λ j h e marks.
              ⊎_elim
              (λ (same : k ≡ j).
              let is_p : p ≡ h = same-item actor.procs k j p h same there e in
              subst (HasProcedure now) is_p (record { place = length ps; procedure = g; there = ap (λ gs. slice_get gs (length ps)) added.is ∙ at-end ps g; is = procedure }))
              (λ (was : is_made made j ≡ true).
              let has = so_far.known.marks j h e was in
              record { place = has.place; procedure = has.procedure; there = ap (λ gs. slice_get gs has.place) added.is ∙ still-there ps (g ∷ []) has.place has.procedure has.there; is = has.is })
              (set-marked made k j (subst (λ bs. is_made bs j ≡ true) is marks));
          count = ap length is ∙ length-set made k true ∙ so_far.known.count;
        };
      }

-- ---- where a list is mapped

pub mapped-there : {A B : Type 0} (f : A → B) (xs : List A) (k : ℕ) (x : A) → slice_get xs k ≡ Some x → slice_get (map f xs) k ≡ Some (f x)
mapped-there f [] k x e = absurd (cc)
mapped-there f (y ∷ xs) zero x e = let same : y ≡ x = cc in ap (λ z. Some (f z)) same
mapped-there f (y ∷ xs) (suc k) x e = mapped-there f xs k x e

pub mapped-past : {A B : Type 0} (f : A → B) (xs : List A) (k : ℕ) (y : B) → length xs ≤ k → slice_get (map f xs) k ≡ Some y → ⊥
mapped-past f [] k y far e = cc
mapped-past f (x ∷ xs) zero y far e = omega (arith, far)
mapped-past f (x ∷ xs) (suc k) y far e = mapped-past f xs k y (omega (arith, far)) e

-- what stands at a number
pub item-is : {A B : Type 0} (f : A → B) (xs : List A) (k : ℕ) (x : A) (y : B) → slice_get (map f xs) k ≡ Some y → x ≡ slice_index_or xs k x → f x ≡ y
item-is f xs k x y there item =
    let under = mapped f xs k y there in
    ap f (item ∙ found xs k under.0 x under.1) ∙ under.2

pub marked-low : {A B : Type 0} (xs : List A) (made : List B) (k : ℕ) (x : A) → slice_get xs k ≡ Some x → length made ≡ length xs → k < length made
marked-low xs made k x there count = let low = below xs k x there in omega (arith, low, count)

-- ---- why actions aren't lowered

pub why-actions : (rs : Routines) (b : Bound) (n : ℕ) (fault : LowerFault) (mine : ActorFault) → mine ≡ actor_fault fault → n < length b.actions.items → AreWhole rs b n → IsWhyAction rs b n fault → IsWhyActions rs b mine
why-actions rs b n lowering.Memory mine is low before why = subst (IsWhyActions rs b) (sym is) tt
why-actions rs b n lowering.TooLong mine is low before why = subst (IsWhyActions rs b) (sym is) tt
why-actions rs b n lowering.TooManyCells mine is low before why = subst (IsWhyActions rs b) (sym is) tt
why-actions rs b n (lowering.NotLowered at) mine is low before why = subst (IsWhyActions rs b) (sym is) (record { action = n; there = low; before = before; part = why })

pub why-err : {T E : Type 0} (r : Result T E) (P Q : E → Type 0) → IsErrAnd r P → ((e : E) → P e → Q e) → IfErr r Q
why-err (Ok v) P Q h k = tt
why-err (Err e) P Q h k = k e h

-- ---- at first

pub functions-at-first : (actor : Actor) (fs : List Function) (made : List Bool) (n : ℕ) (draft : Draft) → HoldsFunctions actor [] draft → fs ≡ [] → made ≡ none_made n → n ≡ length actor.funs → FunctionsSoFar actor fs made draft
functions-at-first actor fs made n draft holds none is count =
    subst (λ gs. FunctionsSoFar actor gs made draft) (sym none)
    (record {
      holds = holds;
      known = record { are = no_function; marks = λ k f e marks. absurd (none-is-made n k (subst (λ bs. is_made bs k ≡ true) is marks)); count = ap length is ∙ length-replicate n false ∙ count };
    })

pub procedures-at-first : (actor : Actor) (fs : List Function) (ps : List Procedure) (made : List Bool) (n : ℕ) (draft : Draft) → HoldsProcedures actor fs [] draft → ps ≡ [] → made ≡ none_made n → n ≡ length actor.procs
    → ProceduresSoFar actor fs ps made draft
procedures-at-first actor fs ps made n draft holds none is count =
    subst (λ gs. ProceduresSoFar actor fs gs made draft) (sym none)
    (record {
      holds = holds;
      known = record { are = no_procedure; marks = λ k p e marks. absurd (none-is-made n k (subst (λ bs. is_made bs k ≡ true) is marks)); count = ap length is ∙ length-replicate n false ∙ count };
    })

-- ---- the whole

routines-same : (cs ds : List Callee) (ps qs : List ProcCallee) → cs ≡ ds → ps ≡ qs → routines_of cs ps ≡ routines_of ds qs
routines-same cs ds ps qs same also = ap (λ cs. routines_of cs ps) same ∙ ap (routines_of ds) also

pub served-same : (actor : Actor) (cs ds : List Callee) (ps qs : List ProcCallee) (draft : Draft) → ds ≡ cs → qs ≡ ps → IsServed actor (routines_of cs ps) draft → IsServed actor (routines_of ds qs) draft
served-same actor cs ds ps qs draft same also served = subst (λ rs. IsServed actor rs draft) (sym (routines-same ds cs qs ps same also)) served

pub is-whole : (b : Bound) (cs ds : List Callee) (ps qs : List ProcCallee) → ds ≡ cs → qs ≡ ps → AreSettled (actor_of b) (routines_of cs ps) → AreWhole (routines_of ds qs) b (length b.actions.items) → IsWhole b
is-whole b cs ds ps qs same also settled whole = record {
  routines = routines_of cs ps;
  settled = settled;
  actions = subst (λ rs. AreWhole rs b (length b.actions.items)) (routines-same ds cs qs ps same also) whole;
}

pub whole-why : (b : Bound) (cs ds : List Callee) (ps qs : List ProcCallee) → ds ≡ cs → qs ≡ ps → AreSettled (actor_of b) (routines_of cs ps) → (e : ActorFault) → IsWhyActions (routines_of ds qs) b e → IsActorFault b e
whole-why b cs ds ps qs same also settled Memory h = tt
whole-why b cs ds ps qs same also settled (NotLowered at) h = record {
  routines = routines_of cs ps;
  settled = settled;
  part = subst (λ rs. IsLeftOut rs b at) (routines-same ds cs qs ps same also) h;
}

-- out of memory is such a fault
pub parts-why : (b : Bound) (e : ActorFault) → OnlyMemory e → IsActorFault b e
parts-why b Memory h = tt
parts-why b (NotLowered at) h = absurd h

pub if-ok : {T E : Type 0} (r : Result T E) (P : Type 0) → P → OnOk r P
if-ok (Ok v) P h = h
if-ok (Err e) P h = tt
