-- Functions and procedures of which all that they call have routines.
use Rattle.std.proofs.Common.{◌≡◌, ℕ, zero, suc, ◌+◌, ◌<◌, ◌⊎◌, inl, inr, ⊎_elim, Bool, true, false, List, [], ◌∷◌, ◌++◌, length, refl, sym, ap, subst, ◌∙◌, Option, None, Some, arith}
use Rattle.std.specs.Prelude.{slice_get, if◌then◌else◌}
use Rattle.std.specs.Str.{bytes_eq}
use Rattle.std.proofs.lemmas.Slice.Eq.{bytes_eq-Decides}
use Rattle.cal_ast.specs.Tree as tree
use Rattle.cal_ast.specs.Tree.{Tree}
use Rattle.cal_model.specs.declared.bound.Bound.{Bound}
use Rattle.cal_model.specs.Actor.{Fun, Local, Proc}
use Rattle.cal_model.specs.Call.{fun_named}
use Rattle.cal_model.specs.Sound.{Each, EachCall, FunCallsBelow, IsFun, IsProc, IsSound, ProcCallsBelow, StartCalls, names_of}
use Rattle.cal_model.specs.Statement.{proc_named}
use Rattle.cal_model.specs.View.{actor_of}
use Rattle.lower_base.specs.Callees.{Function}
use Rattle.lower_base.specs.Routining.{left_out_fun}
use Rattle.lower_stmt.specs.Proceeding.{left_out_proc}
use Rattle.lower_stmt.specs.Procedures.{Procedure}
use Rattle.action_lower.specs.FiringCode.{globals_of}
use Rattle.law_forms.specs.Lowerable.{HasRoutine}
use Rattle.law_bodies.specs.Standing.{HasProcRoutine}
use Rattle.law_bodies.proofs.Calls.{StartIs, locals_any}
use Rattle.law_bodies.proofs.Routines.{fun_none, proc_none}
use Rattle.lower_actor.specs.Calls.{AllMade, IsAmong, LacksOne, Numbers, calls_of_fun, calls_of_proc, fun_number, is_made, no_numbers, number_from, proc_number, with_calls, with_function, with_number, with_procedure, with_start, with_starts}
use Rattle.lower_actor.specs.Drafted.{KnownFunctions, KnownProcedures, WaitsFunction, WaitsProcedure}
use Rattle.lower_actor.specs.Settled.{AllFunctions, AllProcedures, HasFunction, calling}
use Rattle.lower_actor.proofs.Chosen.{at-end, still-there}
use Rattle.lower_actor.proofs.Routined.{each-at}
use Rattle.lower_actor.proofs.WholeRoutines.{IsAt, function-routine, place-of, procedure-routine, ready}

-- ---- what holds of all numbers that a part calls, and what holds of each call

record Two (A B : Type 0) : Type 0 where
  each : A
  kept : B

module _ (b : Bound) (P Q : List ℕ → Type 0) (S : Numbers → Type 0) where
  module _ (f : (text : List ℕ) (c : Numbers) → S (with_function b text c) → Two (P text) (S c)) (q : (text : List ℕ) (c : Numbers) → S (with_procedure b text c) → Two (Q text) (S c)) where
    calls-each : (t : Tree) (c : Numbers) → S (with_calls b t c) → Two (EachCall P Q t) (S c)
    calls-each (tree.cons t ts) c h =
        let two = calls-each ts (with_calls b t c) h in
        let one = calls-each t c two.kept in
        record { each = (one.each, two.each); kept = one.kept }
    calls-each (tree.present t) c h = calls-each t c h
    calls-each (tree.call name args at) c h =
        let two = calls-each args (with_function b name c) h in
        let one = f name c two.kept in
        record { each = (one.each, two.each); kept = one.kept }
    calls-each (tree.paren e at) c h = calls-each e c h
    calls-each (tree.if_expr test first other at) c h =
        let three = calls-each other (with_calls b first (with_calls b test c)) h in
        let two = calls-each first (with_calls b test c) three.kept in
        let one = calls-each test c two.kept in
        record { each = (one.each, two.each, three.each); kept = one.kept }
    calls-each (tree.list items at) c h = calls-each items c h
    calls-each (tree.comp item gens at) c h =
        let two = calls-each gens (with_calls b item c) h in
        let one = calls-each item c two.kept in
        record { each = (one.each, two.each); kept = one.kept }
    calls-each (tree.gen shape name from to at) c h =
        let three = calls-each to (with_calls b from (with_calls b shape c)) h in
        let two = calls-each from (with_calls b shape c) three.kept in
        let one = calls-each shape c two.kept in
        record { each = (one.each, two.each, three.each); kept = one.kept }
    calls-each (tree.index base place at) c h =
        let two = calls-each place (with_calls b base c) h in
        let one = calls-each base c two.kept in
        record { each = (one.each, two.each); kept = one.kept }
    calls-each (tree.prefix op e at) c h = calls-each e c h
    calls-each (tree.binary op l r at) c h =
        let two = calls-each r (with_calls b l c) h in
        let one = calls-each l c two.kept in
        record { each = (one.each, two.each); kept = one.kept }
    calls-each (tree.type_of name args at) c h = calls-each args c h
    calls-each (tree.shape_arg name shape) c h = calls-each shape c h
    calls-each (tree.value_arg name value) c h = calls-each value c h
    calls-each (tree.assign name places value at) c h =
        let two = calls-each value (with_calls b places c) h in
        let one = calls-each places c two.kept in
        record { each = (one.each, two.each); kept = one.kept }
    calls-each (tree.call_stmt (tree.ident name place) args at) c h =
        let two = calls-each args (with_procedure b name c) h in
        let one = q name c two.kept in
        record { each = (one.each, two.each); kept = one.kept }
    calls-each (tree.if_stmt test first other at) c h =
        let three = calls-each other (with_calls b first (with_calls b test c)) h in
        let two = calls-each first (with_calls b test c) three.kept in
        let one = calls-each test c two.kept in
        record { each = (one.each, two.each, three.each); kept = one.kept }
    calls-each (tree.while_stmt test body at) c h =
        let two = calls-each body (with_calls b test c) h in
        let one = calls-each test c two.kept in
        record { each = (one.each, two.each); kept = one.kept }
    calls-each (tree.foreach_stmt shape name from to body at) c h =
        let four = calls-each body (with_calls b to (with_calls b from (with_calls b shape c))) h in
        let three = calls-each to (with_calls b from (with_calls b shape c)) four.kept in
        let two = calls-each from (with_calls b shape c) three.kept in
        let one = calls-each shape c two.kept in
        record { each = (one.each, two.each, three.each, four.each); kept = one.kept }
    calls-each (tree.block vars body at) c h =
        let two = calls-each body (with_calls b vars c) h in
        let one = calls-each vars c two.kept in
        record { each = (one.each, two.each); kept = one.kept }
    calls-each (tree.var shape name start changes at) c h =
        let two = calls-each start (with_calls b shape c) h in
        let one = calls-each shape c two.kept in
        record { each = (one.each, two.each); kept = one.kept }
    calls-each other c h = record { each = tt; kept = h }

    start-each : (o : Option Tree) (c : Numbers) → S (with_start b o c) → Two (StartIs P Q o) (S c)
    start-each None c h = record { each = tt; kept = h }
    start-each (Some e) c h = calls-each e c h

    starts-each : (xs : List Local) (c : Numbers) → S (with_starts b xs c) → Two (Each (StartCalls P Q) xs) (S c)
    starts-each [] c h = record { each = tt; kept = h }
    starts-each (x ∷ xs) c h =
        let two = starts-each xs (with_start b x.start c) h in
        let one = start-each x.start c two.kept in
        record { each = (one.each, two.each); kept = one.kept }

  module _ (f : (text : List ℕ) (c : Numbers) → P text → S c → S (with_function b text c)) (q : (text : List ℕ) (c : Numbers) → Q text → S c → S (with_procedure b text c)) where
    each-calls : (t : Tree) (c : Numbers) → EachCall P Q t → S c → S (with_calls b t c)
    each-calls (tree.cons t ts) c h s = each-calls ts (with_calls b t c) h.1 (each-calls t c h.0 s)
    each-calls (tree.present t) c h s = each-calls t c h s
    each-calls (tree.call name args at) c h s = each-calls args (with_function b name c) h.1 (f name c h.0 s)
    each-calls (tree.paren e at) c h s = each-calls e c h s
    each-calls (tree.if_expr test first other at) c h s = each-calls other (with_calls b first (with_calls b test c)) h.2 (each-calls first (with_calls b test c) h.1 (each-calls test c h.0 s))
    each-calls (tree.list items at) c h s = each-calls items c h s
    each-calls (tree.comp item gens at) c h s = each-calls gens (with_calls b item c) h.1 (each-calls item c h.0 s)
    each-calls (tree.gen shape name from to at) c h s = each-calls to (with_calls b from (with_calls b shape c)) h.2 (each-calls from (with_calls b shape c) h.1 (each-calls shape c h.0 s))
    each-calls (tree.index base place at) c h s = each-calls place (with_calls b base c) h.1 (each-calls base c h.0 s)
    each-calls (tree.prefix op e at) c h s = each-calls e c h s
    each-calls (tree.binary op l r at) c h s = each-calls r (with_calls b l c) h.1 (each-calls l c h.0 s)
    each-calls (tree.type_of name args at) c h s = each-calls args c h s
    each-calls (tree.shape_arg name shape) c h s = each-calls shape c h s
    each-calls (tree.value_arg name value) c h s = each-calls value c h s
    each-calls (tree.assign name places value at) c h s = each-calls value (with_calls b places c) h.1 (each-calls places c h.0 s)
    each-calls (tree.call_stmt (tree.ident name place) args at) c h s = each-calls args (with_procedure b name c) h.1 (q name c h.0 s)
    each-calls (tree.if_stmt test first other at) c h s = each-calls other (with_calls b first (with_calls b test c)) h.2 (each-calls first (with_calls b test c) h.1 (each-calls test c h.0 s))
    each-calls (tree.while_stmt test body at) c h s = each-calls body (with_calls b test c) h.1 (each-calls test c h.0 s)
    each-calls (tree.foreach_stmt shape name from to body at) c h s =
        each-calls body (with_calls b to (with_calls b from (with_calls b shape c))) h.3
        (each-calls to (with_calls b from (with_calls b shape c)) h.2 (each-calls from (with_calls b shape c) h.1 (each-calls shape c h.0 s)))
    each-calls (tree.block vars body at) c h s = each-calls body (with_calls b vars c) h.1 (each-calls vars c h.0 s)
    each-calls (tree.var shape name start changes at) c h s = each-calls start (with_calls b shape c) h.1 (each-calls shape c h.0 s)
    each-calls other c h s = s

    each-start : (o : Option Tree) (c : Numbers) → StartIs P Q o → S c → S (with_start b o c)
    each-start None c h s = s
    each-start (Some e) c h s = each-calls e c h s

    each-starts : (xs : List Local) (c : Numbers) → Each (StartCalls P Q) xs → S c → S (with_starts b xs c)
    each-starts [] c h s = s
    each-starts (x ∷ xs) c h s = each-starts xs (with_start b x.start c) h.1 (each-start x.start c h.0 s)

-- ---- numbers by names

record Numbered {A : Type 0} (name : A → List ℕ) (k : ℕ) (text : List ℕ) (xs : List A) (x : A) : Type 0 where
  place : ℕ
  is : number_from name k text xs ≡ Some (k + place)
  there : slice_get xs place ≡ Some x

record HasNumber {A : Type 0} (name : A → List ℕ) (k n : ℕ) (text : List ℕ) (xs : List A) : Type 0 where
  item : A
  place : ℕ
  is : n ≡ k + place
  there : slice_get xs place ≡ Some item
  same : name item ≡ text

module _ {A : Type 0} (name : A → List ℕ) where
  -- what has a number stands there
  number-at : (k n : ℕ) (text : List ℕ) (xs : List A) → number_from name k text xs ≡ Some n → HasNumber name k n text xs
  number-at k n text [] e = absurd (cc)
  number-at k n text (x ∷ xs) e = go (λ h. number-at (k + 1) n text xs h) (bytes_eq (name x) text) refl e
    where
      go : (number_from name (k + 1) text xs ≡ Some n → HasNumber name (k + 1) n text xs) → (y : Bool) → bytes_eq (name x) text ≡ y → (if y then Some k else number_from name (k + 1) text xs) ≡ Some n → HasNumber name k n text (x ∷ xs)
      go later true is h =
          let one : k ≡ n = cc in
          record { item = x; place = 0; is = omega (arith, one); there = refl; same = (bytes_eq-Decides (name x) text).0 is }
      go later false is h =
          let p = later h in
          let q = p.is in
          record { item = p.item; place = suc p.place; is = omega (arith, q); there = p.there; same = p.same }

  -- .. and what is found by a name has one
  numbered : (named : List ℕ → List A → Option A) → ((text : List ℕ) → named text [] ≡ None) → ((text : List ℕ) (x : A) (xs : List A) → named text (x ∷ xs) ≡ (if bytes_eq (name x) text then Some x else named text xs))
      → (k : ℕ) (text : List ℕ) (xs : List A) (x : A) → named text xs ≡ Some x → Numbered name k text xs x
  numbered named none more k text [] x e = let f : None ≡ Some x = sym (none text) ∙ e in absurd (cc)
  numbered named none more k text (y ∷ xs) x e = go (λ h. numbered named none more (k + 1) text xs x h) (bytes_eq (name y) text) refl (sym (more text y xs) ∙ e)
    where
      go : (named text xs ≡ Some x → Numbered name (k + 1) text xs x) → (z : Bool) → bytes_eq (name y) text ≡ z → (if z then Some y else named text xs) ≡ Some x → Numbered name k text (y ∷ xs) x
      go later true is h =
          let one : y ≡ x = cc in
          let first : k ≡ k + 0 = omega arith in
          record { place = 0; is = ap (λ z. if z then Some k else number_from name (k + 1) text xs) is ∙ ap Some first; there = ap (λ z. Some z) one }
      go later false is h =
          let p = later h in
          let next : (k + 1) + p.place ≡ k + suc p.place = omega arith in
          record { place = suc p.place; is = ap (λ z. if z then Some k else number_from name (k + 1) text xs) is ∙ p.is ∙ ap Some next; there = p.there }

-- ---- numbers that are marked

made-before : (made : List Bool) (o : Option ℕ) (xs : List ℕ) → AllMade made (with_number o xs) → AllMade made xs
made-before made None xs h = h
made-before made (Some n) xs h = λ place k e. h place k (still-there xs (n ∷ []) place k e)

made-last : (made : List Bool) (o : Option ℕ) (n : ℕ) (xs : List ℕ) → o ≡ Some n → AllMade made (with_number o xs) → is_made made n ≡ true
made-last made None n xs is h = absurd (cc)
made-last made (Some m) n xs is h = let same : m ≡ n = cc in h (length xs) n (at-end xs m ∙ ap Some same)

among-last : (xs : List ℕ) (n j : ℕ) → IsAmong (xs ++ n ∷ []) j → IsAmong xs j ⊎ (n ≡ j)
among-last [] n j (zero, e) = inr (cc)
among-last [] n j (suc place, e) = absurd (cc)
among-last (x ∷ xs) n j (zero, e) = inl (0, e)
among-last (x ∷ xs) n j (suc place, e) = ⊎_elim (λ (h : IsAmong xs j). inl (suc h.0, h.1)) (λ (h : n ≡ j). inr h) (among-last xs n j (place, e))

-- what holds of all numbers holds with one more
with-one : (H : ℕ → Type 0) (o : Option ℕ) (xs : List ℕ) → ((n : ℕ) → o ≡ Some n → H n) → ((j : ℕ) → IsAmong xs j → H j) → (j : ℕ) → IsAmong (with_number o xs) j → H j
with-one H None xs one all j among = all j among
with-one H (Some n) xs one all j among = ⊎_elim (λ (h : IsAmong xs j). all j h) (λ (h : n ≡ j). subst H h (one n refl)) (among-last xs n j among)

none-among : (H : ℕ → Type 0) (j : ℕ) → IsAmong [] j → H j
none-among H j among = absurd (let e = among.1 in cc)

-- ---- functions

module _ (b : Bound) (sound : IsSound (actor_of b)) where
  fun-named-number : (text : List ℕ) (g : Fun) → fun_named text (actor_of b).funs ≡ Some g → Numbered (λ (f : Fun). f.name) 0 text (actor_of b).funs g
  fun-named-number text g e = numbered (λ (f : Fun). f.name) fun_named (λ text. refl) (λ text x xs. refl) 0 text (actor_of b).funs g e

  proc-named-number : (text : List ℕ) (g : Proc) → proc_named text (actor_of b).procs ≡ Some g → Numbered (λ (p : Proc). p.name) 0 text (actor_of b).procs g
  proc-named-number text g e = numbered (λ (p : Proc). p.name) proc_named (λ text. refl) (λ text x xs. refl) 0 text (actor_of b).procs g e

  pub fun-ready : (fs : List Function) (made : List Bool) (k : ℕ) (f : Fun) → KnownFunctions (actor_of b) fs made → slice_get (actor_of b).funs k ≡ Some f → AllMade made (calls_of_fun b f).functions
      → left_out_fun fs (globals_of (actor_of b)) f ≡ None
  fun-ready fs made k f known there all =
      fun_none (actor_of b).funs fs f (names_of (actor_of b)) (globals_of (actor_of b)) (ready (actor_of b) sound) starts.each body.each (each-at (IsFun (names_of (actor_of b))) (actor_of b).funs k f sound.funs there)
    where
      has : (text : List ℕ) (c : Numbers) → AllMade made (with_function b text c).functions → HasRoutine (actor_of b).funs fs text
      has text c h = λ g e.
          let p = fun-named-number text g e in
          let marked : is_made made p.place ≡ true = made-last made (fun_number text (actor_of b).funs) p.place c.functions (let e : 0 + p.place ≡ p.place = omega arith in p.is ∙ ap Some e) h in
          function-routine (actor_of b) sound fs known.are text g e (known.marks p.place g p.there marked)

      step : (text : List ℕ) (c : Numbers) → AllMade made (with_function b text c).functions → Two (HasRoutine (actor_of b).funs fs text) (AllMade made c.functions)
      step text c h = record { each = has text c h; kept = made-before made (fun_number text (actor_of b).funs) c.functions h }

      body : Two (EachCall (HasRoutine (actor_of b).funs fs) (λ text. Unit {0}) f.body) (AllMade made (with_starts b f.locals no_numbers).functions)
      body = calls-each b (HasRoutine (actor_of b).funs fs) (λ text. Unit {0}) (λ c. AllMade made c.functions) step (λ text c h. record { each = tt; kept = h }) f.body (with_starts b f.locals no_numbers) all

      starts : Two (Each (StartCalls (HasRoutine (actor_of b).funs fs) (λ text. Unit {0})) f.locals) (AllMade made [])
      starts = starts-each b (HasRoutine (actor_of b).funs fs) (λ text. Unit {0}) (λ c. AllMade made c.functions) step (λ text c h. record { each = tt; kept = h }) f.locals no_numbers body.kept

  -- a number of a function with a lower rank
  record LowerFun (f : Fun) (j : ℕ) : Type 0 where
    fun : Fun
    there : slice_get (actor_of b).funs j ≡ Some fun
    less : sound.funs_end.rank fun.name < sound.funs_end.rank f.name

  lower-calls : (k : ℕ) (f : Fun) → slice_get (actor_of b).funs k ≡ Some f → (j : ℕ) → IsAmong (calls_of_fun b f).functions j → LowerFun f j
  lower-calls k f there = each-calls b (λ name. sound.funs_end.rank name < sound.funs_end.rank f.name) (λ name. ⊥) (λ c. (j : ℕ) → IsAmong c.functions j → LowerFun f j) step (λ text c h s. absurd h) f.body (with_starts b f.locals no_numbers) below.body
      (each-starts b (λ name. sound.funs_end.rank name < sound.funs_end.rank f.name) (λ name. ⊥) (λ c. (j : ℕ) → IsAmong c.functions j → LowerFun f j) step (λ text c h s. absurd h) f.locals no_numbers below.locals (none-among (LowerFun f)))
    where
      below : FunCallsBelow sound.funs_end.rank f
      below = each-at (FunCallsBelow sound.funs_end.rank) (actor_of b).funs k f sound.funs_end.calls there

      step : (text : List ℕ) (c : Numbers) → sound.funs_end.rank text < sound.funs_end.rank f.name → ((j : ℕ) → IsAmong c.functions j → LowerFun f j) → (j : ℕ) → IsAmong (with_function b text c).functions j → LowerFun f j
      step text c low s = with-one (LowerFun f) (fun_number text (actor_of b).funs) c.functions
          (λ n is.
          let p = number-at (λ (x : Fun). x.name) 0 n text (actor_of b).funs is in
          record { fun = p.item; there = (let i = p.is in let e : n ≡ p.place = omega (arith, i) in ap (slice_get (actor_of b).funs) e ∙ p.there); less = subst (λ (t : List ℕ). sound.funs_end.rank t < sound.funs_end.rank f.name) (sym p.same) low }) s

  all-funs-made : (made : List Bool) → ((k : ℕ) → WaitsFunction b made k) → (n k : ℕ) (f : Fun) → slice_get (actor_of b).funs k ≡ Some f → sound.funs_end.rank f.name < n → is_made made k ≡ true
  all-funs-made made none zero k f there low = absurd (omega (arith, low))
  all-funs-made made none (suc n) k f there low =
      ⊎_elim (λ (is : is_made made k ≡ true). is)
      (λ (lacks : LacksOne made (calls_of_fun b f).functions).
      let lower : LowerFun f lacks.0 = lower-calls k f there lacks.0 lacks.1 in
      let less = lower.less in
      let yes : is_made made lacks.0 ≡ true = all-funs-made made none n lacks.0 lower.fun lower.there (omega (arith, less, low)) in
      let no : is_made made lacks.0 ≡ false = lacks.2 in
      absurd (cc))
      (none k f there)

  has-all-functions : (fs : List Function) (made : List Bool) → KnownFunctions (actor_of b) fs made → ((k : ℕ) → WaitsFunction b made k) → (k : ℕ) (f : Fun) → slice_get (actor_of b).funs k ≡ Some f → HasFunction fs f
  has-all-functions fs made known none k f there = known.marks k f there (all-funs-made made none (suc (sound.funs_end.rank f.name)) k f there (omega arith))

  pub all-functions : (fs : List Function) (made : List Bool) → KnownFunctions (actor_of b) fs made → ((k : ℕ) → WaitsFunction b made k) → AllFunctions (actor_of b) fs
  all-functions fs made known none k f there = inl (has-all-functions fs made known none k f there)

  pub have-routines : (fs : List Function) (made : List Bool) → KnownFunctions (actor_of b) fs made → ((k : ℕ) → WaitsFunction b made k) → (text : List ℕ) → HasRoutine (actor_of b).funs fs text
  have-routines fs made known none text f e =
      let p : IsAt (λ (x : Fun). x.name) text (actor_of b).funs f = place-of (λ (x : Fun). x.name) fun_named (λ text. refl) (λ text x xs. refl) text (actor_of b).funs f e in
      function-routine (actor_of b) sound fs known.are text f e (has-all-functions fs made known none p.place f p.there)

  -- ---- procedures

  pub proc-ready : (fs : List Function) (ps : List Procedure) (made : List Bool) (k : ℕ) (p : Proc) → ((text : List ℕ) → HasRoutine (actor_of b).funs fs text) → KnownProcedures (actor_of b) fs ps made
      → slice_get (actor_of b).procs k ≡ Some p → AllMade made (calls_of_proc b p).procedures → left_out_proc (calling fs ps) (globals_of (actor_of b)) p ≡ None
  proc-ready fs ps made k p have known there all =
      proc_none (actor_of b).funs (actor_of b).procs (calling fs ps) p (names_of (actor_of b)) (globals_of (actor_of b)) (ready (actor_of b) sound)
      (locals_any {P = HasRoutine (actor_of b).funs fs} {Q = λ text. Unit {0}} have (λ text. tt) p.locals) body.each
      (each-at (IsProc (actor_of b).procs (names_of (actor_of b))) (actor_of b).procs k p sound.procs there)
    where
      has : (text : List ℕ) (c : Numbers) → AllMade made (with_procedure b text c).procedures → HasProcRoutine (actor_of b).procs ps text
      has text c h = λ g e.
          let q = proc-named-number text g e in
          let marked : is_made made q.place ≡ true = made-last made (proc_number text (actor_of b).procs) q.place c.procedures (let e : 0 + q.place ≡ q.place = omega arith in q.is ∙ ap Some e) h in
          procedure-routine (actor_of b) sound fs ps known.are text g e (known.marks q.place g q.there marked)

      step : (text : List ℕ) (c : Numbers) → AllMade made (with_procedure b text c).procedures → Two (HasProcRoutine (actor_of b).procs ps text) (AllMade made c.procedures)
      step text c h = record { each = has text c h; kept = made-before made (proc_number text (actor_of b).procs) c.procedures h }

      body : Two (EachCall (HasRoutine (actor_of b).funs fs) (HasProcRoutine (actor_of b).procs ps) p.body) (AllMade made [])
      body = calls-each b (HasRoutine (actor_of b).funs fs) (HasProcRoutine (actor_of b).procs ps) (λ c. AllMade made c.procedures) (λ text c h. record { each = have text; kept = h }) step p.body no_numbers all

  record LowerProc (p : Proc) (j : ℕ) : Type 0 where
    proc : Proc
    there : slice_get (actor_of b).procs j ≡ Some proc
    less : sound.procs_end.rank proc.name < sound.procs_end.rank p.name

  lower-proc-calls : (k : ℕ) (p : Proc) → slice_get (actor_of b).procs k ≡ Some p → (j : ℕ) → IsAmong (calls_of_proc b p).procedures j → LowerProc p j
  lower-proc-calls k p there = each-calls b (λ name. Unit {0}) (λ name. sound.procs_end.rank name < sound.procs_end.rank p.name) (λ c. (j : ℕ) → IsAmong c.procedures j → LowerProc p j) (λ text c h s. s) step p.body no_numbers below.body (none-among (LowerProc p))
    where
      below : ProcCallsBelow sound.procs_end.rank p
      below = each-at (ProcCallsBelow sound.procs_end.rank) (actor_of b).procs k p sound.procs_end.calls there

      step : (text : List ℕ) (c : Numbers) → sound.procs_end.rank text < sound.procs_end.rank p.name → ((j : ℕ) → IsAmong c.procedures j → LowerProc p j) → (j : ℕ) → IsAmong (with_procedure b text c).procedures j → LowerProc p j
      step text c low s = with-one (LowerProc p) (proc_number text (actor_of b).procs) c.procedures
          (λ n is.
          let q = number-at (λ (x : Proc). x.name) 0 n text (actor_of b).procs is in
          record { proc = q.item; there = (let i = q.is in let e : n ≡ q.place = omega (arith, i) in ap (slice_get (actor_of b).procs) e ∙ q.there); less = subst (λ (t : List ℕ). sound.procs_end.rank t < sound.procs_end.rank p.name) (sym q.same) low }) s

  all-procs-made : (made : List Bool) → ((k : ℕ) → WaitsProcedure b made k) → (n k : ℕ) (p : Proc) → slice_get (actor_of b).procs k ≡ Some p → sound.procs_end.rank p.name < n → is_made made k ≡ true
  all-procs-made made none zero k p there low = absurd (omega (arith, low))
  all-procs-made made none (suc n) k p there low =
      ⊎_elim (λ (is : is_made made k ≡ true). is)
      (λ (lacks : LacksOne made (calls_of_proc b p).procedures).
      let lower : LowerProc p lacks.0 = lower-proc-calls k p there lacks.0 lacks.1 in
      let less = lower.less in
      let yes : is_made made lacks.0 ≡ true = all-procs-made made none n lacks.0 lower.proc lower.there (omega (arith, less, low)) in
      let no : is_made made lacks.0 ≡ false = lacks.2 in
      absurd (cc))
      (none k p there)

  pub all-procedures : (fs : List Function) (ps : List Procedure) (made : List Bool) → KnownProcedures (actor_of b) fs ps made → ((k : ℕ) → WaitsProcedure b made k) → AllProcedures (actor_of b) fs ps
  all-procedures fs ps made known none k p there = inl (known.marks k p there (all-procs-made made none (suc (sound.procs_end.rank p.name)) k p there (omega arith)))
