-- The routine of a function does what calling the function does.
use Rattle.std.proofs.Common.{◌≡◌, ℕ, zero, suc, ◌⊎◌, Bool, true, false, ◌+◌, ◌≤◌, inl, inr, ⊎_elim, ℤ, List, [], ◌∷◌, ◌++◌, length, refl, sym, ap, ◌∙◌, subst, Option, None, Some, arith, append_assoc, append-nil}
use Rattle.std.specs.Prelude.{slice_get, option_map, if◌then◌else◌}
use Rattle.std.specs.Str.{bytes_eq}
use Rattle.std.proofs.lemmas.Slice.Eq.{bytes_eq-Decides}
use Rattle.cal_model.specs.Value.{Shape, Single, Value, Values, Nil, Cons, HasKind, kind_of_scalar, scalars_of_type, stored}
use Rattle.cal_model.specs.Outcome.{Out, Gives, Lacks, and_then, needed}
use Rattle.cal_model.specs.Env.{Var, Env, variable}
use Rattle.cal_model.specs.Expression.{Calls, eval}
use Rattle.cal_model.specs.Actor.{Local, Fun}
use Rattle.cal_model.specs.Call.{answered, arguments, calls_within, declared, fun_named}
use Rattle.code_ir.specs.declared.instr.Instr.{Instr}
use Rattle.code_ir.specs.declared.instr.Routine.{Routine}
use Rattle.code_ir.specs.Code.{Code}
use Rattle.code_ir.specs.Running.{State}
use Rattle.lower_base.specs.declared.callees.Formal.{Formal}
use Rattle.lower_base.specs.Callees.{Function, function_named}
use Rattle.lower_base.specs.Calling.{Answers, AreInRow, AreOfSizes, HoldArguments, HoldsArgument, Returns, Serves, outside}
use Rattle.lower_base.specs.declared.names.Seat.{Seat}
use Rattle.lower_base.specs.declared.names.Seat.TheVariants.{Cell, Tokens}
use Rattle.lower_base.specs.Flat.{flat}
use Rattle.lower_base.specs.Following.{CutsOff, Follows}
use Rattle.lower_base.specs.Held.{AllApart, AreBelow, Holds, Keeps, SeatIsApart, SeatIsBelow}
use Rattle.lower_base.specs.Names.{local, Name}
use Rattle.lower_base.specs.Placed.{StandsAt, World, state}
use Rattle.lower_base.specs.Routining.{AreRoutines, no_routine, routine_more, FunSized, IsRoutine, LocalsSized, StandForFormals, behind_formals, world_of}
use Rattle.lower_base.proofs.Keeping.{below_more}
use Rattle.lower_base.proofs.Routined.{Gets, body_grows, body_returns, ends_body, front_apart, front_below, front_holds}
use Rattle.lower_base.proofs.Runs.{follows_more}

-- ---- formals

pub formals_below : (xs : List Local) (ys : List Formal) (c n : ℕ) (names : List Name) → AreInRow c ys → c + length ys ≤ n → AreBelow n names → AreBelow n (behind_formals xs ys names)
formals_below [] ys c n names row le below = below
formals_below (x ∷ xs) [] c n names row le below = below
formals_below (x ∷ xs) (y ∷ ys) c n names row le below =
    let at = row.0 in
    formals_below xs ys (c + 1) n (local x.name y.kind y.cell ∷ names) row.1 (omega (arith, le)) (front_below names x.name y.kind y.cell n (omega (arith, at, le)) below)

pub formals_apart : (xs : List Local) (ys : List Formal) (c low high : ℕ) (names : List Name) → AreInRow c ys → high ≤ c → AllApart low high names → AllApart low high (behind_formals xs ys names)
formals_apart [] ys c low high names row le apart = apart
formals_apart (x ∷ xs) [] c low high names row le apart = apart
formals_apart (x ∷ xs) (y ∷ ys) c low high names row le apart =
    let at = row.0 in
    formals_apart xs ys (c + 1) low high (local x.name y.kind y.cell ∷ names) row.1 (omega (arith, le)) (front_apart low high names x.name y.kind y.cell (inr (omega (arith, at, le))) apart)

pub sizes_of : (xs : List Local) (ys : List Formal) → StandForFormals xs ys → LocalsSized xs → AreOfSizes ys
sizes_of [] [] h s = tt
sizes_of [] (y ∷ ys) h s = absurd h
sizes_of (x ∷ xs) [] h s = absurd h
sizes_of (x ∷ xs) (y ∷ ys) h s = (s.0 y.kind h.0, sizes_of xs ys h.1 s.1)

-- what a function sees at first
pub record Enters (globals : List Var) (xs : List Local) (ys : List Formal) (vs : Values) (names : List Name) (tokens : ℕ → List ℤ) (cells : List ℤ) (locals : List Var) : Type 0 where
  pub args : List Var
  pub are : arguments xs vs ≡ Some args
  pub holds : Holds (behind_formals xs ys names) tokens cells (record { globals = globals; locals = args ++ locals })

pub enters : (globals : List Var) (xs : List Local) (ys : List Formal) (vs : Values) (names : List Name) (tokens : ℕ → List ℤ) (cells : List ℤ) (locals : List Var) → StandForFormals xs ys → HoldArguments ys cells vs
    → Holds names tokens cells (record { globals = globals; locals = locals }) → Enters globals xs ys vs names tokens cells locals
enters globals [] [] Nil names tokens cells locals h held holds = record { args = []; are = refl; holds = holds }
enters globals [] [] (Cons v vs) names tokens cells locals h held holds = absurd held
enters globals [] (y ∷ ys) vs names tokens cells locals h held holds = absurd h
enters globals (x ∷ xs) [] vs names tokens cells locals h held holds = absurd h
enters globals (x ∷ xs) (y ∷ ys) Nil names tokens cells locals h held holds = absurd held
enters globals (x ∷ xs) (y ∷ ys) (Cons v vs) names tokens cells locals h held holds =
    let one : HoldsArgument y cells v = held.0 in
    let var : Var = variable x.name x.shape x.changes (stored x.shape v) in
    let value : stored (Single y.kind) v ≡ stored x.shape v = ap (λ (s : Shape). stored s v) (sym h.0) in
    let front : Holds (local x.name y.kind y.cell ∷ names) tokens cells (record { globals = globals; locals = var ∷ locals }) =
    front_holds tokens names x.name y.kind x.shape x.changes y.cell cells (record { globals = globals; locals = locals }) (stored x.shape v) one.number
    (subst (λ u. HasKind (kind_of_scalar y.kind) u) value one.kind) (subst (λ u. flat u ≡ one.number ∷ []) value one.is) one.there holds in
    let rest : Enters globals xs ys vs (local x.name y.kind y.cell ∷ names) tokens cells (var ∷ locals) = enters globals xs ys vs (local x.name y.kind y.cell ∷ names) tokens cells (var ∷ locals) h.1 held.1 front in
    record {
      args = rest.args ++ var ∷ [];
      are = ap (λ o. option_map (λ vars. vars ++ var ∷ []) o) rest.are;
      holds = subst (λ ls. Holds (behind_formals xs ys (local x.name y.kind y.cell ∷ names)) tokens cells (record { globals = globals; locals = ls })) (sym (append_assoc rest.args (var ∷ []) locals)) rest.holds;
    }

-- ---- the routine

pub answers_one : (code : Code) (tokens : ℕ → List ℤ) (low high : ℕ) (globals : List Name) (fs : List Function) (inner outer : Calls) (f : Fun) (g : Function) (base n m : ℕ) (instrs : List Instr) (r : Routine)
    → IsRoutine globals fs f g base n instrs m → FunSized f → Serves (world_of code tokens inner low n) globals fs → low ≤ n → m ≤ high → AreBelow low globals
    → slice_get code.routines g.routine ≡ Some r → r.start ≡ base → StandsAt code.instrs base instrs
    → ((vars : List Var) (args : Values) (left : ℕ) → outer vars g.text args left ≡ answered f inner vars args left)
    → Answers (world_of code tokens outer low high) globals g.text g
answers_one code tokens low high globals fs inner outer f g base n m instrs r is sized serves le ge below at starts stands same = record {
  formals = record { first = n; row = is.row; low_end = le; high_end = omega (arith, up, ge); sizes = sizes_of f.formals g.formals is.formals sized.formals };
  routine = r;
  is = at;
  goes = λ vars args stack back frames cells left room holds held. goes vars args stack back frames cells left room holds held;
}
  where
    up : n + length g.formals + 1 ≤ m
    up = body_grows is.body

    w : World
    w = world_of code tokens inner low n

    goes : (vars : List Var) (args : Values) (stack : List ℤ) (back : ℕ) (frames : List ℕ) (cells : List ℤ) (left : ℕ) → high ≤ length cells → Holds globals tokens cells (outside vars) → HoldArguments g.formals cells args
        → Follows (outer vars g.text args left) (Returns (world_of code tokens outer low high) g.result (state r.start stack (back ∷ frames) cells left) back frames) (CutsOff (world_of code tokens outer low high) 0 0 (state r.start stack (back ∷ frames) cells left))
    goes vars args stack back frames cells left room holds held =
        let s : State = state base stack (back ∷ frames) cells left in
        let e : Enters vars f.formals g.formals args globals tokens cells [] = enters vars f.formals g.formals args globals tokens cells [] is.formals held holds in
        let entry : Env = record { globals = vars; locals = e.args ++ [] } in
        let body : Follows (ends_body fs globals w serves back frames (n + length g.formals) m f.body f.result f.locals entry left) (Gets w f.result (n + length g.formals) m s back frames) (CutsOff w (n + length g.formals) m s) =
        body_returns fs globals w serves back frames (n + length g.formals) m f.result f.body entry stack cells left sized.result sized.locals is.body stands (inr (omega arith))
        (formals_below f.formals g.formals n (n + length g.formals) globals is.row (omega arith) (below_more low (n + length g.formals) globals (omega (arith, le)) below), below_more low (n + length g.formals) globals (omega (arith, le)) below, omega arith)
        (formals_apart f.formals g.formals n low n globals is.row (omega arith) globals_apart, globals_apart, λ less. inr (omega arith))
        (e.holds, holds, λ some. omega (arith, room, up, ge), λ less. omega (arith, room, ge)) (omega (arith, room, ge)) (omega arith) in
        subst (λ (o : Out Value). Follows o (Returns (world_of code tokens outer low high) g.result (state r.start stack (back ∷ frames) cells left) back frames) (CutsOff (world_of code tokens outer low high) 0 0 (state r.start stack (back ∷ frames) cells left))) (sym (same vars args left))
        (subst (λ p. Follows (answered f inner vars args left) (Returns (world_of code tokens outer low high) g.result (state p stack (back ∷ frames) cells left) back frames) (CutsOff (world_of code tokens outer low high) 0 0 (state p stack (back ∷ frames) cells left))) (sym starts)
        (subst (λ (o : Option (List Var)). Follows (and_then (and_then (needed o left) (λ vs k. Gives (record { globals = vars; locals = vs }) k)) (λ entry h. and_then (declared f.locals inner entry h) (λ env i. and_then (eval f.body inner env i) (λ v k. Gives (stored (Single f.result) v) k))))
        (Returns (world_of code tokens outer low high) g.result s back frames) (CutsOff (world_of code tokens outer low high) 0 0 s)) (sym e.are)
        (subst (λ ls. Follows (and_then (declared f.locals inner (record { globals = vars; locals = ls }) left) (λ env i. and_then (eval f.body inner env i) (λ v k. Gives (stored (Single f.result) v) k)))
        (Returns (world_of code tokens outer low high) g.result s back frames) (CutsOff (world_of code tokens outer low high) 0 0 s)) (append-nil e.args)
        (follows_more (ends_body fs globals w serves back frames (n + length g.formals) m f.body f.result f.locals entry left) (Gets w f.result (n + length g.formals) m s back frames) (CutsOff w (n + length g.formals) m s) (Returns (world_of code tokens outer low high) g.result s back frames) (CutsOff (world_of code tokens outer low high) 0 0 s)
        body
        (λ v k q. record {
          kind = subst (λ t. HasKind (kind_of_scalar t) v) (sym is.result) q.kind;
          number = q.number;
          is = q.is;
          cells = q.cells;
          reaches = q.reaches;
          keeps = widen cells q.cells q.keeps;
        })
        (λ c q. record { cells = q.cells; ends = q.ends; keeps = widen cells q.cells q.keeps })))))
      where
        globals_apart : AllApart low n globals
        globals_apart text x h = seat_apart x.seat (below text x h)
          where
            seat_apart : (seat : Seat) → SeatIsBelow low (scalars_of_type x.shape) seat → SeatIsApart low n (scalars_of_type x.shape) seat
            seat_apart (Cell c) h = inl h
            seat_apart (Tokens port first step) h = tt

        widen : (before now : List ℤ) → Keeps (n + length g.formals) m low n before now → Keeps 0 0 low high before now
        widen before now keeps = record {
          size = keeps.size;
          cell = λ c free apart. ⊎_elim (λ (a : c + 1 ≤ low). keeps.cell c (inl (omega (arith, a, le))) (inl a)) (λ (a : high ≤ c). keeps.cell c (inr (omega (arith, a, ge))) (inr (omega (arith, a, ge, up)))) apart;
        }

-- ---- all routines

-- the last of the functions is found if none before it has the name
pub named_last : (text : List ℕ) (fs : List Function) (g h : Function) → function_named text (fs ++ g ∷ []) ≡ Some h → (function_named text fs ≡ Some h) ⊎ ((g ≡ h) × (bytes_eq g.text text ≡ true))
named_last text [] g h e = by (bytes_eq g.text text) refl e
  where
    by : (b : Bool) → bytes_eq g.text text ≡ b → (if b then Some g else None) ≡ Some h → (function_named text [] ≡ Some h) ⊎ ((g ≡ h) × (bytes_eq g.text text ≡ true))
    by true f i = inr (cc, f)
    by false f i = cc
named_last text (x ∷ fs) g h e = by (bytes_eq x.text text) e (named_last text fs g h)
  where
    by : (b : Bool) → (if b then Some x else function_named text (fs ++ g ∷ [])) ≡ Some h → (function_named text (fs ++ g ∷ []) ≡ Some h → (function_named text fs ≡ Some h) ⊎ ((g ≡ h) × (bytes_eq g.text text ≡ true)))
        → ((if b then Some x else function_named text fs) ≡ Some h) ⊎ ((g ≡ h) × (bytes_eq g.text text ≡ true))
    by true i later = inl i
    by false i later = later i

pub routines_low : {globals : List Name} {whole : Code} {all : List Fun} {low n : ℕ} {fs : List Function} → AreRoutines globals whole all low fs n → low ≤ n
routines_low no_routine = omega arith
routines_low (routine_more fs f g r base n m code before is named sized at starts stands) = let h = routines_low before in let u = body_grows is.body in omega (arith, h, u)

-- a routine for a function of which nothing is asked
answers_none : (code : Code) (tokens : ℕ → List ℤ) (low high : ℕ) (globals : List Name) (fs : List Function) (f : Fun) (g : Function) (base n m : ℕ) (instrs : List Instr) (r : Routine)
    → IsRoutine globals fs f g base n instrs m → FunSized f → low ≤ n → m ≤ high → slice_get code.routines g.routine ≡ Some r
    → Answers (world_of code tokens (λ vars text args left. Lacks) low high) globals g.text g
answers_none code tokens low high globals fs f g base n m instrs r is sized le ge at =
    let up = body_grows is.body in
    record {
      formals = record { first = n; row = is.row; low_end = le; high_end = omega (arith, up, ge); sizes = sizes_of f.formals g.formals is.formals sized.formals };
      routine = r;
      is = at;
      goes = λ vars args stack back frames cells left room holds held. tt;
    }

module _ (globals : List Name) (whole : Code) (tokens : ℕ → List ℤ) (all : List Fun) (low : ℕ) (below : AreBelow low globals) where
  same_text : (high : ℕ) (calls : Calls) (text : List ℕ) (g h : Function) → g ≡ h → bytes_eq g.text text ≡ true → Answers (world_of whole tokens calls low high) globals g.text g → Answers (world_of whole tokens calls low high) globals text h
  same_text high calls text g h e f a =
      subst (λ (x : Function). Answers (world_of whole tokens calls low high) globals text x) e (subst (λ t. Answers (world_of whole tokens calls low high) globals t g) ((bytes_eq-Decides g.text text).0 f) a)

  pub served_within : (k : ℕ) {fs : List Function} {n : ℕ} (high : ℕ) → AreRoutines globals whole all low fs n → n ≤ high → Serves (world_of whole tokens (calls_within k all) low high) globals fs
  served_within k high no_routine le text h e = cc
  served_within zero high (routine_more fs f g r base n m code before is named sized at starts stands) le text h e =
      let up = body_grows is.body in
      ⊎_elim (λ (i : function_named text fs ≡ Some h). served_within zero high before (omega (arith, up, le)) text h i)
      (λ (i : (g ≡ h) × (bytes_eq g.text text ≡ true)). same_text high (calls_within zero all) text g h i.0 i.1 (answers_none whole tokens low high globals fs f g base n m code r is sized (routines_low before) le at))
      (named_last text fs g h e)
  served_within (suc k) high (routine_more fs f g r base n m code before is named sized at starts stands) le text h e =
      let up = body_grows is.body in
      ⊎_elim (λ (i : function_named text fs ≡ Some h). served_within (suc k) high before (omega (arith, up, le)) text h i)
      (λ (i : (g ≡ h) × (bytes_eq g.text text ≡ true)). same_text high (calls_within (suc k) all) text g h i.0 i.1
      (answers_one whole tokens low high globals fs (calls_within k all) (calls_within (suc k) all) f g base n m code r is sized (served_within k n before (omega arith)) (routines_low before) le below at starts stands
      (λ vars args left. ap (λ (o : Option Fun). elim o [ None ↦ Lacks | Some x ↦ answered x (calls_within k all) vars args left ]) (ap (λ t. fun_named t all) is.text ∙ named))))
      (named_last text fs g h e)
