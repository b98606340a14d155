-- Functions give values of the kinds that they declare.
use Rattle.std.proofs.Common.{◌≡◌, ℕ, zero, suc, ◌<◌, ◌≤◌, List, [], ◌∷◌, ◌++◌, map, length, refl, sym, ap, subst, arith, Option, None, Some}
use Rattle.std.specs.Prelude.{option_map}
use Rattle.cal_ast.specs.Tree.{Tree}
use Rattle.cal_model.specs.Value.{Shape, Single, Value, Values, Nil, Cons, kind_of_type, kind_of_scalar, stored, HasKind, IsType}
use Rattle.cal_model.specs.Outcome.{Out, Gives, Lacks, and_then, needed}
use Rattle.cal_model.specs.Env.{Var, Env, variable, with_local}
use Rattle.cal_model.specs.Expression.{Calls, eval}
use Rattle.cal_model.specs.Actor.{Local, Fun}
use Rattle.cal_model.specs.Call.{first_value, declared, arguments, answered, fun_named, calls_within}
use Rattle.cal_model.specs.Kinding.{Known, Names, with_known, constants}
use Rattle.cal_model.specs.Sound.{Each, EachCall, StartCalls, known_local, with_locals, FunCallsBelow, FunsNeverReturn}
use Rattle.cal_model.specs.Keeping.{StandsFor, AreArguments, outside, StartIsOf, StartsAreOf, IsOfItsKinds}
use Rattle.cal_model.proofs.Agreement.{StartCallsIn, any-call, any-starts, named-one, calls-agree}
use Rattle.cal_model.proofs.KindValues.{stored-has-kind, zero-has-kind}
use Rattle.cal_model.proofs.KindOperators.{Comes, comes-then}
use Rattle.cal_model.proofs.KindNames.{Stand, Fits, fits-local, stand-more, stand-match}
use Rattle.cal_model.proofs.KindKept.{kept}
use Rattle.cal_model.proofs.KindOrder.{onto, onto-behind, one-behind, with-locals-is}

-- ---- formals

no-constant : (w : Value) → None ≡ Some w → ⊥
no-constant w h = cc

local-stands : (x : Local) (v : Value) → HasKind (kind_of_type x.shape) v → StandsFor (known_local x) v
local-stands x v h = record { kind = h; constant = λ w e. absurd (no-constant w e) }

-- the arguments stand for the formals
pub arguments-stand : (L : Type 0) (xs : List Local) (args : Values) (zs : List Known) (vars : List Var) → AreArguments xs args → Each (λ x. IsType x.shape) xs → Stand L zs vars
    → (entry : List Var) × (arguments xs args ≡ Some entry) × Stand L (onto (map known_local xs) zs) (entry ++ vars)
arguments-stand L [] Nil zs vars a t h = ([], refl, h)
arguments-stand L [] (Cons v vs) zs vars a t h = absurd a
arguments-stand L (x ∷ xs) Nil zs vars a t h = absurd a
arguments-stand L (x ∷ xs) (Cons v vs) zs vars a t h =
    let first : Var = variable x.name x.shape x.changes (stored x.shape v) in
    let rest = arguments-stand L xs vs (known_local x ∷ zs) (first ∷ vars) a.1 t.1
    (stand-more L (known_local x) first zs vars refl (local-stands x (stored x.shape v) (stored-has-kind x.shape v t.0 a.0)) h) in (
      rest.0 ++ first ∷ [],
      ap (λ o. option_map (λ entry. entry ++ first ∷ []) o) rest.1,
      subst (λ entry. Stand L (onto (map known_local xs) (known_local x ∷ zs)) entry) (sym (one-behind first rest.0 vars)) rest.2,
    )

-- ---- a function

module _ (L : Type 0) (P Q : List ℕ → Type 0) (calls : Calls) where
  start-kept : (t : Shape) (start : Option Tree) (names : Names) (env : Env) (left : ℕ) → Fits L P calls names env → IsType t → StartIsOf (kind_of_type t) start names
      → StartCallsIn P Q start → Comes L (HasKind (kind_of_type t)) left (first_value t start calls env left)
  start-kept t None names env left fit i h c = (zero-has-kind t i, let s : left ≤ left = omega arith in s)
  start-kept t (Some e) names env left fit i h c =
      comes-then L (HasKind (kind_of_type t)) (HasKind (kind_of_type t)) (eval e calls env left) _ left (kept L P Q calls e names env left (kind_of_type t) fit c h) (λ v k p.
      (stored-has-kind t v i p, let s : k ≤ k = omega arith in s))

  pub declared-kept : (xs : List Local) (names : Names) (env : Env) (left : ℕ) → Fits L P calls names env → StartsAreOf xs names → Each (StartCalls P Q) xs
      → Comes L (λ inner. Fits L P calls (with_locals xs names) inner) left (declared xs calls env left)
  declared-kept [] names env left fit h c = (fit, let s : left ≤ left = omega arith in s)
  declared-kept (x ∷ xs) names env left fit h c =
      comes-then L (HasKind (kind_of_type x.shape)) (λ inner. Fits L P calls (with_locals (x ∷ xs) names) inner) (first_value x.shape x.start calls env left) _ left
      (start-kept x.shape x.start names env left fit h.0 h.1 c.0) (λ v m p.
      declared-kept xs (with_known (known_local x) names) (with_local (variable x.name x.shape x.changes v) env) m
      (fits-local L P calls names env (known_local x) (variable x.name x.shape x.changes v) refl (local-stands x v p) fit) h.2 c.1)

  -- what a function sees at first is of its names
  pub entry-fits : (xs : List Local) (names : Names) (globals vars : List Var) → Fits L P calls (outside names) (record { globals = globals; locals = [] })
      → Stand L (onto (map known_local xs) names.globals) (vars ++ globals) → Fits L P calls (with_locals xs (outside names)) (record { globals = globals; locals = vars })
  entry-fits xs names globals vars fit h =
      let inner : Env = record { globals = globals; locals = vars } in
      let fits : Fits L P calls (record (outside names) { locals = onto (map known_local xs) [] }) inner = record {
        globals = fit.globals;
        all = subst (λ known. Stand L known (vars ++ globals)) (sym (onto-behind (map known_local xs) [] names.globals)) h;
        give = fit.give;
        agree = fit.agree;
      } in
      subst (λ n. Fits L P calls n inner) (sym (with-locals-is xs (outside names))) fits

  abbrev answered_by : Fun → List Var → Option (List Var) → ℕ → Out Value
  answered_by f globals o left =
      and_then (and_then (needed o left) (λ vars k. Gives (record { globals = globals; locals = vars }) k)) (λ entry h.
      and_then (declared f.locals calls entry h) (λ env m.
      and_then (eval f.body calls env m) (λ v k. Gives (stored (Single f.result) v) k)))

  pub answered-kept : (f : Fun) (names : Names) (globals : List Var) (args : Values) (left : ℕ) → IsOfItsKinds names f → Each (StartCalls P Q) f.locals → EachCall P Q f.body
      → Fits L P calls (outside names) (record { globals = globals; locals = [] }) → AreArguments f.formals args
      → Comes L (HasKind (kind_of_scalar f.result)) left (answered f calls globals args left)
  answered-kept f names globals args left is starts body fit a =
      let entry = arguments-stand L f.formals args names.globals globals a is.formals fit.globals in
      let inner : Env = record { globals = globals; locals = entry.0 } in
      let fits = entry-fits f.formals names globals entry.0 fit entry.2 in
      subst (λ o. Comes L (HasKind (kind_of_scalar f.result)) left (answered_by f globals o left)) (sym entry.1)
      (comes-then L (λ env. Fits L P calls (with_locals f.locals (with_locals f.formals (outside names))) env) (HasKind (kind_of_scalar f.result)) (declared f.locals calls inner left) _ left
      (declared-kept f.locals (with_locals f.formals (outside names)) inner left fits is.locals starts) (λ env m p.
      comes-then L (HasKind (kind_of_scalar f.result)) (HasKind (kind_of_scalar f.result)) (eval f.body calls env m) _ m
      (kept L P Q calls f.body (with_locals f.locals (with_locals f.formals (outside names))) env m (kind_of_scalar f.result) p body is.body) (λ v k q.
      (stored-has-kind (Single f.result) v is.result q, let s : k ≤ k = omega arith in s))))

-- ---- all functions

-- functions that may call each other give values of their kinds, if every name may be lacked
pub calls-kept : (n : ℕ) (names : Names) (globals : List Var) → Each (IsOfItsKinds names) names.funs → Stand (Unit {0}) names.globals globals
    → (name : List ℕ) (f : Fun) (args : Values) (left : ℕ) → fun_named name names.funs ≡ Some f → AreArguments f.formals args
    → Comes (Unit {0}) (HasKind (kind_of_scalar f.result)) left (calls_within n names.funs globals name args left)
calls-kept zero names globals fine h name f args left e a = tt
calls-kept (suc n) names globals fine h name f args left e a =
    let is = named-one (IsOfItsKinds names) name names.funs f fine e in
    subst (λ o. Comes (Unit {0}) (HasKind (kind_of_scalar f.result)) left (elim o [ None ↦ Lacks | Some g ↦ answered g (calls_within n names.funs) globals args left ])) (sym e)
    (answered-kept (Unit {0}) (λ other. Unit {0}) (λ other. Unit {0}) (calls_within n names.funs) f names globals args left is.0 (any-starts f.locals) (any-call f.body)
    (record {
      globals = h;
      all = h;
      give = λ other g vs k p. calls-kept n names globals fine h other g vs k;
      agree = calls-agree (length names.funs) n names.funs (constants names.globals) globals (stand-match (Unit {0}) names.globals globals h);
    }) a)

-- functions of which none calls itself, directly or indirectly, lack nothing if no name is lacked
pub calls-lack-nothing : (n : ℕ) (names : Names) (globals : List Var) (never : FunsNeverReturn names.funs) → Each (IsOfItsKinds names) names.funs → Stand ⊥ names.globals globals
    → (name : List ℕ) (f : Fun) (args : Values) (left : ℕ) → never.rank name < n → fun_named name names.funs ≡ Some f → AreArguments f.formals args
    → Comes ⊥ (HasKind (kind_of_scalar f.result)) left (calls_within n names.funs globals name args left)
calls-lack-nothing zero names globals never fine h name f args left r e a = let no : never.rank name < 0 = r in absurd (omega arith)
calls-lack-nothing (suc n) names globals never fine h name f args left r e a =
    let is = named-one (IsOfItsKinds names) name names.funs f fine e in
    let below = named-one (FunCallsBelow never.rank) name names.funs f never.calls e in
    subst (λ o. Comes ⊥ (HasKind (kind_of_scalar f.result)) left (elim o [ None ↦ Lacks | Some g ↦ answered g (calls_within n names.funs) globals args left ])) (sym e)
    (answered-kept ⊥ (λ other. never.rank other < never.rank f.name) (λ other. ⊥) (calls_within n names.funs) f names globals args left is.0 below.0.locals below.0.body
    (record {
      globals = h;
      all = h;
      give = λ other g vs k p. calls-lack-nothing n names globals never fine h other g vs k (let same : never.rank f.name ≡ never.rank name = ap never.rank is.1 in omega arith);
      agree = calls-agree (length names.funs) n names.funs (constants names.globals) globals (stand-match ⊥ names.globals globals h);
    }) a)
