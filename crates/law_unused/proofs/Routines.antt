-- Functions and procedures that use only names that are kept do over what is kept what they do over all.
use Rattle.std.proofs.Common.{◌≡◌, ℕ, zero, suc, ◌<◌, ◌≤◌, Bool, true, false, List, [], ◌∷◌, length, refl, sym, ap, subst, ◌∙◌, arith, Option, None, Some}
use Rattle.std.specs.Prelude.{if◌then◌else◌}
use Rattle.std.specs.Str.{bytes_eq}
use Rattle.cal_ast.specs.Tree.{Tree}
use Rattle.cal_model.specs.Value.{Shape, Single, Value, Values, stored}
use Rattle.cal_model.specs.Outcome.{Out, Gives, Traps, Lacks, Clashes, and_then, needed}
use Rattle.cal_model.specs.Env.{Env, Var, variable, with_local}
use Rattle.cal_model.specs.Expression.{Calls, eval}
use Rattle.cal_model.specs.Actor.{Fun, Local, Proc}
use Rattle.cal_model.specs.Call.{answered, arguments, calls_of, calls_within, declared, first_value, fun_named, on_call}
use Rattle.cal_model.specs.Sound.{Each, EachCall, FunCallsBelow, FunsNeverReturn, StartCalls}
use Rattle.cal_model.specs.Statement.{Runs, exec_all, performed, proc_named, runs_of, runs_within}
use Rattle.cal_check.proofs.FittingValues.{named-one}
use Rattle.law_unused.specs.Closed.{FunWithin, FunsWithin, ProcWithin, StartWithin, Within}
use Rattle.law_unused.specs.Keeping.{DoTheSame, GiveTheSame, IsKept, Keep, mapped, narrowed, only, only_funs}
use Rattle.law_unused.proofs.Alike.{World, called-in, eval-alike}
use Rattle.law_unused.proofs.Narrowed.{another, then-kept, then-mapped}
use Rattle.law_unused.proofs.Statements.{eval-kept, statements-kept}

-- ---- what one function gives

abbrev pub StartIn : Keep → Option Tree → Type 0
StartIn keep o = elim o [ None ↦ Unit {0} | Some e ↦ Within keep e ]

module _ (keep : Keep) (few all : Calls) (give : GiveTheSame keep few all) where
  first-kept : (t : Shape) (start : Option Tree) (env : Env) (left : ℕ) → StartIn keep start
      → first_value t start few (narrowed keep env) left ≡ first_value t start all env left
  first-kept t None env left u = refl
  first-kept t (Some e) env left u = ap (λ o. and_then o (λ v k. Gives (stored t v) k)) (eval-kept keep few all give e env left u)

  pub declared-kept : (xs : List Local) (env : Env) (left : ℕ) → Each (StartWithin keep) xs → declared xs few (narrowed keep env) left ≡ mapped (narrowed keep) (declared xs all env left)
  declared-kept [] env left u = refl
  declared-kept (x ∷ xs) env left u =
      then-kept (narrowed keep) (first_value x.shape x.start all env left) (first_value x.shape x.start few (narrowed keep env) left) _ _ (first-kept x.shape x.start env left u.0) (λ v m.
      declared-kept xs (with_local (variable x.name x.shape x.changes v) env) m u.1)

  pub on-call-kept : (globals : List Var) (formals : List Local) (args : Values) (left : ℕ)
      → on_call (only keep globals) formals args left ≡ mapped (narrowed keep) (on_call globals formals args left)
  on-call-kept globals formals args left = go (arguments formals args)
    where
      go : (o : Option (List Var)) → and_then (needed o left) (λ vars k. Gives (record { globals = only keep globals; locals = vars }) k)
          ≡ mapped (narrowed keep) (and_then (needed o left) (λ vars k. Gives (record { globals = globals; locals = vars }) k))
      go None = refl
      go (Some vars) = refl

  -- what is given is the same, behind an environment that is narrowed
  then-given : {C : Type 0} (o : Out Env) (p : Out Env) (k l : Env → ℕ → Out C) → p ≡ mapped (narrowed keep) o → ((env : Env) (m : ℕ) → l (narrowed keep env) m ≡ k env m) → and_then p l ≡ and_then o k
  then-given {C} o p k l e g = ap (λ q. and_then q l) e ∙ go o
    where
      go : (o : Out Env) → and_then (mapped (narrowed keep) o) l ≡ and_then o k
      go (Gives a m) = g a m
      go (Traps t) = refl
      go Lacks = refl
      go Clashes = refl

  pub answered-kept : (f : Fun) (globals : List Var) (args : Values) (left : ℕ) → FunWithin keep f → answered f few (only keep globals) args left ≡ answered f all globals args left
  answered-kept f globals args left u =
      then-given (on_call globals f.formals args left) (on_call (only keep globals) f.formals args left) _ _ (on-call-kept globals f.formals args left) (λ entry h.
      then-given (declared f.locals all entry h) (declared f.locals few (narrowed keep entry) h) _ _ (declared-kept f.locals entry h u.locals) (λ env m.
      ap (λ o. and_then o (λ v k. Gives (stored (Single f.result) v) k)) (eval-kept keep few all give f.body env m u.body)))

  module _ (some every : Runs) (do_ : DoTheSame keep some every) where
    pub performed-kept : (p : Proc) (globals : List Var) (args : Values) (left : ℕ) → ProcWithin keep p
        → performed p few some (only keep globals) args left ≡ mapped (only keep) (performed p all every globals args left)
    performed-kept p globals args left u =
        then-mapped (narrowed keep) (only keep) (on_call globals p.formals args left) (on_call (only keep globals) p.formals args left) _ _ (on-call-kept globals p.formals args left) (λ entry h.
        then-mapped (narrowed keep) (only keep) (declared p.locals all entry h) (declared p.locals few (narrowed keep entry) h) _ _ (declared-kept p.locals entry h u.locals) (λ env m.
        then-mapped (narrowed keep) (only keep) (exec_all p.body all every env m) (exec_all p.body few some (narrowed keep env) m) _ _
        (statements-kept keep few all give some every do_ p.body env m u.body) (λ last k. refl)))

-- ---- which function is called

module _ (keep : Keep) where
  pub funs-kept : (name : List ℕ) (fs : List Fun) → IsKept keep name → fun_named name (only_funs keep fs) ≡ fun_named name fs
  funs-kept name [] k = refl
  funs-kept name (f ∷ fs) k = go (keep f.name) refl (funs-kept name fs k)
    where
      go : (b : Bool) → keep f.name ≡ b → fun_named name (only_funs keep fs) ≡ fun_named name fs → fun_named name (only_funs keep (f ∷ fs)) ≡ fun_named name (f ∷ fs)
      go true e rest =
          ap (λ b. fun_named name (if b then f ∷ only_funs keep fs else only_funs keep fs)) e ∙ ap (λ o. if bytes_eq f.name name then Some f else o) rest
      go false e rest =
          ap (λ b. fun_named name (if b then f ∷ only_funs keep fs else only_funs keep fs)) e
          ∙ rest
          ∙ sym (ap (λ b. if b then Some f else fun_named name fs) (another keep f.name name e k))

  fewer-funs : (fs : List Fun) → length (only_funs keep fs) ≤ length fs
  fewer-funs [] = omega arith
  fewer-funs (f ∷ fs) = go (keep f.name) (fewer-funs fs)
    where
      go : (b : Bool) → length (only_funs keep fs) ≤ length fs → length (if b then f ∷ only_funs keep fs else only_funs keep fs) ≤ suc (length fs)
      go true h = omega arith
      go false h = omega arith

-- ---- calls of functions

-- what a function gives, if there is one
abbrev answer_of : Calls → List Var → Values → ℕ → Option Fun → Out Value
answer_of calls globals args left o = elim o [ None ↦ Lacks | Some f ↦ answered f calls globals args left ]

module _ (keep : Keep) (funs : List Fun) (closed : FunsWithin keep funs) where
  -- with as many calls open
  pub within-kept : (n : ℕ) → GiveTheSame keep (calls_within n (only_funs keep funs)) (calls_within n funs)
  within-kept zero name globals args left k = refl
  within-kept (suc n) name globals args left k =
      ap (answer_of (calls_within n (only_funs keep funs)) (only keep globals) args left) (funs-kept keep name funs k)
      ∙ go (fun_named name funs) (λ f e. named-one (λ f. IsKept keep f.name → FunWithin keep f) name funs f closed e) (λ other gs vs j i. within-kept n other gs vs j i)
    where
      go : (o : Option Fun) → ((f : Fun) → o ≡ Some f → (IsKept keep f.name → FunWithin keep f) × (f.name ≡ name))
          → GiveTheSame keep (calls_within n (only_funs keep funs)) (calls_within n funs)
          → answer_of (calls_within n (only_funs keep funs)) (only keep globals) args left o ≡ answer_of (calls_within n funs) globals args left o
      go None h fewer = refl
      go (Some f) h fewer =
          answered-kept keep (calls_within n (only_funs keep funs)) (calls_within n funs) fewer f globals args left
          ((h f refl).0 (ap keep (h f refl).1 ∙ k))

-- ---- more calls that may be open change nothing

-- a start calls only these
abbrev StartCallsIn : (Q R : List ℕ → Type 0) → Option Tree → Type 0
StartCallsIn Q R o = elim o [ None ↦ Unit {0} | Some e ↦ EachCall Q R e ]

module _ (Q R : List ℕ → Type 0) (c d : Calls) (globals : List Var)
    (same : (name : List ℕ) → Q name → (args : Values) (left : ℕ) → c globals name args left ≡ d globals name args left) where
  over : (locals : List Var) → World (λ name. Unit {0}) Q c d (record { globals = globals; locals = locals }) (record { globals = globals; locals = locals })
  over locals = record { seen = λ name v. refl; given = same }

  eval-open : (e : Tree) (locals : List Var) (left : ℕ) → EachCall Q R e
      → eval e c (record { globals = globals; locals = locals }) left ≡ eval e d (record { globals = globals; locals = locals }) left
  eval-open e locals left r =
      eval-alike (λ name. Unit {0}) Q c d e (record { globals = globals; locals = locals }) (record { globals = globals; locals = locals }) left (over locals) (called-in Q R e r)

  first-open : (t : Shape) (start : Option Tree) (locals : List Var) (left : ℕ) → StartCallsIn Q R start
      → first_value t start c (record { globals = globals; locals = locals }) left ≡ first_value t start d (record { globals = globals; locals = locals }) left
  first-open t None locals left r = refl
  first-open t (Some e) locals left r = ap (λ o. and_then o (λ v k. Gives (stored t v) k)) (eval-open e locals left r)

  -- the locals, and what follows over the same globals
  declared-open : {B : Type 0} (xs : List Local) (locals : List Var) (left : ℕ) (f g : Env → ℕ → Out B) → Each (StartCalls Q R) xs
      → ((inner : List Var) (k : ℕ) → f (record { globals = globals; locals = inner }) k ≡ g (record { globals = globals; locals = inner }) k)
      → and_then (declared xs c (record { globals = globals; locals = locals }) left) f ≡ and_then (declared xs d (record { globals = globals; locals = locals }) left) g
  declared-open [] locals left f g r h = h locals left
  declared-open {B} (z ∷ zs) locals left f g r h =
      ap (λ o. and_then (and_then o (λ v m. declared zs c (record { globals = globals; locals = variable z.name z.shape z.changes v ∷ locals }) m)) f) (first-open z.shape z.start locals left r.0)
      ∙ go (first_value z.shape z.start d (record { globals = globals; locals = locals }) left)
      (λ v m. declared-open zs (variable z.name z.shape z.changes v ∷ locals) m f g r.1 h)
    where
      go : (o : Out Value)
          → ((v : Value) (m : ℕ)
          → and_then (declared zs c (record { globals = globals; locals = variable z.name z.shape z.changes v ∷ locals }) m) f
          ≡ and_then (declared zs d (record { globals = globals; locals = variable z.name z.shape z.changes v ∷ locals }) m) g)
          → and_then (and_then o (λ v m. declared zs c (record { globals = globals; locals = variable z.name z.shape z.changes v ∷ locals }) m)) f
          ≡ and_then (and_then o (λ v m. declared zs d (record { globals = globals; locals = variable z.name z.shape z.changes v ∷ locals }) m)) g
      go (Gives v m) rest = rest v m
      go (Traps t) rest = refl
      go Lacks rest = refl
      go Clashes rest = refl

  answered-open : (f : Fun) (args : Values) (left : ℕ) → Each (StartCalls Q R) f.locals → EachCall Q R f.body → answered f c globals args left ≡ answered f d globals args left
  answered-open f args left starts body = go (arguments f.formals args)
    where
      go : (o : Option (List Var))
          → and_then (and_then (needed o left) (λ vars k. Gives (record { globals = globals; locals = vars }) k))
          (λ entry h. and_then (declared f.locals c entry h) (λ env m. and_then (eval f.body c env m) (λ v k. Gives (stored (Single f.result) v) k)))
          ≡ and_then (and_then (needed o left) (λ vars k. Gives (record { globals = globals; locals = vars }) k))
          (λ entry h. and_then (declared f.locals d entry h) (λ env m. and_then (eval f.body d env m) (λ v k. Gives (stored (Single f.result) v) k)))
      go None = refl
      go (Some vars) = declared-open f.locals vars left _ _ starts (λ inner k. ap (λ o. and_then o (λ v m. Gives (stored (Single f.result) v) m)) (eval-open f.body inner k body))

module _ (rank : List ℕ → ℕ) (funs : List Fun) (below : Each (FunCallsBelow rank) funs) (globals : List Var) where
  nothing-named : (n : ℕ) (name : List ℕ) (args : Values) (left : ℕ) → fun_named name funs ≡ None → calls_within n funs globals name args left ≡ Lacks
  nothing-named zero name args left e = refl
  nothing-named (suc n) name args left e = ap (answer_of (calls_within n funs) globals args left) e

  enough : (n m : ℕ) (name : List ℕ) (args : Values) (left : ℕ) → rank name < n → rank name < m
      → calls_within n funs globals name args left ≡ calls_within m funs globals name args left
  enough zero m name args left l k = absurd (omega arith)
  enough (suc n) zero name args left l k = absurd (omega arith)
  enough (suc n) (suc m) name args left l k =
      go (fun_named name funs) (λ f e. named-one (FunCallsBelow rank) name funs f below e) (λ other vs j p q. enough n m other vs j p q)
    where
      go : (o : Option Fun) → ((f : Fun) → o ≡ Some f → FunCallsBelow rank f × (f.name ≡ name))
          → ((other : List ℕ) (vs : Values) (j : ℕ) → rank other < n → rank other < m → calls_within n funs globals other vs j ≡ calls_within m funs globals other vs j)
          → answer_of (calls_within n funs) globals args left o ≡ answer_of (calls_within m funs) globals args left o
      go None h less = refl
      go (Some f) h less =
          let is = h f refl in
          let lower : rank f.name ≡ rank name = ap rank is.1 in
          answered-open (λ other. rank other < rank f.name) (λ other. ⊥) (calls_within n funs) (calls_within m funs) globals
          (λ other i vs j. less other vs j (omega arith) (omega arith)) f args left is.0.locals is.0.body

-- functions that never return to themselves, with as many calls open as there are or more
pub more-open : (funs : List Fun) (globals : List Var) (n : ℕ) (name : List ℕ) (args : Values) (left : ℕ) → FunsNeverReturn funs → length funs ≤ n
    → calls_within (length funs) funs globals name args left ≡ calls_within n funs globals name args left
more-open funs globals n name args left ends l = go (fun_named name funs) refl
  where
    go : (o : Option Fun) → fun_named name funs ≡ o → calls_within (length funs) funs globals name args left ≡ calls_within n funs globals name args left
    go None e =
        nothing-named ends.rank funs ends.calls globals (length funs) name args left e ∙ sym (nothing-named ends.rank funs ends.calls globals n name args left e)
    go (Some f) e =
        let is = named-one (λ f. ends.rank f.name < length funs) name funs f ends.in_range e in
        let low : ends.rank f.name < length funs = is.0 in
        let same : ends.rank f.name ≡ ends.rank name = ap ends.rank is.1 in
        enough ends.rank funs ends.calls globals (length funs) n name args left (omega arith) (omega arith)

-- ---- what functions give and procedures do

pub calls-kept : (keep : Keep) (funs : List Fun) → FunsWithin keep funs → FunsNeverReturn (only_funs keep funs) → GiveTheSame keep (calls_of (only_funs keep funs)) (calls_of funs)
calls-kept keep funs closed ends name globals args left k =
    more-open (only_funs keep funs) (only keep globals) (length funs) name args left ends (fewer-funs keep funs)
    ∙ within-kept keep funs closed (length funs) name globals args left k

-- what a procedure makes of the globals, if there is one
abbrev made_by : Calls → Runs → List Var → Values → ℕ → Option Proc → Out (List Var)
made_by calls runs globals args left o = elim o [ None ↦ Lacks | Some p ↦ performed p calls runs globals args left ]

-- the procedure that is called
named-proc : (P : Proc → Type 0) (name : List ℕ) (ps : List Proc) (p : Proc) → Each P ps → proc_named name ps ≡ Some p → P p
named-proc P name [] p e h = absurd (let i : None ≡ Some p = h in cc)
named-proc P name (q ∷ qs) p e h = go (bytes_eq q.name name) h (λ i. named-proc P name qs p e.1 i)
  where
    go : (b : Bool) → (if b then Some q else proc_named name qs) ≡ Some p → (proc_named name qs ≡ Some p → P p) → P p
    go true i rest = let same : q ≡ p = cc in subst (λ x. P x) same e.0
    go false i rest = rest i

module _ (keep : Keep) (few all : Calls) (give : GiveTheSame keep few all) (procs : List Proc) (within : Each (ProcWithin keep) procs) where
  runs-within-kept : (n : ℕ) → DoTheSame keep (runs_within n procs few) (runs_within n procs all)
  runs-within-kept zero name globals args left = refl
  runs-within-kept (suc n) name globals args left =
      go (proc_named name procs) (λ p e. named-proc (ProcWithin keep) name procs p within e) (λ other gs vs j. runs-within-kept n other gs vs j)
    where
      go : (o : Option Proc) → ((p : Proc) → o ≡ Some p → ProcWithin keep p) → DoTheSame keep (runs_within n procs few) (runs_within n procs all)
          → made_by few (runs_within n procs few) (only keep globals) args left o ≡ mapped (only keep) (made_by all (runs_within n procs all) globals args left o)
      go None h fewer = refl
      go (Some p) h fewer = performed-kept keep few all give (runs_within n procs few) (runs_within n procs all) fewer p globals args left (h p refl)

  pub runs-kept : DoTheSame keep (runs_of procs few) (runs_of procs all)
  runs-kept name globals args left = runs-within-kept (length procs) name globals args left
