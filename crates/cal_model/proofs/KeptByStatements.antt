-- Statements, procedures and actions keep an actor's variables in their types.
use Rattle.std.proofs.Common.{◌≡◌, ℕ, zero, suc, ℤ, pos, ◌+ℤ◌, ◌<◌, Bool, true, false, List, [], ◌∷◌, ◌++◌, map, length, refl, sym, ap, subst, ◌∙◌, arith, Option, None, Some}
use Rattle.std.proofs.lemmas.List.{append-nil}
use Rattle.std.proofs.lemmas.Bool.{true≢false}
use Rattle.std.specs.Prelude.{if◌then◌else◌, option_map}
use Rattle.cal_ast.specs.Places.{begins}
use Rattle.cal_ast.specs.Tree as tree
use Rattle.cal_ast.specs.Tree.{Tree}
use Rattle.cal_model.specs.Value.{Kind, NumKind, BoolKind, Shape, Value, Num, Values, Nil, Cons, kind_of_type, stored, HasKind, IsOf, IsType}
use Rattle.cal_model.specs.Outcome.{Out, Gives, Lacks, and_then, needed}
use Rattle.cal_model.specs.Env.{Var, Env, variable, with_local}
use Rattle.cal_model.specs.Expression.{Calls, eval, eval_all, type_meant, span}
use Rattle.cal_model.specs.Actor.{Held, Local, Proc}
use Rattle.cal_model.specs.ActorState.{AreVarsOf}
use Rattle.cal_model.specs.Call.{calls_of, first_value, declared, arguments}
use Rattle.cal_model.specs.Statement.{Runs, while_loop, for_loop, inside, first_of, with_vars, exec, exec_all, performed, proc_named, runs_within, runs_of}
use Rattle.cal_model.specs.Kinding.{Fine, Known, Names, with_known, counter, counts, kind, kinds, arguments_fit, type_judged}
use Rattle.cal_model.specs.Sound.{Each, EachCall, ProcCallsBelow, ProcsNeverReturn, IsProc, known_local, with_locals, IsVarStart, AreVars, with_vars_known, kind_of_judged, IsStatement, AreStatements}
use Rattle.cal_model.specs.Keeping.{GivesOrTraps, AreOfKinds, AreArguments, StartIsOf, StartsAreOf}
use Rattle.cal_model.proofs.Stored.{stored-is-of, zero-is-of}
use Rattle.cal_model.proofs.KindValues.{of-type}
use Rattle.cal_model.proofs.Agreement.{any_name, any-call}
use Rattle.cal_model.proofs.KindKept.{kept, all-kept, arguments-kept, type-kept, counter-stands}
use Rattle.cal_model.proofs.KindLaws.{judged-type, starts-are-of, formals-are-types}
use Rattle.cal_model.proofs.KindOrder.{onto, one-behind}
use Rattle.cal_model.proofs.Procedures.{named-proc}
use Rattle.cal_model.proofs.KeptTypes.{comes-all, gives-as, then-if, turn-if, chosen-if, range-if, Stays, AllStay, Typed, Good, Fixed, good-fits, assign-good, good-more, fixed-more, good-back}

-- ---- variables with values of their types

no-constant : (w : Value) → None ≡ Some w → ⊥
no-constant w h = cc

abbrev pub plain_known : List ℕ → Kind → Bool → Known
plain_known name k changes = record { name = name; kind = k; value = None; changes = changes }

kept-type : (b : Bool) (t s : Shape) → (if b then Some t else None) ≡ Some s → t ≡ s
kept-type true t s e = cc
kept-type false t s e = let no : None ≡ Some s = e in absurd (grind arith)

-- a variable that holds a value of its type
typed-stays : (name : List ℕ) (t : Shape) (changes : Bool) (v : Value) → IsType t → IsOf t v → Stays (plain_known name (kind_of_type t) changes) (variable name t changes v)
typed-stays name t changes v i is = record {
  name = refl;
  stands = record { kind = of-type v t i is; constant = λ w e. absurd (no-constant w e) };
  kept = λ s e. subst (λ u. IsType u × (kind_of_type u ≡ kind_of_type t) × IsOf u v × (◌≡◌ {A = Option Value} None None)) (kept-type changes t s e) (i, refl, is, refl);
  may = λ c. (t, ap (λ b. if b then Some t else None) c);
}

-- the variable of a loop
counter-stays : (name : List ℕ) (t : Shape) (at : ℕ) (i : ℤ) → IsType t → counts t at ≡ Fine t → Stays (counter name) (variable name t false (stored t (Num i)))
counter-stays name t at i is h = record {
  name = refl;
  stands = counter-stands name t t t at i refl is h;
  kept = λ s e. let no : None ≡ Some s = e in absurd (grind arith);
  may = λ c. absurd (true≢false (sym c));
}

-- ---- statements

-- a procedure that Q speaks of keeps the actor's variables, for arguments of its formals' kinds
abbrev pub RunsKeep : List Held → List Proc → (List ℕ → Type 0) → Runs → Type 0
RunsKeep hs procs Q runs = (globals : List Var) (name : List ℕ) (p : Proc) (args : Values) (left : ℕ) → Q name → AreVarsOf hs globals → proc_named name procs ≡ Some p → AreArguments p.formals args
    → GivesOrTraps (AreVarsOf hs) (runs globals name args left)

-- a variable of a block as a name
abbrev var_known : List ℕ → Tree → Bool → Names → Known
var_known name shape changes names = plain_known name (kind_of_judged (type_judged shape names)) changes

-- the locals of a block, with those that were there before it
abbrev vars_on : Tree → Names → List Known → List Known
vars_on (tree.cons (tree.var shape (tree.ident name place) start changes at) vars) names ns =
    vars_on vars (with_known (var_known name shape changes names) names) (var_known name shape changes names ∷ ns)
vars_on other names ns = ns

-- a variable of a type, and then the other variables of its block
abbrev vars_from : List ℕ → Tree → Bool → Tree → Calls → Env → Shape → ℕ → Out Env
vars_from name start changes vars calls env t m = and_then (first_of t start calls env m) (λ v k. with_vars vars calls (with_local (variable name t changes v) env) k)

more-front : (n : Known) (ns ks : List Known) → (ms : List Known) × (ks ≡ ms ++ (n ∷ ns)) → (ms : List Known) × (ks ≡ ms ++ ns)
more-front n ns ks (ms, e) = (ms ++ (n ∷ []), e ∙ sym (regroup ms))
  where
    regroup : (xs : List Known) → (xs ++ (n ∷ [])) ++ ns ≡ xs ++ (n ∷ ns)
    regroup [] = refl
    regroup (x ∷ xs) = ap (λ ys. x ∷ ys) (regroup xs)

vars-front : (vars : Tree) (names : Names) (ns : List Known) → (ms : List Known) × (vars_on vars names ns ≡ ms ++ ns)
vars-front (tree.cons (tree.var shape (tree.ident name place) start changes at) vars) names ns =
    let x : Known = var_known name shape changes names in
    more-front x ns (vars_on vars (with_known x names) (x ∷ ns)) (vars-front vars (with_known x names) (x ∷ ns))
vars-front other names ns = ([], refl)

vars-funs : (vars : Tree) (names : Names) → (with_vars_known vars names).funs ≡ names.funs
vars-funs (tree.cons (tree.var shape (tree.ident name place) start changes at) vars) names =
    vars-funs vars (with_known (var_known name shape changes names) names)
vars-funs other names = refl

module _ (hs : List Held) (ts : Typed hs) where
  vars-fixed : (vars : Tree) (names : Names) (ns : List Known) → Fixed hs ns names → Fixed hs (vars_on vars names ns) (with_vars_known vars names)
  vars-fixed (tree.cons (tree.var shape (tree.ident name place) start changes at) vars) names ns f =
      let x : Known = var_known name shape changes names in
      vars-fixed vars (with_known x names) (x ∷ ns) (fixed-more hs ns names x f)
  vars-fixed other names ns f = f

  -- the value of an expression of a kind
  pub eval-if : (names : Names) (ns : List Known) (env : Env) (e : Tree) (k : Kind) (left : ℕ) → Fixed hs ns names → Good hs ns env → kind e names ≡ Fine k → GivesOrTraps (HasKind k) (eval e (calls_of names.funs) env left)
  eval-if names ns env e k left f g h =
      comes-all (HasKind k) left (eval e (calls_of names.funs) env left) (kept ⊥ any_name any_name (calls_of names.funs) e names env left k (good-fits hs ns names env ts f g) (any-call e) h)

  pub all-if : (names : Names) (ns : List Known) (env : Env) (es : Tree) (ks : List Kind) (left : ℕ) → Fixed hs ns names → Good hs ns env → kinds es names ≡ Fine ks
      → GivesOrTraps (AreOfKinds ks) (eval_all es (calls_of names.funs) env left)
  all-if names ns env es ks left f g h =
      comes-all (AreOfKinds ks) left (eval_all es (calls_of names.funs) env left) (all-kept ⊥ any_name any_name (calls_of names.funs) es names env left ks (good-fits hs ns names env ts f g) (any-call es) h)

  formals-if : (names : Names) (ns : List Known) (env : Env) (args : Tree) (formals : List Local) (left : ℕ) → Fixed hs ns names → Good hs ns env → arguments_fit args formals names ≡ Fine true
      → GivesOrTraps (AreArguments formals) (eval_all args (calls_of names.funs) env left)
  formals-if names ns env args formals left f g h =
      comes-all (AreArguments formals) left (eval_all args (calls_of names.funs) env left)
      (arguments-kept ⊥ any_name any_name (calls_of names.funs) args names env left formals (good-fits hs ns names env ts f g) (any-call args) h)

  meant-if : (names : Names) (ns : List Known) (env : Env) (shape : Tree) (t : Shape) (left : ℕ) → Fixed hs ns names → Good hs ns env → type_judged shape names ≡ Fine t
      → GivesOrTraps (λ meant. meant ≡ t) (type_meant shape (calls_of names.funs) env left)
  meant-if names ns env shape t left f g h =
      gives-as (λ u. (u ≡ t) × IsType t) (λ meant. meant ≡ t) (type_meant shape (calls_of names.funs) env left) (λ u p. p.0)
      (comes-all (λ u. (u ≡ t) × IsType t) left (type_meant shape (calls_of names.funs) env left)
      (type-kept ⊥ any_name any_name (calls_of names.funs) shape names env left t (good-fits hs ns names env ts f g) (any-call shape) h))

  start-if : (names : Names) (ns : List Known) (env : Env) (t : Shape) (start : Tree) (left : ℕ) → Fixed hs ns names → Good hs ns env → IsType t → IsVarStart (kind_of_type t) start names
      → GivesOrTraps (IsOf t) (first_of t start (calls_of names.funs) env left)
  start-if names ns env t tree.absent left f g i h = zero-is-of t i
  start-if names ns env t (tree.present e) left f g i h =
      then-if (HasKind (kind_of_type t)) (IsOf t) (eval e (calls_of names.funs) env left) _ (eval-if names ns env e (kind_of_type t) left f g h) (λ v k has. stored-is-of v t i has)
  start-if names ns env t other left f g i h = absurd h

  vars-good : (vars : Tree) (names : Names) (ns : List Known) (env : Env) (left : ℕ) → Fixed hs ns names → Good hs ns env → AreVars vars names
      → GivesOrTraps (Good hs (vars_on vars names ns)) (with_vars vars (calls_of names.funs) env left)
  vars-good tree.nil names ns env left f g h = g
  vars-good (tree.cons (tree.var shape (tree.ident name place) start changes at) vars) names ns env left f g (t, e, s, rest) =
      let x : Known = var_known name shape changes names in
      let same : kind_of_judged (type_judged shape names) ≡ kind_of_type t = ap kind_of_judged e in
      let i : IsType t = judged-type shape names t e in
      let others : AreVars vars (with_known x names) = subst (λ k. AreVars vars (with_known (plain_known name k changes) names)) (sym same) rest in
      then-if (λ meant. meant ≡ t) (Good hs (vars_on vars (with_known x names) (x ∷ ns))) (type_meant shape (calls_of names.funs) env left) (vars_from name start changes vars (calls_of names.funs) env) (meant-if names ns env shape t left f g e) (λ meant m is.
      subst (λ u. GivesOrTraps (Good hs (vars_on vars (with_known x names) (x ∷ ns))) (vars_from name start changes vars (calls_of names.funs) env u m)) (sym is)
      (then-if (IsOf t) (Good hs (vars_on vars (with_known x names) (x ∷ ns))) (first_of t start (calls_of names.funs) env m) _ (start-if names ns env t start m f g i s) (λ v k of.
      vars-good vars (with_known x names) (x ∷ ns) (with_local (variable name t changes v) env) k (fixed-more hs ns names x f)
      (good-more hs ns env x (variable name t changes v) (subst (λ l. Stays (plain_known name l changes) (variable name t changes v)) (sym same) (typed-stays name t changes v i of)) g) others)))
  vars-good other names ns env left f g h = absurd h

  while-good : (ns : List Known) (most : ℕ) (test : Env → ℕ → Out Value) (body : Env → ℕ → Out Env) (env : Env) (left : ℕ) → ((now : Env) (k : ℕ) → Good hs ns now → GivesOrTraps (HasKind BoolKind) (test now k))
      → ((now : Env) (k : ℕ) → Good hs ns now → GivesOrTraps (Good hs ns) (body now k)) → Good hs ns env → GivesOrTraps (Good hs ns) (while_loop most test body env left)
  while-good ns zero test body env left t h g = turn-if (Good hs ns) 0 (λ m. Gives env m) (λ k. g)
  while-good ns (suc most) test body env left t h g =
      then-if (HasKind BoolKind) (Good hs ns) (test env left) _ (t env left g) (λ v m u.
      chosen-if (Good hs ns) v _ _ m u (λ k.
      turn-if (Good hs ns) k _ (λ j. then-if (Good hs ns) (Good hs ns) (body env j) _ (h env j g) (λ next i now. while-good ns most test body next i t h now))) (λ k. g))

  for-good : (ns : List Known) (n : ℕ) (i : ℤ) (body : ℤ → Env → ℕ → Out Env) (env : Env) (left : ℕ) → ((j : ℤ) (now : Env) (k : ℕ) → Good hs ns now → GivesOrTraps (Good hs ns) (body j now k))
      → Good hs ns env → GivesOrTraps (Good hs ns) (for_loop n i body env left)
  for-good ns zero i body env left h g = g
  for-good ns (suc n) i body env left h g =
      turn-if (Good hs ns) left _ (λ m. then-if (Good hs ns) (Good hs ns) (body i env m) _ (h i env m g) (λ next k now. for-good ns n (i +ℤ pos 1) body next k h now))

  inside-good : (ms ns ks : List Known) (env inner : Env) (body : Env → ℕ → Out Env) (left : ℕ) → ks ≡ ms ++ ns → Good hs ns env → GivesOrTraps (Good hs ks) (body inner left) → GivesOrTraps (Good hs ns) (inside env inner body left)
  inside-good ms ns ks env inner body left e g h =
      then-if (Good hs ks) (Good hs ns) (body inner left) _ h (λ next k good. good-back hs ms ns env next g (subst (λ l. Good hs l next) e good))

  module _ (procs : List Proc) (runs : Runs) (Q : List ℕ → Type 0) (r : RunsKeep hs procs Q runs) where
    mutual
      pub exec-good : (s : Tree) (names : Names) (ns : List Known) (env : Env) (left : ℕ) → Fixed hs ns names → Good hs ns env → EachCall any_name Q s → IsStatement s procs names
          → GivesOrTraps (Good hs ns) (exec s (calls_of names.funs) runs env left)
      exec-good (tree.assign (tree.ident name place) places value at) names ns env left f g c (ks, k, e, d, may) =
          then-if (AreOfKinds ks) (Good hs ns) (eval_all places (calls_of names.funs) env left) _ (all-if names ns env places ks left f g e) (λ is m are.
          then-if (HasKind k) (Good hs ns) (eval value (calls_of names.funs) env m) _ (eval-if names ns env value k m f g d) (λ v j has.
          assign-good hs ns names env name may.meant is v j ts f g may.changes may.is_meant (record { kinds = ks; item = k; inside = may.inside; are = are; has = has })))
      exec-good (tree.call_stmt (tree.ident name place) args at) names ns env left f g c (p, e, h) =
          then-if (AreArguments p.formals) (Good hs ns) (eval_all args (calls_of names.funs) env left) _ (formals-if names ns env args p.formals left f g h) (λ vs m are.
          turn-if (Good hs ns) m _ (λ k.
          then-if (AreVarsOf hs) (Good hs ns) (runs env.globals name vs k) _ (r env.globals name p vs k c.0 g.globals e are) (λ globals j now. record { globals = now; locals = g.locals })))
      exec-good (tree.if_stmt test first other at) names ns env left f g c (e, h, i) =
          then-if (HasKind BoolKind) (Good hs ns) (eval test (calls_of names.funs) env left) _ (eval-if names ns env test BoolKind left f g e) (λ v m u.
          chosen-if (Good hs ns) v _ _ m u (λ k. all-good first names ns env k f g c.1 h) (λ k. all-good other names ns env k f g c.2 i))
      exec-good (tree.while_stmt test body at) names ns env left f g c (e, h) =
          while-good ns (suc left) (λ now k. eval test (calls_of names.funs) now k) (λ now k. exec_all body (calls_of names.funs) runs now k) env left
          (λ now k good. eval-if names ns now test BoolKind k f good e) (λ now k good. all-good body names ns now k f good c.1 h) g
      exec-good (tree.foreach_stmt shape (tree.ident name place) from to body at) names ns env left f g q (t, e, c, d, b, h) =
          let i : IsType t = judged-type shape names t e in
          then-if (λ meant. meant ≡ t) (Good hs ns) (type_meant shape (calls_of names.funs) env left) _ (meant-if names ns env shape t left f g e) (λ meant m is.
          then-if (HasKind NumKind) (Good hs ns) (eval from (calls_of names.funs) env m) _ (eval-if names ns env from NumKind m f g d) (λ a j u.
          then-if (HasKind NumKind) (Good hs ns) (eval to (calls_of names.funs) env j) _ (eval-if names ns env to NumKind j f g b) (λ z k w.
          range-if (Good hs ns) a z _ u w (λ low high.
          for-good ns (span low high) low _ env k (λ n now l good.
          inside-good (counter name ∷ []) ns (counter name ∷ ns) now (with_local (variable name meant false (stored meant (Num n))) now) (λ inner o. exec_all body (calls_of names.funs) runs inner o) l refl good
          (all-good body (with_known (counter name) names) (counter name ∷ ns) (with_local (variable name meant false (stored meant (Num n))) now) l (fixed-more hs ns names (counter name) f)
          (good-more hs ns now (counter name) (variable name meant false (stored meant (Num n)))
          (subst (λ o. Stays (counter name) (variable name o false (stored o (Num n)))) (sym is) (counter-stays name t (begins shape) n i c)) good) q.3 h)) g))))
      exec-good (tree.block vars body at) names ns env left f g c (a, d, h) =
          let front = vars-front vars names ns in
          then-if (Good hs (vars_on vars names ns)) (Good hs ns) (with_vars vars (calls_of names.funs) env left) _ (vars-good vars names ns env left f g a) (λ inner m good.
          inside-good front.0 ns (vars_on vars names ns) env inner (λ now k. exec_all body (calls_of names.funs) runs now k) m front.1 g
          (subst (λ o. GivesOrTraps (Good hs (vars_on vars names ns)) (exec_all body o runs inner m)) (ap calls_of (vars-funs vars names))
          (all-good body (with_vars_known vars names) (vars_on vars names ns) inner m (vars-fixed vars names ns f) good c.1 h)))
      exec-good other names ns env left f g c h = absurd h

      pub all-good : (s : Tree) (names : Names) (ns : List Known) (env : Env) (left : ℕ) → Fixed hs ns names → Good hs ns env → EachCall any_name Q s → AreStatements s procs names
          → GivesOrTraps (Good hs ns) (exec_all s (calls_of names.funs) runs env left)
      all-good tree.nil names ns env left f g c h = g
      all-good (tree.cons s rest) names ns env left f g c (h, i) =
          then-if (Good hs ns) (Good hs ns) (exec s (calls_of names.funs) runs env left) _ (exec-good s names ns env left f g c.0 h) (λ next m now. all-good rest names ns next m f now c.1 i)
      all-good tree.absent names ns env left f g c h = g
      all-good (tree.present body) names ns env left f g c h = all-good body names ns env left f g c h
      all-good other names ns env left f g c h = absurd h

-- ---- locals and formals

arguments-stay : (xs : List Local) (args : Values) (ns : List Known) (vars : List Var) → AreArguments xs args → Each (λ x. IsType x.shape) xs → AllStay ns vars
    → (entry : List Var) × (arguments xs args ≡ Some entry) × AllStay (onto (map known_local xs) ns) (entry ++ vars)
arguments-stay [] Nil ns vars a t h = ([], refl, h)
arguments-stay [] (Cons v vs) ns vars a t h = absurd a
arguments-stay (x ∷ xs) Nil ns vars a t h = absurd a
arguments-stay (x ∷ xs) (Cons v vs) ns vars a t h =
    let first : Var = variable x.name x.shape x.changes (stored x.shape v) in
    let rest = arguments-stay xs vs (known_local x ∷ ns) (first ∷ vars) a.1 t.1 (typed-stays x.name x.shape x.changes (stored x.shape v) t.0 (stored-is-of v x.shape t.0 a.0), h) in (
      rest.0 ++ first ∷ [],
      ap (λ o. option_map (λ entry. entry ++ first ∷ []) o) rest.1,
      subst (λ entry. AllStay (onto (map known_local xs) (known_local x ∷ ns)) entry) (sym (one-behind first rest.0 vars)) rest.2,
    )

pub locals-funs : (xs : List Local) (names : Names) → (with_locals xs names).funs ≡ names.funs
locals-funs [] names = refl
locals-funs (x ∷ xs) names = locals-funs xs (with_known (known_local x) names)

pub locals-fixed : (hs : List Held) (xs : List Local) (names : Names) (ns : List Known) → Fixed hs ns names → Fixed hs (onto (map known_local xs) ns) (with_locals xs names)
locals-fixed hs [] names ns f = f
locals-fixed hs (x ∷ xs) names ns f = locals-fixed hs xs (with_known (known_local x) names) (known_local x ∷ ns) (fixed-more hs ns names (known_local x) f)

module _ (hs : List Held) (ts : Typed hs) where
  first-if : (names : Names) (ns : List Known) (env : Env) (t : Shape) (start : Option Tree) (left : ℕ) → Fixed hs ns names → Good hs ns env → IsType t → StartIsOf (kind_of_type t) start names
      → GivesOrTraps (IsOf t) (first_value t start (calls_of names.funs) env left)
  first-if names ns env t None left f g i h = zero-is-of t i
  first-if names ns env t (Some e) left f g i h =
      then-if (HasKind (kind_of_type t)) (IsOf t) (eval e (calls_of names.funs) env left) _ (eval-if hs ts names ns env e (kind_of_type t) left f g h) (λ v k has. stored-is-of v t i has)

  pub declared-good : (xs : List Local) (names : Names) (ns : List Known) (env : Env) (left : ℕ) → Fixed hs ns names → Good hs ns env → StartsAreOf xs names
      → GivesOrTraps (Good hs (onto (map known_local xs) ns)) (declared xs (calls_of names.funs) env left)
  declared-good [] names ns env left f g h = g
  declared-good (x ∷ xs) names ns env left f g h =
      then-if (IsOf x.shape) (Good hs (onto (map known_local xs) (known_local x ∷ ns))) (first_value x.shape x.start (calls_of names.funs) env left) _ (first-if names ns env x.shape x.start left f g h.0 h.1) (λ v m is.
      declared-good xs (with_known (known_local x) names) (known_local x ∷ ns) (with_local (variable x.name x.shape x.changes v) env) m (fixed-more hs ns names (known_local x) f)
      (good-more hs ns env (known_local x) (variable x.name x.shape x.changes v) (typed-stays x.name x.shape x.changes v h.0 is) g) h.2)

  -- ---- procedures

  module _ (procs : List Proc) (names : Names) (f : Fixed hs [] names) (sound : Each (IsProc procs names) procs) (never : ProcsNeverReturn procs) where
    performed-good : (p : Proc) (runs : Runs) (Q : List ℕ → Type 0) (globals : List Var) (args : Values) (left : ℕ) → RunsKeep hs procs Q runs → EachCall any_name Q p.body → IsProc procs names p → AreVarsOf hs globals → AreArguments p.formals args
        → GivesOrTraps (AreVarsOf hs) (performed p (calls_of names.funs) runs globals args left)
    performed-good p runs Q globals args left r c is g a =
        let entry = arguments-stay p.formals args [] [] a (formals-are-types p.formals is.formals) tt in
        let formals : List Known = onto (map known_local p.formals) [] in
        let inner = with_locals p.formals names in
        let fixed = locals-fixed hs p.formals names [] f in
        let funs = locals-funs p.formals names in
        let more = locals-funs p.locals inner in
        let good : Good hs formals (record { globals = globals; locals = entry.0 }) = record { globals = g; locals = subst (λ vars. AllStay formals vars) (append-nil entry.0) entry.2 } in
        subst (λ o. GivesOrTraps (AreVarsOf hs) (and_then (and_then (needed o left) (λ vars k. Gives (record { globals = globals; locals = vars }) k)) (λ now h. and_then (declared p.locals (calls_of names.funs) now h) (λ env m. and_then (exec_all p.body (calls_of names.funs) runs env m) (λ last k. Gives last.globals k))))) (sym entry.1)
        (then-if (Good hs (onto (map known_local p.locals) formals)) (AreVarsOf hs) (declared p.locals (calls_of names.funs) (record { globals = globals; locals = entry.0 }) left) _
        (subst (λ fs. GivesOrTraps (Good hs (onto (map known_local p.locals) formals)) (declared p.locals (calls_of fs) (record { globals = globals; locals = entry.0 }) left)) funs
        (declared-good p.locals inner formals (record { globals = globals; locals = entry.0 }) left fixed good (starts-are-of p.locals inner is.locals))) (λ env m now.
        then-if (Good hs (onto (map known_local p.locals) formals)) (AreVarsOf hs) (exec_all p.body (calls_of names.funs) runs env m) _
        (subst (λ fs. GivesOrTraps (Good hs (onto (map known_local p.locals) formals)) (exec_all p.body (calls_of fs) runs env m)) (more ∙ funs)
        (all-good hs ts procs runs Q r p.body (with_locals p.locals inner) (onto (map known_local p.locals) formals) env m (locals-fixed hs p.locals inner formals fixed) now c is.body)) (λ last k done. done.globals)))

    -- if as many calls may be open as there are ranks below, the bound on open calls never shows
    within-keep : (n : ℕ) → RunsKeep hs procs (λ name. never.rank name < n) (runs_within n procs (calls_of names.funs))
    within-keep zero globals name p args left q g e a = let no : never.rank name < 0 = q in absurd (omega arith)
    within-keep (suc n) globals name p args left q g e a =
        let is = named-proc (IsProc procs names) name procs p sound e in
        let below = named-proc (ProcCallsBelow never.rank) name procs p never.calls e in
        let same : never.rank p.name ≡ never.rank name = ap never.rank is.1 in
        let less : never.rank name < suc n = q in
        subst (λ o. GivesOrTraps (AreVarsOf hs) (elim o [ None ↦ Lacks | Some q ↦ performed q (calls_of names.funs) (runs_within n procs (calls_of names.funs)) globals args left ])) (sym e)
        (performed-good p (runs_within n procs (calls_of names.funs)) (λ other. never.rank other < never.rank p.name) globals args left
        (λ inner other o vs k lower. within-keep n inner other o vs k (let l : never.rank other < never.rank p.name = lower in omega arith)) below.0.body is.0 g a)

    pub procedures-keep : RunsKeep hs procs any_name (runs_of procs (calls_of names.funs))
    procedures-keep globals name p args left q g e a =
        let is = named-proc (λ o. never.rank o.name < length procs) name procs p never.in_range e in
        within-keep (length procs) globals name p args left (subst (λ n. never.rank n < length procs) is.1 is.0) g e a
