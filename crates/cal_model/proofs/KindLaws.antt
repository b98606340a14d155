-- Kinds are kept, as the laws say it.
use Rattle.std.proofs.Common.{◌≡◌, ℕ, ◌<◌, ◌≤◌, ℤ, true, false, List, [], ◌∷◌, ◌++◌, length, refl, sym, subst, arith, Option, None, Some}
use Rattle.rvc_base.specs.Rules.{wrong_kind}
use Rattle.cal_ast.specs.Tree as tree
use Rattle.cal_ast.specs.Tree.{Tree}
use Rattle.cal_model.specs.Value.{Kind, Shape, Value, Num, Values, kind_of_scalar, stored, HasKind, IsType, kind_of_type}
use Rattle.cal_model.specs.Outcome.{Out, Gives, Traps, Lacks, Clashes, and_then, needed}
use Rattle.cal_model.specs.Env.{Var, Env, find, variable, with_local}
use Rattle.cal_model.specs.Expression.{Calls, eval, eval_all, elements, type_meant, args_given}
use Rattle.cal_model.specs.Actor.{Local, Fun, Actor}
use Rattle.cal_model.specs.Call.{fun_named, calls_of, on_call, declared}
use Rattle.cal_model.specs.Kinding.{Fine, Known, Names, Argument, OfShape, OfSize, counter, with_known, counts, with_counters, constants, constant_number, is_word, kind, kinds, arguments_fit, elements_in, type_judged, type_arguments}
use Rattle.cal_model.specs.Sound.{Each, FunsNeverReturn, with_locals, AreLocals, StartHasKind, IsFormal, IsFun, IsSound, known_local, names_of}
use Rattle.cal_model.specs.Keeping.{GivesOnly, LacksNothing, AreOfKinds, AreMany, AreArguments, given_by, StandFor, HasEach, IsEnvOf, HasAllOf, outside, StartIsOf, StartsAreOf, IsOfItsKinds}
use Rattle.cal_model.proofs.Agreement.{any_name, any-call, any-starts, named-one, agree-lacks, calls-agree}
use Rattle.cal_model.proofs.KindValues.{not-fine, fine-is, split, tested}
use Rattle.cal_model.proofs.KindTypes.{AreTypesIn, type-meant}
use Rattle.cal_model.proofs.KindOperators.{Comes, comes-as}
use Rattle.cal_model.proofs.KindNames.{Found, Stand, Fits, stand-more, stand-match}
use Rattle.cal_model.proofs.KindKept.{kept, all-kept, arguments-kept, elements-kept, type-kept, args-kept, counter-stands}
use Rattle.cal_model.proofs.KindCalls.{arguments-stand, entry-fits, declared-kept, calls-kept, calls-lack-nothing}

-- ---- outcomes

comes-only : {A : Type 0} (P : A → Type 0) (left : ℕ) (o : Out A) → Comes (Unit {0}) P left o → GivesOnly P left o
comes-only P left (Gives a m) c = c
comes-only P left (Traps t) c = tt
comes-only P left Lacks c = tt
comes-only P left Clashes c = c

only-comes : {A : Type 0} (P : A → Type 0) (left : ℕ) (o : Out A) → GivesOnly P left o → Comes (Unit {0}) P left o
only-comes P left (Gives a m) c = c
only-comes P left (Traps t) c = tt
only-comes P left Lacks c = tt
only-comes P left Clashes c = c

lacks-nothing : {A : Type 0} (P : A → Type 0) (left : ℕ) (o : Out A) → Comes ⊥ P left o → LacksNothing o
lacks-nothing P left (Gives a m) c = tt
lacks-nothing P left (Traps t) c = tt
lacks-nothing P left Lacks c = c
lacks-nothing P left Clashes c = tt

-- ---- environments

stand-some : (xs : List Known) (zs : List Var) → StandFor xs zs → Stand (Unit {0}) xs zs
stand-some xs zs h name x e = go (find name zs) refl
  where
    go : (o : Option Value) → find name zs ≡ o → Found (Unit {0}) x o
    go None f = tt
    go (Some v) f = h name x v e f

stand-all : (xs : List Known) (zs : List Var) → StandFor xs zs → HasEach xs zs → Stand ⊥ xs zs
stand-all xs zs h has name x e = let v = has name x e in subst (λ o. Found ⊥ x o) (sym v.1) (h name x v.0 e v.1)

stand-for : (L : Type 0) (xs : List Known) (zs : List Var) → Stand L xs zs → StandFor xs zs
stand-for L xs zs h name x v e f = subst (λ o. Found L x o) f (h name x e)

fits-env : (L : Type 0) (P : List ℕ → Type 0) (calls : Calls) (names : Names) (env : Env) → Fits L P calls names env → IsEnvOf names env
fits-env L P calls names env fit = record {
  globals = stand-for L names.globals env.globals fit.globals;
  all = stand-for L (names.locals ++ names.globals) (env.locals ++ env.globals) fit.all;
}

env-fits : (names : Names) (env : Env) → Each (IsOfItsKinds names) names.funs → IsEnvOf names env → Fits (Unit {0}) any_name (calls_of names.funs) names env
env-fits names env fine is =
    let globals = stand-some names.globals env.globals is.globals in
    record {
      globals = globals;
      all = stand-some (names.locals ++ names.globals) (env.locals ++ env.globals) is.all;
      give = λ name f args left p. calls-kept (length names.funs) names env.globals fine globals name f args left;
      agree = calls-agree (length names.funs) (length names.funs) names.funs (constants names.globals) env.globals (stand-match (Unit {0}) names.globals env.globals globals);
    }

pub env-fits-all : (names : Names) (env : Env) → Each (IsOfItsKinds names) names.funs → FunsNeverReturn names.funs → IsEnvOf names env → HasAllOf names env
    → Fits ⊥ any_name (calls_of names.funs) names env
env-fits-all names env fine never is has =
    let globals = stand-all names.globals env.globals is.globals has.globals in
    record {
      globals = globals;
      all = stand-all (names.locals ++ names.globals) (env.locals ++ env.globals) is.all has.all;
      give = λ name f args left p e. calls-lack-nothing (length names.funs) names env.globals never fine globals name f args left
          (let is = named-one (λ g. never.rank g.name < length names.funs) name names.funs f never.in_range e in subst (λ n. never.rank n < length names.funs) is.1 is.0) e;
      agree = calls-agree (length names.funs) (length names.funs) names.funs (constants names.globals) env.globals (stand-match ⊥ names.globals env.globals globals);
    }

-- ---- the laws

pub kind-kept : (names : Names) (env : Env) (e : Tree) (k : Kind) (left : ℕ) → Each (IsOfItsKinds names) names.funs → IsEnvOf names env → kind e names ≡ Fine k
    → GivesOnly (HasKind k) left (eval e (calls_of names.funs) env left)
kind-kept names env e k left fine is h =
    comes-only (HasKind k) left (eval e (calls_of names.funs) env left) (kept (Unit {0}) any_name any_name (calls_of names.funs) e names env left k (env-fits names env fine is) (any-call e) h)

pub nothing-lacking : (names : Names) (env : Env) (e : Tree) (k : Kind) (left : ℕ) → Each (IsOfItsKinds names) names.funs → FunsNeverReturn names.funs → IsEnvOf names env → HasAllOf names env
    → kind e names ≡ Fine k → LacksNothing (eval e (calls_of names.funs) env left)
nothing-lacking names env e k left fine never is has h =
    lacks-nothing (HasKind k) left (eval e (calls_of names.funs) env left)
    (kept ⊥ any_name any_name (calls_of names.funs) e names env left k (env-fits-all names env fine never is has) (any-call e) h)

pub kinds-kept : (names : Names) (env : Env) (es : Tree) (ks : List Kind) (left : ℕ) → Each (IsOfItsKinds names) names.funs → IsEnvOf names env → kinds es names ≡ Fine ks
    → GivesOnly (AreOfKinds ks) left (eval_all es (calls_of names.funs) env left)
kinds-kept names env es ks left fine is h =
    comes-only (AreOfKinds ks) left (eval_all es (calls_of names.funs) env left) (all-kept (Unit {0}) any_name any_name (calls_of names.funs) es names env left ks (env-fits names env fine is) (any-call es) h)

pub formals-kept : (names : Names) (env : Env) (args : Tree) (formals : List Local) (left : ℕ) → Each (IsOfItsKinds names) names.funs → IsEnvOf names env → arguments_fit args formals names ≡ Fine true
    → GivesOnly (AreArguments formals) left (eval_all args (calls_of names.funs) env left)
formals-kept names env args formals left fine is h =
    comes-only (AreArguments formals) left (eval_all args (calls_of names.funs) env left)
    (arguments-kept (Unit {0}) any_name any_name (calls_of names.funs) args names env left formals (env-fits names env fine is) (any-call args) h)

pub generators-kept : (names : Names) (env : Env) (gens : Tree) (n : ℕ) (k : Kind) (item : Env → ℕ → Out Value) (left : ℕ)
    → Each (IsOfItsKinds names) names.funs → IsEnvOf names env → elements_in gens names ≡ Fine n
    → ((inner : Env) (m : ℕ) → IsEnvOf (with_counters gens names) inner → GivesOnly (HasKind k) m (item inner m))
    → GivesOnly (AreMany n k) left (elements gens item (calls_of names.funs) env left)
generators-kept names env gens n k item left fine is h i =
    comes-only (AreMany n k) left (elements gens item (calls_of names.funs) env left)
    (elements-kept (Unit {0}) any_name any_name (calls_of names.funs) gens names env left n k item (env-fits names env fine is) (any-call gens) h
    (λ inner m fit. only-comes (HasKind k) m (item inner m) (i inner m (fits-env (Unit {0}) any_name (calls_of names.funs) (with_counters gens names) inner fit))))

pub call-kept : (names : Names) (globals : List Var) (name : List ℕ) (f : Fun) (args : Values) (left : ℕ)
    → Each (IsOfItsKinds names) names.funs → StandFor names.globals globals → fun_named name names.funs ≡ Some f → AreArguments f.formals args
    → GivesOnly (HasKind (kind_of_scalar f.result)) left (calls_of names.funs globals name args left)
call-kept names globals name f args left fine is e a =
    comes-only (HasKind (kind_of_scalar f.result)) left (calls_of names.funs globals name args left) (calls-kept (length names.funs) names globals fine (stand-some names.globals globals is) name f args left e a)

pub meant-kept : (names : Names) (env : Env) (shape : Tree) (t : Shape) (left : ℕ) → Each (IsOfItsKinds names) names.funs → IsEnvOf names env → type_judged shape names ≡ Fine t
    → GivesOnly (λ meant. meant ≡ t) left (type_meant shape (calls_of names.funs) env left)
meant-kept names env shape t left fine is h =
    comes-only (λ meant. meant ≡ t) left (type_meant shape (calls_of names.funs) env left)
    (comes-as (Unit {0}) (λ u. (u ≡ t) × IsType t) (λ meant. meant ≡ t) (type_meant shape (calls_of names.funs) env left) left (λ u p. p.0)
    (type-kept (Unit {0}) any_name any_name (calls_of names.funs) shape names env left t (env-fits names env fine is) (any-call shape) h))

pub given-kept : (names : Names) (env : Env) (args : Tree) (judged : List Argument) (left : ℕ) → Each (IsOfItsKinds names) names.funs → IsEnvOf names env → type_arguments args names ≡ Fine judged
    → GivesOnly (λ given. given ≡ given_by judged) left (args_given args (calls_of names.funs) env left)
given-kept names env args judged left fine is h =
    comes-only (λ given. given ≡ given_by judged) left (args_given args (calls_of names.funs) env left)
    (comes-as (Unit {0}) (λ given. (given ≡ given_by judged) × AreTypesIn judged) (λ given. given ≡ given_by judged) (args_given args (calls_of names.funs) env left) left (λ given p. p.0)
    (args-kept (Unit {0}) any_name any_name (calls_of names.funs) args names env left judged (env-fits names env fine is) (any-call args) h))

mutual
  pub judged-type : (shape : Tree) (names : Names) (t : Shape) → type_judged shape names ≡ Fine t → IsType t
  judged-type (tree.type_of (tree.ident name place) args at) names t h =
      let w = tested (is_word name) _ _ place t h in
      let g = split (type_arguments args names) _ t w.1 in
      (type-meant name g.0 at t g.2 (judged-types args names g.0 g.1)).1
  judged-type other names t h = absurd (not-fine wrong_kind 0 t h)

  judged-types : (args : Tree) (names : Names) (g : List Argument) → type_arguments args names ≡ Fine g → AreTypesIn g
  judged-types tree.nil names g h = subst (λ x. AreTypesIn x) (fine-is [] g h) tt
  judged-types (tree.cons (tree.shape_arg (tree.ident name place) shape) args) names g h =
      let t = split (type_judged shape names) _ g h in
      let others = split (type_arguments args names) _ g t.2 in
      subst (λ x. AreTypesIn x) (fine-is (OfShape name t.0 ∷ others.0) g others.2) (judged-type shape names t.0 t.1, judged-types args names others.0 others.1)
  judged-types (tree.cons (tree.value_arg (tree.ident name place) value) args) names g h =
      let z = split (constant_number (kind value names) value names) _ g h in
      let others = split (type_arguments args names) _ g z.2 in
      subst (λ x. AreTypesIn x) (fine-is (OfSize name z.0 ∷ others.0) g others.2) (judged-types args names others.0 others.1)
  judged-types other names g h = absurd (not-fine wrong_kind 0 g h)

-- ---- environments of names

pub counter-kept : (names : Names) (env : Env) (name : List ℕ) (t : Shape) (at : ℕ) (i : ℤ) → IsEnvOf names env → IsType t → counts t at ≡ Fine t
    → IsEnvOf (with_known (counter name) names) (with_local (variable name t false (stored t (Num i))) env)
counter-kept names env name t at i is h c =
    let z : Var = variable name t false (stored t (Num i)) in
    record {
      globals = is.globals;
      all = stand-for (Unit {0}) (counter name ∷ names.locals ++ names.globals) (z ∷ env.locals ++ env.globals)
          (stand-more (Unit {0}) (counter name) z (names.locals ++ names.globals) (env.locals ++ env.globals) refl (counter-stands name t t t at i refl h c)
          (stand-some (names.locals ++ names.globals) (env.locals ++ env.globals) is.all));
    }

-- functions of which nothing is asked
abbrev idle : Calls
idle globals name args left = Lacks

idle-fits : (names : Names) (globals : List Var) → StandFor names.globals globals → Fits (Unit {0}) (λ name. ⊥) idle (outside names) (record { globals = globals; locals = [] })
idle-fits names globals h = record {
  globals = stand-some names.globals globals h;
  all = stand-some names.globals globals h;
  give = λ name f args left p. absurd p;
  agree = λ name args left. agree-lacks (Unit {0}) (calls_of names.funs (constants names.globals) name args left) tt;
}

pub entry-kept : (names : Names) (globals : List Var) (f : Fun) (args : Values) (left : ℕ) → IsOfItsKinds names f → StandFor names.globals globals → AreArguments f.formals args
    → GivesOnly (IsEnvOf (with_locals f.formals (outside names))) left (on_call globals f.formals args left)
entry-kept names globals f args left fine h a =
    let entry = arguments-stand (Unit {0}) f.formals args names.globals globals a fine.formals (stand-some names.globals globals h) in
    let inner : Env = record { globals = globals; locals = entry.0 } in
    subst (λ o. GivesOnly (IsEnvOf (with_locals f.formals (outside names))) left (and_then (needed o left) (λ vars k. Gives (record { globals = globals; locals = vars }) k))) (sym entry.1) (
      fits-env (Unit {0}) (λ name. ⊥) idle (with_locals f.formals (outside names)) inner (entry-fits (Unit {0}) (λ name. ⊥) (λ name. ⊥) idle f.formals names globals entry.0 (idle-fits names globals h) entry.2),
      let s : left ≤ left = omega arith in s,
    )

pub locals-kept : (names : Names) (env : Env) (locals : List Local) (left : ℕ) → Each (IsOfItsKinds names) names.funs → IsEnvOf names env → StartsAreOf locals names
    → GivesOnly (IsEnvOf (with_locals locals names)) left (declared locals (calls_of names.funs) env left)
locals-kept names env locals left fine is h =
    comes-only (IsEnvOf (with_locals locals names)) left (declared locals (calls_of names.funs) env left)
    (comes-as (Unit {0}) (λ inner. Fits (Unit {0}) any_name (calls_of names.funs) (with_locals locals names) inner) (IsEnvOf (with_locals locals names)) (declared locals (calls_of names.funs) env left) left
    (λ inner fit. fits-env (Unit {0}) any_name (calls_of names.funs) (with_locals locals names) inner fit)
    (declared-kept (Unit {0}) any_name any_name (calls_of names.funs) locals names env left (env-fits names env fine is) h (any-starts locals)))

-- ---- sound actors

pub starts-are-of : (xs : List Local) (names : Names) → AreLocals xs names → StartsAreOf xs names
starts-are-of [] names h = tt
starts-are-of (x ∷ xs) names h = (h.0, go x.start h.1, starts-are-of xs (with_known (known_local x) names) h.2)
  where
    go : (o : Option Tree) → StartHasKind (kind_of_type x.shape) o names → StartIsOf (kind_of_type x.shape) o names
    go None s = tt
    go (Some e) s = s.0

pub formals-are-types : (xs : List Local) → Each IsFormal xs → Each (λ x. IsType x.shape) xs
formals-are-types [] h = tt
formals-are-types (x ∷ xs) h = (subst (λ t. IsType t) (sym h.0.single) h.0.size, formals-are-types xs h.1)

fun-of-kinds : (names : Names) (f : Fun) → IsFun names f → names ≡ outside names → IsOfItsKinds names f
fun-of-kinds names f is e = record {
  formals = formals-are-types f.formals is.formals;
  locals = subst (λ n. StartsAreOf f.locals (with_locals f.formals n)) e (starts-are-of f.locals (with_locals f.formals names) is.locals);
  result = is.result;
  body = subst (λ n. kind f.body (with_locals f.locals (with_locals f.formals n)) ≡ Fine (kind_of_scalar f.result)) e is.body;
}

funs-of-kinds : (names : Names) (fs : List Fun) → names ≡ outside names → Each (IsFun names) fs → Each (IsOfItsKinds names) fs
funs-of-kinds names [] e h = tt
funs-of-kinds names (f ∷ fs) e h = (fun-of-kinds names f h.0 e, funs-of-kinds names fs e h.1)

pub sound-funs : (actor : Actor) → IsSound actor → Each (IsOfItsKinds (names_of actor)) actor.funs
sound-funs actor sound = funs-of-kinds (names_of actor) actor.funs refl sound.funs
