-- Names with kinds, and environments of them.
use Rattle.std.proofs.Common.{◌≡◌, ℕ, Bool, true, false, List, [], ◌∷◌, ◌++◌, refl, sym, ap, subst, ◌∙◌, arith, Option, None, Some}
use Rattle.std.specs.Prelude.{if◌then◌else◌}
use Rattle.std.specs.Str.{bytes_eq}
use Rattle.std.proofs.lemmas.Slice.Eq.{bytes_eq-Decides}
use Rattle.cal_model.specs.Value.{Value, Values, kind_of_scalar, HasKind}
use Rattle.cal_model.specs.Env.{Var, Env, find, with_local}
use Rattle.cal_model.specs.Expression.{Calls}
use Rattle.cal_model.specs.Actor.{Fun}
use Rattle.cal_model.specs.Call.{fun_named, calls_of}
use Rattle.cal_model.specs.Kinding.{Known, Names, known_as, with_known, without, constants, constant_calls}
use Rattle.cal_model.specs.Keeping.{StandsFor, AreArguments}
use Rattle.cal_model.proofs.Agreement.{any_name, Agree, Match, Alike}
use Rattle.cal_model.proofs.KindOperators.{Comes}

-- ---- texts

pub same-text : (xs ys : List ℕ) → bytes_eq xs ys ≡ true → xs ≡ ys
same-text xs ys h = (bytes_eq-Decides xs ys).0 h

pub text-same : (xs : List ℕ) → bytes_eq xs xs ≡ true
text-same xs = (bytes_eq-Decides xs xs).1 refl

-- ---- constants

abbrev value_of : Option Known → Option Value
value_of None = None
value_of (Some x) = x.value

-- the first of these names is dropped with all that have its text
skip : (name other : List ℕ) (y : Var) (ys : List Var) (b : Bool) → bytes_eq y.name other ≡ b
    → find name (without other ys) ≡ (if bytes_eq other name then None else find name ys)
    → find name (if b then without other ys else y ∷ without other ys) ≡ (if bytes_eq other name then None else if bytes_eq y.name name then Some y.value else find name ys)
skip name other y ys true e ih =
    let same : other ≡ y.name = sym (same-text y.name other e) in
    ih ∙ go (bytes_eq other name) (bytes_eq y.name name) (ap (λ t. bytes_eq t name) same)
  where
    go : (b c : Bool) → b ≡ c → (if b then None else find name ys) ≡ (if b then None else if c then Some y.value else find name ys)
    go true c h = refl
    go false true h = absurd (grind arith)
    go false false h = refl
skip name other y ys false e ih = go (bytes_eq y.name name) (bytes_eq other name) refl refl ih
  where
    go : (b c : Bool) → bytes_eq y.name name ≡ b → bytes_eq other name ≡ c → find name (without other ys) ≡ (if c then None else find name ys)
        → (if b then Some y.value else find name (without other ys)) ≡ (if c then None else if b then Some y.value else find name ys)
    go true true f g h =
        let same : y.name ≡ other = same-text y.name name f ∙ sym (same-text other name g) in
        let t : bytes_eq y.name other ≡ true = ap (λ t. bytes_eq y.name t) (sym same) ∙ text-same y.name in
        let u : true ≡ false = sym t ∙ e in absurd (grind arith)
    go true false f g h = refl
    go false true f g h = h
    go false false f g h = h

none-either : (b : Bool) → find [] [] ≡ (if b then None else find [] [])
none-either true = refl
none-either false = refl

find-without : (name other : List ℕ) (ys : List Var) → find name (without other ys) ≡ (if bytes_eq other name then None else find name ys)
find-without name other [] = none-either (bytes_eq other name)
find-without name other (y ∷ ys) = skip name other y ys (bytes_eq y.name other) refl (find-without name other ys)

abbrev add_constant : Known → Option Value → List Var → List Var
add_constant x o vars = elim o [ None ↦ without x.name vars | Some v ↦ record { name = x.name; value = v; kept = None } ∷ vars ]

-- the constant of a name is what the name is known with
pub find-constant : (name : List ℕ) (xs : List Known) → find name (constants xs) ≡ value_of (known_as name xs)
find-constant name [] = refl
find-constant name (x ∷ xs) = go x.value refl (bytes_eq x.name name) refl (find-constant name xs)
  where
    after : (b : Bool) → value_of (if b then Some x else known_as name xs) ≡ (if b then x.value else value_of (known_as name xs))
    after true = refl
    after false = refl

    unnamed : (b : Bool) → bytes_eq x.name name ≡ b → find name (constants xs) ≡ value_of (known_as name xs)
        → (if b then None else find name (constants xs)) ≡ (if b then None else value_of (known_as name xs))
    unnamed true e h = refl
    unnamed false e h = h

    valued : (v : Value) (b : Bool) → find name (constants xs) ≡ value_of (known_as name xs)
        → (if b then Some v else find name (constants xs)) ≡ (if b then Some v else value_of (known_as name xs))
    valued v true h = refl
    valued v false h = h

    go : (o : Option Value) → x.value ≡ o → (b : Bool) → bytes_eq x.name name ≡ b → find name (constants xs) ≡ value_of (known_as name xs)
        → find name (add_constant x o (constants xs)) ≡ value_of (if bytes_eq x.name name then Some x else known_as name xs)
    go None e b f h =
        find-without name x.name (constants xs) ∙ unnamed (bytes_eq x.name name) refl h
        ∙ ap (λ o. if bytes_eq x.name name then o else value_of (known_as name xs)) (sym e) ∙ sym (after (bytes_eq x.name name))
    go (Some v) e b f h =
        valued v (bytes_eq x.name name) h
        ∙ ap (λ o. if bytes_eq x.name name then o else value_of (known_as name xs)) (sym e) ∙ sym (after (bytes_eq x.name name))

-- ---- environments of names

-- what is found under a name: a value that may stand there, or nothing if L allows it
abbrev pub Found : Type 0 → Known → Option Value → Type 0
Found L x None = L
Found L x (Some v) = StandsFor x v

abbrev pub Stand : Type 0 → List Known → List Var → Type 0
Stand L names vars = (name : List ℕ) (x : Known) → known_as name names ≡ Some x → Found L x (find name vars)

-- An environment of these names, with functions, of which those that P speaks of give values of their kinds.
pub record Fits (L : Type 0) (P : List ℕ → Type 0) (calls : Calls) (names : Names) (env : Env) : Type 0 where
  pub globals : Stand L names.globals env.globals
  pub all : Stand L (names.locals ++ names.globals) (env.locals ++ env.globals)
  pub give : (name : List ℕ) (f : Fun) (args : Values) (left : ℕ) → P name → fun_named name names.funs ≡ Some f → AreArguments f.formals args
      → Comes L (HasKind (kind_of_scalar f.result)) left (calls env.globals name args left)
  pub agree : (name : List ℕ) (args : Values) (left : ℕ) → Agree (Unit {0}) (calls_of names.funs (constants names.globals) name args left) (calls env.globals name args left)

some-is : (x y : Known) → Some x ≡ Some y → x ≡ y
some-is x y h = cc

found-if : (L : Type 0) (b : Bool) (x : Known) (v : Value) (o : Option Known) (p : Option Value) → StandsFor x v → ((y : Known) → o ≡ Some y → Found L y p)
    → (y : Known) → (if b then Some x else o) ≡ Some y → Found L y (if b then Some v else p)
found-if L true x v o p h i y e = subst (λ k. StandsFor k v) (some-is x y e) h
found-if L false x v o p h i y e = i y e

-- one more name in front of both
pub stand-more : (L : Type 0) (x : Known) (z : Var) (xs : List Known) (zs : List Var) → z.name ≡ x.name → StandsFor x z.value → Stand L xs zs → Stand L (x ∷ xs) (z ∷ zs)
stand-more L x z xs zs same h i name y e =
    subst (λ t. Found L y (if bytes_eq t name then Some z.value else find name zs)) (sym same)
    (found-if L (bytes_eq x.name name) x z.value (known_as name xs) (find name zs) h (i name) y e)

pub fits-local : (L : Type 0) (P : List ℕ → Type 0) (calls : Calls) (names : Names) (env : Env) (x : Known) (z : Var) → z.name ≡ x.name → StandsFor x z.value
    → Fits L P calls names env → Fits L P calls (with_known x names) (with_local z env)
fits-local L P calls names env x z same h fit = record {
  globals = fit.globals;
  all = stand-more L x z (names.locals ++ names.globals) (env.locals ++ env.globals) same h fit.all;
  give = fit.give;
  agree = fit.agree;
}

-- the constants among names agree with an environment of them
constant-match : (L : Type 0) (o : Option Known) (p : Option Value) → ((x : Known) → o ≡ Some x → Found L x p) → Match (Unit {0}) (value_of o) p
constant-match L None None h = tt
constant-match L None (Some v) h = tt
constant-match L (Some x) p h = go x.value refl p (h x refl)
  where
    go : (w : Option Value) → x.value ≡ w → (p : Option Value) → Found L x p → Match (Unit {0}) w p
    go None e None f = tt
    go None e (Some v) f = tt
    go (Some w) e None f = tt
    go (Some w) e (Some v) f = sym (f.constant w e)

pub stand-match : (L : Type 0) (xs : List Known) (zs : List Var) → Stand L xs zs → (name : List ℕ) → Match (Unit {0}) (find name (constants xs)) (find name zs)
stand-match L xs zs h name =
    subst (λ o. Match (Unit {0}) o (find name zs)) (sym (find-constant name xs)) (constant-match L (known_as name xs) (find name zs) (h name))

abbrev pub constant_env : Names → Env
constant_env names = record { globals = constants (names.locals ++ names.globals); locals = [] }

pub alike-constants : (L : Type 0) (P : List ℕ → Type 0) (calls : Calls) (names : Names) (env : Env) → Fits L P calls names env
    → Alike (Unit {0}) any_name (constant_calls names) calls (constant_env names) env
alike-constants L P calls names env fit = record {
  names = stand-match L (names.locals ++ names.globals) (env.locals ++ env.globals) fit.all;
  calls = λ name p. fit.agree name;
}
