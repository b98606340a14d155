-- What expressions give over the constants of a network.
use Rattle.std.proofs.Common.{◌≡◌, ℕ, Bool, true, false, List, [], ◌∷◌, map, refl, sym, ap, subst, ◌∙◌, Err, Ok}
use Rattle.std.specs.Prelude.{Option, None, Some, if◌then◌else◌}
use Rattle.std.specs.Str.{bytes_eq}
use Rattle.std.specs.declared.result.Result.{Result}
use Rattle.rvc_base.specs.Turns.{max_turns}
use Rattle.rvc_base.specs.Rules.{not_constant}
use Rattle.cal_ast.specs.Places.{begins}
use Rattle.cal_ast.specs.Tree.{Tree}
use Rattle.cal_model.specs.Value.{Kind, Value, HasKind}
use Rattle.cal_model.specs.View.{value_view}
use Rattle.cal_model.specs.Outcome.{Out, Gives, Traps, Lacks, Clashes}
use Rattle.cal_model.specs.Env.{find}
use Rattle.cal_model.specs.Expression.{eval}
use Rattle.cal_model.specs.Call.{calls_of}
use Rattle.cal_model.specs.Keeping.{GivesOnly, StandFor, StandsFor, IsOfItsKinds}
use Rattle.cal_model.specs.Kinding.{Judged, Fine, Broken, and_so, Known, Names, known_as, kind, constant, constants}
use Rattle.cal_model.specs.Laws.{ConstantIsValue}
use Rattle.cal_model.specs.Sound.{Each}
use Rattle.cal_model.specs.declared.value.Value.{Value as DeclaredValue}
use Rattle.cal_model.proofs.KindNames.{find-constant}
use Rattle.cal_model.proofs.KindLaws.{kind-kept}
use Rattle.const_env.specs.Constants.{Constant, constants_among, other_constants, var_of}
use Rattle.const_expr.specs.Evaluable.{HasNoValue, value_of}
use Rattle.const_env.specs.Held.{Kept, globals_of, held, names_in}
use Rattle.const_env.specs.Judging.{Breaks, Judges}
use Rattle.const_env.specs.declared.fault.KindFault.{KindFault}
use Rattle.const_env.specs.declared.fault.KindFault.TheVariants as fault
use Rattle.cal_check.specs.Constants.{has_kind}
use Rattle.check_values.proofs.Kept.{test_passes}
use Rattle.fnl_bind.specs.Values.{value_of_kind, value_judged}
use Rattle.fnl_values.specs.Judging.{outcome_judged}
use Rattle.fnl_values.specs.Steady.{IsConstant, IsSteady}
use Rattle.cal_model.specs.Kinding as kinding

-- ---- constants among names

others_are : (name : List ℕ) (cs : List Constant) → map var_of (other_constants name cs) ≡ kinding.without name (map var_of cs)
others_are name [] = refl
others_are name (c ∷ cs) = go (bytes_eq c.name name) (others_are name cs)
  where
    go : (b : Bool) → map var_of (other_constants name cs) ≡ kinding.without name (map var_of cs)
        → map var_of (if b then other_constants name cs else c ∷ other_constants name cs) ≡ (if b then kinding.without name (map var_of cs) else var_of c ∷ kinding.without name (map var_of cs))
    go true rest = rest
    go false rest = ap (λ xs. var_of c ∷ xs) rest

constants_are : (ks : List Known) → map var_of (constants_among ks) ≡ constants ks
constants_are [] = refl
constants_are (k ∷ ks) = go k.value (constants_are ks)
  where
    go : (v : Option Value) → map var_of (constants_among ks) ≡ constants ks
        → map var_of (elim v [ None ↦ other_constants k.name (constants_among ks) | Some w ↦ record { name = k.name; value = w } ∷ constants_among ks ])
        ≡ elim v [ None ↦ kinding.without k.name (constants ks) | Some w ↦ record { name = k.name; value = w; kept = None } ∷ constants ks ]
    go None rest = others_are k.name (constants_among ks) ∙ ap (kinding.without k.name) rest
    go (Some w) rest = ap (λ xs. record { name = k.name; value = w; kept = None } ∷ xs) rest

-- what is evaluated is what the expression gives over the names
pub constant_is : ConstantIsValue → (e : Tree) (env : Kept) → constant e (names_in env) ≡ value_of e (held env)
constant_is law e env =
    law (globals_of env) (held env).funs e
    ∙ ap (λ gs. eval e (calls_of (held env).funs) (record { globals = gs; locals = [] }) max_turns) (sym (constants_are (globals_of env)))

-- ---- values of a kind

same_value : {v w : Value} → Some v ≡ Some w → v ≡ w
same_value e = cc

known_here : (b : Bool) (x y : Known) (ys : List Known) (name : List ℕ) → IsConstant y → (known_as name ys ≡ Some x → IsConstant x) → (if b then Some y else known_as name ys) ≡ Some x → IsConstant x
known_here true x y ys name h rest e = let same : y ≡ x = cc in subst IsConstant same h
known_here false x y ys name h rest e = rest e

known_is : (name : List ℕ) (xs : List Known) (x : Known) → Each IsConstant xs → known_as name xs ≡ Some x → IsConstant x
known_is name [] x h e = absurd (cc)
known_is name (y ∷ ys) x h e = known_here (bytes_eq y.name name) x y ys name h.0 (known_is name ys x h.1) e

stands : (x : Known) (v : Value) → IsConstant x → x.value ≡ Some v → StandsFor x v
stands x v c e =
    let same : c.value ≡ v = same_value (sym c.is ∙ e) in
    record { kind = subst (HasKind x.kind) same c.has_kind; constant = λ w f. same_value (sym e ∙ f) }

stand : (xs : List Known) → Each IsConstant xs → StandFor xs (constants xs)
stand xs h name x v e f =
    stands x v (known_is name xs x h e) (sym (find-constant name xs ∙ ap known_value e) ∙ f)
  where
    known_value : Option Known → Option Value
    known_value None = None
    known_value (Some y) = y.value

-- over constants, an expression of a kind gives a value of that kind, or traps, or lacks a name
pub keeps : ConstantIsValue → (env : Kept) (e : Tree) (k : Kind) → IsSteady env → kind e (names_in env) ≡ Fine k → GivesOnly (HasKind k) max_turns (constant e (names_in env))
keeps law env e k steady h =
    let none : (held env).funs ≡ [] = steady.no_funs in
    let funs : Each (IsOfItsKinds (names_in env)) (held env).funs = subst (λ fs. Each (IsOfItsKinds (names_in env)) fs) (sym none) tt in
    let all : StandFor (globals_of env) (constants (globals_of env)) = stand (globals_of env) steady.values in
    subst (λ o. GivesOnly (HasKind k) max_turns o) (sym (law (globals_of env) (held env).funs e))
    (kind-kept (names_in env) (record { globals = constants (globals_of env); locals = [] }) e k max_turns funs (record { globals = all; all = all }) h)

-- ---- answers

pub gives : (o : Out Value) (at : ℕ) (v : Value) → (left : ℕ) × (o ≡ Gives v left) → outcome_judged o at ≡ Fine v
gives o at v h = ap (λ p. outcome_judged p at) h.1

pub has_none : (o : Out Value) (at : ℕ) → HasNoValue o → outcome_judged o at ≡ Broken not_constant at
has_none (Gives v left) at h = absurd h
has_none (Traps c) at h = absurd h
has_none Lacks at h = refl
has_none Clashes at h = refl

-- an outcome that keeps to a kind, as the value of a parameter
abbrev pub some_of : Judged Value → Judged (Option Value)
some_of j = and_so j (λ v. Fine (Some v))

kept_as : (k : Kind) (o : Out Value) (at : ℕ) → GivesOnly (HasKind k) max_turns o → value_of_kind k o at ≡ some_of (outcome_judged o at)
kept_as k (Gives v left) at h = ap (λ b. Fine (if b then Some v else None)) (test_passes k v h.0)
kept_as k (Traps c) at h = refl
kept_as k Lacks at h = refl
kept_as k Clashes at h = absurd h

pub value_as : ConstantIsValue → (env : Kept) (e : Tree) (k : Kind) → IsSteady env → kind e (names_in env) ≡ Fine k
    → value_judged e (names_in env) ≡ some_of (outcome_judged (constant e (names_in env)) (begins e))
value_as law env e k steady h =
    ap (λ j. and_so j (λ l. value_of_kind l (constant e (names_in env)) (begins e))) h
    ∙ kept_as k (constant e (names_in env)) (begins e) (keeps law env e k steady h)

pub value_breaks : (f : KindFault) (e : Tree) (names : Names) → Breaks f (kind e names) → Breaks f (value_judged e names)
value_breaks (fault.Broken rule at) e names h = ap (λ j. and_so j (λ l. value_of_kind l (constant e names) (begins e))) h
value_breaks fault.Memory e names h = tt

pub judges_some : (r : Result DeclaredValue KindFault) (j : Judged Value) → Judges value_view r j → Judges (λ v. Some (value_view v)) r (some_of j)
judges_some (Ok v) j h = ap some_of h
judges_some (Err (fault.Broken rule at)) j h = ap some_of h
judges_some (Err fault.Memory) j h = tt
