-- The tests of an actor's states say what the words do, and ports keep tokens in their types.
use Rattle.std.proofs.Common.{◌≡◌, ℕ, zero, suc, ◌<◌, ◌-◌, ◌^◌, ◌↔◌, inl, inr, ℤ, pos, ◌+ℤ◌, Bool, true, false, ◌&&◌, ◌||◌, List, [], ◌∷◌, ◌++◌, length, map, refl, sym, ap, ◌∙◌, arith, Option, None, Some, Decides}
use Rattle.std.specs.Prelude.{nat_lt, ◌==◌, int_lt, int_le, ◌<ℤ◌, ◌≤ℤ◌, if◌then◌else◌}
use Rattle.std.specs.Str.{bytes_eq}
use Rattle.std.proofs.lemmas.Bool.{true≢false}
use Rattle.std.proofs.lemmas.Bool.Decides.{Decides-and, Decides-or, Decides-ltb, Decides-eqb, Decides-int_eq, Decides-like}
use Rattle.std.proofs.lemmas.Int.{ints}
use Rattle.std.proofs.lemmas.Slice.Eq.{bytes_eq-Decides}
use Rattle.rvc_base.specs.declared.scalar.Scalar.{Scalar}
use Rattle.rvc_base.specs.declared.scalar.Scalar.TheVariants as scalar
use Rattle.rvc_base.specs.Storing.{conv, IsSize, InRange}
use Rattle.rvc_base.specs.Behaviour.{Waits}
use Rattle.cal_model.specs.Value.{Shape, Single, Many, Value, Num, Truth, Items, Values, Nil, Cons, count, IsOf, AreOf, IsType, IsSingleOf, IsTruthType}
use Rattle.cal_model.specs.Env.{Var}
use Rattle.cal_model.specs.Expression.{is_same}
use Rattle.cal_model.specs.Actor.{Port, Held, Actor}
use Rattle.cal_model.specs.Eligible.{states_of, fresh, has_initialize, IsStateOf}
use Rattle.cal_model.specs.Selection.{State, Priorities, start_of, first_vars, tokens_on, choice}
use Rattle.cal_model.specs.ActorState.{IsVarOf, AreVarsOf, IsActorState, AreTokensOn, AreTokensOf, kept_in, is_same_scalar, is_same_shape, is_same_kept, is_same_value, are_same_values, is_single_of, is_truth_type, is_of, are_of, is_var_of, are_vars_of, is_state_of, is_actor_state, kept_on, kept_tokens}
use Rattle.cal_model.specs.Sound.{Each, IsSound}
use Rattle.cal_model.specs.Firing.{effect, behaviour}
use Rattle.cal_model.proofs.Stored.{conv-in-range, conv-stays}

never : {P : Type 0} → ¬ P → Decides false P
never h = (λ e. absurd (true≢false (sym e)), λ p. absurd (h p))

always : {P : Type 0} → P → Decides true P
always p = (λ e. p, λ q. refl)

-- ---- types

same-scalar : (s t : Scalar) → Decides (is_same_scalar s t) (s ≡ t)
same-scalar scalar.Bool scalar.Bool = always refl
same-scalar (scalar.Int n) (scalar.Int m) = Decides-like (n == m) (λ e. ap scalar.Int e) (λ e. cc) (Decides-eqb n m)
same-scalar (scalar.Uint n) (scalar.Uint m) = Decides-like (n == m) (λ e. ap scalar.Uint e) (λ e. cc) (Decides-eqb n m)
same-scalar scalar.Bool (scalar.Int m) = never (λ e. grind arith)
same-scalar scalar.Bool (scalar.Uint m) = never (λ e. grind arith)
same-scalar (scalar.Int n) scalar.Bool = never (λ e. grind arith)
same-scalar (scalar.Int n) (scalar.Uint m) = never (λ e. grind arith)
same-scalar (scalar.Uint n) scalar.Bool = never (λ e. grind arith)
same-scalar (scalar.Uint n) (scalar.Int m) = never (λ e. grind arith)

many-is : (n m : ℕ) (s t : Shape) → (n ≡ m) × (s ≡ t) → Many n s ≡ Many m t
many-is n m s t h = ap (λ k. Many k s) h.0 ∙ ap (Many m) h.1

is-many : (n m : ℕ) (s t : Shape) → Many n s ≡ Many m t → (n ≡ m) × (s ≡ t)
is-many n m s t e = (cc, cc)

same-shape : (s t : Shape) → Decides (is_same_shape s t) (s ≡ t)
same-shape (Single s) (Single t) = Decides-like (is_same_scalar s t) (λ e. ap Single e) (λ e. cc) (same-scalar s t)
same-shape (Many n s) (Many m t) =
    Decides-like (n == m && is_same_shape s t) (many-is n m s t) (is-many n m s t) (Decides-and (n == m) (is_same_shape s t) (Decides-eqb n m) (same-shape s t))
same-shape (Single s) (Many m t) = never (λ e. grind arith)
same-shape (Many n s) (Single t) = never (λ e. grind arith)

same-kept : (k l : Option Shape) → Decides (is_same_kept k l) (k ≡ l)
same-kept None None = always refl
same-kept (Some s) (Some t) = Decides-like (is_same_shape s t) (λ e. ap Some e) (λ e. cc) (same-shape s t)
same-kept None (Some t) = never (λ e. grind arith)
same-kept (Some s) None = never (λ e. grind arith)

-- ---- values

same-truth : (a b : Bool) → Decides (is_same a b) (a ≡ b)
same-truth true true = always refl
same-truth false false = always refl
same-truth true false = never (λ e. grind arith)
same-truth false true = never (λ e. grind arith)

cons-is : (v w : Value) (vs ws : Values) → (v ≡ w) × (vs ≡ ws) → Cons v vs ≡ Cons w ws
cons-is v w vs ws h = ap (λ x. Cons x vs) h.0 ∙ ap (Cons w) h.1

is-cons : (v w : Value) (vs ws : Values) → Cons v vs ≡ Cons w ws → (v ≡ w) × (vs ≡ ws)
is-cons v w vs ws e = (cc, cc)

mutual
  same-value : (v w : Value) → Decides (is_same_value v w) (v ≡ w)
  same-value (Num a) (Num b) = Decides-like (is_same_value (Num a) (Num b)) (λ e. ap Num e) (λ e. cc) (Decides-int_eq a b)
  same-value (Truth a) (Truth b) = Decides-like (is_same a b) (λ e. ap Truth e) (λ e. cc) (same-truth a b)
  same-value (Items vs) (Items ws) = Decides-like (are_same_values vs ws) (λ e. ap Items e) (λ e. cc) (same-values vs ws)
  same-value (Num a) (Truth b) = never (λ e. grind arith)
  same-value (Num a) (Items ws) = never (λ e. grind arith)
  same-value (Truth a) (Num b) = never (λ e. grind arith)
  same-value (Truth a) (Items ws) = never (λ e. grind arith)
  same-value (Items vs) (Num b) = never (λ e. grind arith)
  same-value (Items vs) (Truth b) = never (λ e. grind arith)

  same-values : (vs ws : Values) → Decides (are_same_values vs ws) (vs ≡ ws)
  same-values Nil Nil = always refl
  same-values (Cons v vs) (Cons w ws) =
      Decides-like (is_same_value v w && are_same_values vs ws) (cons-is v w vs ws) (is-cons v w vs ws) (Decides-and (is_same_value v w) (are_same_values vs ws) (same-value v w) (same-values vs ws))
  same-values Nil (Cons w ws) = never (λ e. grind arith)
  same-values (Cons v vs) Nil = never (λ e. grind arith)

le-decides : (a b : ℤ) → Decides (int_le a b) (a ≤ℤ b)
le-decides a b = (λ e. grind (arith, ints), λ h. grind (arith, ints))

lt-decides : (a b : ℤ) → Decides (int_lt a b) (a <ℤ b)
lt-decides a b = (λ e. grind (arith, ints), λ h. grind (arith, ints))

single-decides : (t : Scalar) (z : ℤ) → Decides (is_single_of t z) (IsSingleOf t z)
single-decides scalar.Bool z = never (λ h. h)
single-decides (scalar.Int n) z = Decides-and _ _ (le-decides (pos 0) (z +ℤ pos (2 ^ (n - 1)))) (lt-decides z (pos (2 ^ (n - 1))))
single-decides (scalar.Uint n) z = Decides-and _ _ (le-decides (pos 0) z) (lt-decides z (pos (2 ^ n)))

truth-decides : (t : Scalar) → Decides (is_truth_type t) (IsTruthType t)
truth-decides scalar.Bool = always tt
truth-decides (scalar.Int n) = never (λ h. h)
truth-decides (scalar.Uint n) = never (λ h. h)

mutual
  of-decides : (v : Value) (t : Shape) → Decides (is_of t v) (IsOf t v)
  of-decides (Num z) (Single t) = single-decides t z
  of-decides (Truth b) (Single t) = truth-decides t
  of-decides (Items vs) (Many n items) = Decides-and (count vs == n) (are_of items vs) (Decides-eqb (count vs) n) (all-of-decides vs items)
  of-decides (Items vs) (Single t) = never (λ h. h)
  of-decides (Num z) (Many n items) = never (λ h. h)
  of-decides (Truth b) (Many n items) = never (λ h. h)

  all-of-decides : (vs : Values) (t : Shape) → Decides (are_of t vs) (AreOf t vs)
  all-of-decides Nil t = always tt
  all-of-decides (Cons v vs) t = Decides-and (is_of t v) (are_of t vs) (of-decides v t) (all-of-decides vs t)

-- ---- variables

constant-decides : (changes : Bool) (v w : Value) → Decides (changes || is_same_value v w) (changes ≡ false → v ≡ w)
constant-decides true v w = always (λ e. absurd (true≢false e))
constant-decides false v w = Decides-like (is_same_value v w) (λ e f. e) (λ h. h refl) (same-value v w)

abbrev VarParts : Held → Var → Type 0
VarParts h x = (((x.name ≡ h.name) × (x.kept ≡ kept_in h)) × IsOf h.shape x.value) × (h.changes ≡ false → x.value ≡ h.value)

var-decides : (h : Held) (x : Var) → Decides (is_var_of h x) (IsVarOf h x)
var-decides h x =
    Decides-like (is_var_of h x) together apart
    (Decides-and (bytes_eq x.name h.name && is_same_kept x.kept (kept_in h) && is_of h.shape x.value) (h.changes || is_same_value x.value h.value)
    (Decides-and (bytes_eq x.name h.name && is_same_kept x.kept (kept_in h)) (is_of h.shape x.value)
    (Decides-and (bytes_eq x.name h.name) (is_same_kept x.kept (kept_in h)) (bytes_eq-Decides x.name h.name) (same-kept x.kept (kept_in h)))
    (of-decides x.value h.shape))
    (constant-decides h.changes x.value h.value))
  where
    together : VarParts h x → IsVarOf h x
    together p = record { name = p.0.0.0; kept = p.0.0.1; value = p.0.1; constant = p.1 }

    apart : IsVarOf h x → VarParts h x
    apart i = (((i.name, i.kept), i.value), i.constant)

vars-decide : (hs : List Held) (xs : List Var) → Decides (are_vars_of hs xs) (AreVarsOf hs xs)
vars-decide [] [] = always tt
vars-decide (h ∷ hs) (x ∷ xs) = Decides-and (is_var_of h x) (are_vars_of hs xs) (var-decides h x) (vars-decide hs xs)
vars-decide [] (x ∷ xs) = never (λ h. h)
vars-decide (h ∷ hs) [] = never (λ h. h)

-- ---- states

is-true-decides : (b : Bool) → Decides b (b ≡ true)
is-true-decides b = (λ e. e, λ e. e)

state-decides : (actor : Actor) (s : ℕ) → Decides (is_state_of actor s) (IsStateOf actor s)
state-decides actor s =
    Decides-or (nat_lt s (states_of actor)) (has_initialize actor.actions && s == fresh actor) (Decides-ltb s (states_of actor))
    (Decides-and (has_initialize actor.actions) (s == fresh actor) (is-true-decides (has_initialize actor.actions)) (Decides-eqb s (fresh actor)))

pub states-decide : (actor : Actor) (x : State) → Decides (is_actor_state actor x) (IsActorState actor x)
states-decide actor x =
    Decides-like (is_actor_state actor x) (λ p. record { at = p.0; vars = p.1 }) (λ i. (i.at, i.vars))
    (Decides-and (is_state_of actor x.at) (are_vars_of actor.vars x.vars) (state-decides actor x.at) (vars-decide actor.vars x.vars))

pub states-are-tested : (actor : Actor) (x : State) → (is_actor_state actor x ≡ true) ↔ IsActorState actor x
states-are-tested actor x = states-decide actor x

-- ---- the first state

first-vars-are : (hs : List Held) → Each (λ h. IsType h.shape × IsOf h.shape h.value) hs → AreVarsOf hs (first_vars hs)
first-vars-are [] h = tt
first-vars-are (x ∷ xs) h = (record { name = refl; kept = refl; value = h.0.1; constant = λ e. refl }, first-vars-are xs h.1)

begins-somewhere : (actor : Actor) (b : Bool) → has_initialize actor.actions ≡ b → IsStateOf actor (if b then fresh actor else 0)
begins-somewhere actor true e = inr (e, refl)
begins-somewhere actor false e = inl (grind arith)

pub start-is-state : (actor : Actor) → IsSound actor → IsActorState actor (start_of actor)
start-is-state actor sound = record { at = begins-somewhere actor (has_initialize actor.actions) refl; vars = first-vars-are actor.vars sound.vars }

-- ---- tokens

abbrev pub Sized : List Port → Type 0
Sized ps = Each (λ p. IsSize p.kind) ps

in-range-each : (t : Scalar) (us : List ℤ) → IsSize t → Each (InRange t) (map (conv t) us)
in-range-each t [] h = tt
in-range-each t (z ∷ us) h = (conv-in-range t z h, in-range-each t us h)

kept-are-on : (ps : List Port) (u : List (List ℤ)) → Sized ps → AreTokensOn ps (kept_on ps u)
kept-are-on [] u h = tt
kept-are-on (p ∷ ps) [] h = (tt, kept-are-on ps [] h.1)
kept-are-on (p ∷ ps) (us ∷ u) h = (in-range-each p.kind us h.0, kept-are-on ps u h.1)

each-stays : (t : Scalar) (us : List ℤ) → IsSize t → Each (InRange t) us → map (conv t) us ≡ us
each-stays t [] h i = refl
each-stays t (z ∷ us) h i = ap (λ y. y ∷ map (conv t) us) (conv-stays t z h i.0) ∙ ap (λ ys. z ∷ ys) (each-stays t us h i.1)

stay-on : (ps : List Port) (u : List (List ℤ)) → Sized ps → AreTokensOn ps u → kept_on ps u ≡ u
stay-on [] [] h i = refl
stay-on [] (us ∷ u) h i = absurd i
stay-on (p ∷ ps) [] h i = absurd i
stay-on (p ∷ ps) (us ∷ u) h i = ap (λ y. y ∷ kept_on ps u) (each-stays p.kind us h.0 i.0) ∙ ap (λ ys. us ∷ ys) (stay-on ps u h.1 i.1)

-- the ports of one direction, of those of both
pub first-sized : (ps qs : List Port) → Sized (ps ++ qs) → Sized ps
first-sized [] qs h = tt
first-sized (p ∷ ps) qs h = (h.0, first-sized ps qs h.1)

pub kept-are-tokens : (actor : Actor) (u : List (List ℤ)) → IsSound actor → AreTokensOf actor (kept_tokens actor u)
kept-are-tokens actor u sound = kept-are-on actor.ins u (first-sized actor.ins actor.outs sound.port_sizes)

pub tokens-stay : (actor : Actor) (u : List (List ℤ)) → IsSound actor → AreTokensOf actor u → kept_tokens actor u ≡ u
tokens-stay actor u sound h = stay-on actor.ins u (first-sized actor.ins actor.outs sound.port_sizes) h

length-mapped : (t : Scalar) (us : List ℤ) → length (map (conv t) us) ≡ length us
length-mapped t [] = refl
length-mapped t (z ∷ us) = ap suc (length-mapped t us)

as-many-on : (ps : List Port) (u : List (List ℤ)) (k : ℕ) → k < length ps → length (tokens_on (kept_on ps u) k) ≡ length (tokens_on u k)
as-many-on [] u k h = absurd (omega arith)
as-many-on (p ∷ ps) [] zero h = refl
as-many-on (p ∷ ps) [] (suc k) h = as-many-on ps [] k (omega arith)
as-many-on (p ∷ ps) (us ∷ u) zero h = length-mapped p.kind us
as-many-on (p ∷ ps) (us ∷ u) (suc k) h = as-many-on ps u k (omega arith)

pub as-many-are-kept : (actor : Actor) (u : List (List ℤ)) (port : ℕ) → port < length actor.ins → length (tokens_on (kept_tokens actor u) port) ≡ length (tokens_on u port)
as-many-are-kept actor u port h = as-many-on actor.ins u port h

-- ---- the behaviour

where-true : {A : Type 0} (b : Bool) (x y : A) → b ≡ true → (if b then x else y) ≡ x
where-true true x y e = refl
where-true false x y e = absurd (true≢false (sym e))

where-not : {P A : Type 0} (b : Bool) (x y : A) → Decides b P → ¬ P → (if b then x else y) ≡ y
where-not true x y d n = absurd (n (d.0 refl))
where-not false x y d n = refl

pub behaviour-stores-tokens : (actor : Actor) (p : Priorities actor) (x : State) (u : List (List ℤ)) → IsActorState actor x
    → ((a : ℕ) → (behaviour actor p).effect x u a ≡ effect actor p x (kept_tokens actor u) a)
    × ((behaviour actor p).choice x u ≡ choice actor p x (kept_tokens actor u))
behaviour-stores-tokens actor p x u h =
    let is = (states-decide actor x).1 h in (
      λ a. where-true (is_actor_state actor x) (effect actor p x (kept_tokens actor u) a) None is,
      where-true (is_actor_state actor x) (choice actor p x (kept_tokens actor u)) Waits is,
    )

pub behaviour-is-effect : (actor : Actor) (p : Priorities actor) (x : State) (u : List (List ℤ)) → IsSound actor → IsActorState actor x → AreTokensOf actor u
    → ((a : ℕ) → (behaviour actor p).effect x u a ≡ effect actor p x u a) × ((behaviour actor p).choice x u ≡ choice actor p x u)
behaviour-is-effect actor p x u sound h i =
    let kept = behaviour-stores-tokens actor p x u h in
    let same = tokens-stay actor u sound i in
    (λ a. kept.0 a ∙ ap (λ v. effect actor p x v a) same, kept.1 ∙ ap (choice actor p x) same)

pub behaviour-is-idle : (actor : Actor) (p : Priorities actor) (x : State) (u : List (List ℤ)) → ¬ IsActorState actor x
    → ((a : ℕ) → (behaviour actor p).effect x u a ≡ None) × ((behaviour actor p).choice x u ≡ Waits)
behaviour-is-idle actor p x u h = (
  λ a. where-not (is_actor_state actor x) (effect actor p x (kept_tokens actor u) a) None (states-decide actor x) h,
  where-not (is_actor_state actor x) (choice actor p x (kept_tokens actor u)) Waits (states-decide actor x) h,
)
