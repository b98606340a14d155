-- The states that an actor can be in, and the tokens that its ports take (CAL Language Report, the state of an actor
-- and its ports). Each is said in words, and as a test or a change that a behaviour can make.
-- Trusted: part of what a promise means.
use Rattle.std.specs.Prelude.{◌≡◌, ℕ, Bool, true, false, ◌&&◌, ◌||◌, List, [], ◌∷◌, map, nat_lt, ◌==◌, ℤ, pos, ◌+ℤ◌, ◌-◌, ◌^◌, int_lt, int_le, if◌then◌else◌, Option, None, Some}
use Rattle.std.specs.Str.{bytes_eq}
use Rattle.rvc_base.specs.declared.scalar.Scalar.{Scalar}
use Rattle.rvc_base.specs.declared.scalar.Scalar.TheVariants as scalar
use Rattle.rvc_base.specs.Storing.{conv, InRange}
use Rattle.rvc_base.specs.Arithmetic.{is_equal}
use Rattle.cal_model.specs.Value.{Shape, Single, Many, Value, Num, Truth, Items, Values, Nil, Cons, count, IsOf}
use Rattle.cal_model.specs.Env.{Var}
use Rattle.cal_model.specs.Expression.{is_same}
use Rattle.cal_model.specs.Actor.{Port, Held, Actor}
use Rattle.cal_model.specs.Eligible.{states_of, fresh, has_initialize, IsStateOf}
use Rattle.cal_model.specs.Selection.{State}
use Rattle.cal_model.specs.Sound.{Each}

-- ---- in words

-- the type in which a variable keeps what it is assigned; none for a constant
abbrev pub kept_in : Held → Option Shape
kept_in h = if h.changes then Some h.shape else None

-- a variable as the actor declares it, with a value of its type; a constant has its value
pub record IsVarOf (h : Held) (x : Var) : Type 0 where
  pub name : x.name ≡ h.name
  pub kept : x.kept ≡ kept_in h
  pub value : IsOf h.shape x.value
  pub constant : h.changes ≡ false → x.value ≡ h.value

-- the variables that are declared, in their order, and no others
abbrev pub AreVarsOf : List Held → List Var → Type 0
AreVarsOf [] [] = Unit {0}
AreVarsOf (h ∷ hs) (x ∷ xs) = IsVarOf h x × AreVarsOf hs xs
AreVarsOf hs xs = ⊥

-- a state of the schedule or the fresh one, with the actor's variables
pub record IsActorState (actor : Actor) (x : State) : Type 0 where
  pub at : IsStateOf actor x.at
  pub vars : AreVarsOf actor.vars x.vars

-- a list of tokens for each port, each in the range of the port's type
abbrev pub AreTokensOn : List Port → List (List ℤ) → Type 0
AreTokensOn [] [] = Unit {0}
AreTokensOn (p ∷ ps) (us ∷ u) = Each (InRange p.kind) us × AreTokensOn ps u
AreTokensOn ps u = ⊥

abbrev pub AreTokensOf : Actor → List (List ℤ) → Type 0
AreTokensOf actor u = AreTokensOn actor.ins u

-- ---- the same as tests: types

abbrev pub is_same_scalar : Scalar → Scalar → Bool
is_same_scalar scalar.Bool scalar.Bool = true
is_same_scalar (scalar.Int n) (scalar.Int m) = n == m
is_same_scalar (scalar.Uint n) (scalar.Uint m) = n == m
is_same_scalar s t = false

abbrev pub is_same_shape : Shape → Shape → Bool
is_same_shape (Single s) (Single t) = is_same_scalar s t
is_same_shape (Many n s) (Many m t) = n == m && is_same_shape s t
is_same_shape s t = false

abbrev pub is_same_kept : Option Shape → Option Shape → Bool
is_same_kept None None = true
is_same_kept (Some s) (Some t) = is_same_shape s t
is_same_kept k l = false

-- ---- values

abbrev mutual
  pub is_same_value : Value → Value → Bool
  is_same_value (Num a) (Num b) = is_equal a b
  is_same_value (Truth a) (Truth b) = is_same a b
  is_same_value (Items vs) (Items ws) = are_same_values vs ws
  is_same_value v w = false

  pub are_same_values : Values → Values → Bool
  are_same_values Nil Nil = true
  are_same_values (Cons v vs) (Cons w ws) = is_same_value v w && are_same_values vs ws
  are_same_values vs ws = false

abbrev pub is_single_of : Scalar → ℤ → Bool
is_single_of scalar.Bool z = false
is_single_of (scalar.Int n) z =
    int_le (pos 0) (z +ℤ pos (2 ^ (n - 1))) && int_lt z (pos (2 ^ (n - 1)))
is_single_of (scalar.Uint n) z = int_le (pos 0) z && int_lt z (pos (2 ^ n))

abbrev pub is_truth_type : Scalar → Bool
is_truth_type scalar.Bool = true
is_truth_type (scalar.Int n) = false
is_truth_type (scalar.Uint n) = false

-- a value is in a type
abbrev mutual
  pub is_of : Shape → Value → Bool
  is_of (Single t) (Num z) = is_single_of t z
  is_of (Single t) (Truth b) = is_truth_type t
  is_of (Many n items) (Items vs) = count vs == n && are_of items vs
  is_of t v = false

  pub are_of : Shape → Values → Bool
  are_of items Nil = true
  are_of items (Cons v vs) = is_of items v && are_of items vs

-- ---- variables and states

abbrev pub is_var_of : Held → Var → Bool
is_var_of h x = bytes_eq x.name h.name && is_same_kept x.kept
    (kept_in h) && is_of h.shape x.value && (h.changes || is_same_value x.value h.value)

abbrev pub are_vars_of : List Held → List Var → Bool
are_vars_of [] [] = true
are_vars_of (h ∷ hs) (x ∷ xs) = is_var_of h x && are_vars_of hs xs
are_vars_of hs xs = false

abbrev pub is_state_of : Actor → ℕ → Bool
is_state_of actor s =
    nat_lt s (states_of actor) || (has_initialize actor.actions && s == fresh actor)

-- the same as `IsActorState`, as a test
abbrev pub is_actor_state : Actor → State → Bool
is_actor_state actor x = is_state_of actor x.at && are_vars_of actor.vars x.vars

-- ---- tokens

abbrev pub kept_on : List Port → List (List ℤ) → List (List ℤ)
kept_on [] u = []
kept_on (p ∷ ps) [] = [] ∷ kept_on ps []
kept_on (p ∷ ps) (us ∷ u) = map (conv p.kind) us ∷ kept_on ps u

-- on each input port the tokens before it, as they are stored in its type: one of the type stays as it is
abbrev pub kept_tokens : Actor → List (List ℤ) → List (List ℤ)
kept_tokens actor u = kept_on actor.ins u
