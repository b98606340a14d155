-- Selection: which action is to fire (CAL Language Report, guards, priorities and the choice of an action).
-- Trusted: part of what a promise means.
use Rattle.std.specs.Prelude.{◌≡◌, ℕ, zero, suc, ◌+◌, ◌<◌, Bool, true, false, not, ◌&&◌, ◌||◌, ◌↔◌, IsTrue, List, [], ◌∷◌, ◌++◌, map, length, nat_le, ℤ, pos, if◌then◌else◌, Option, None, Some, slice_get, slice_index_or}
use Rattle.std.specs.List.{range_with_len}
use Rattle.rvc_base.specs.declared.scalar.Scalar.{Scalar}
use Rattle.rvc_base.specs.declared.scalar.Scalar.TheVariants as scalar
use Rattle.rvc_base.specs.declared.trap.Trap.{Trap}
use Rattle.rvc_base.specs.Behaviour.{Choice, Waits, Picks, Faults}
use Rattle.rvc_base.specs.Chain.{IsAbove}
use Rattle.rvc_base.specs.Line.{IsLine}
use Rattle.rvc_base.specs.Turns.{max_turns}
use Rattle.cal_ast.specs.Tree.{Tree}
use Rattle.cal_model.specs.Value.{Value, Truth, Items, Values, Nil, Cons, of_number}
use Rattle.cal_model.specs.Outcome.{Out, Gives, Traps}
use Rattle.cal_model.specs.Env.{Var, Env, variable}
use Rattle.cal_model.specs.Expression.{Calls, eval}
use Rattle.cal_model.specs.Actor.{Port, Held, Pattern, Action, Actor}
use Rattle.cal_model.specs.Call.{calls_of}
use Rattle.cal_model.specs.Rates.{need}
use Rattle.cal_model.specs.Eligible.{start_state, eligible}

-- the state of an actor: that of its schedule, and its variables with their values
pub record State : Type 0 where
  pub at : ℕ
  pub vars : List Var

abbrev pub first_vars : List Held → List Var
first_vars vars = map (λ x. variable x.name x.shape x.changes x.value) vars

abbrev pub start_of : Actor → State
start_of actor = record { at = start_state actor; vars = first_vars actor.vars }

-- ---- priorities

-- a chain of at least one declared pair leads from a to b
abbrev pub Above : Actor → ℕ → ℕ → Type 0
Above actor a b = IsAbove actor.pairs a b

-- which action is above which, of those that the actor has, and the line of the actions
pub record Priorities (actor : Actor) : Type 0 where
  pub above : ℕ → ℕ → Bool
  pub line : List ℕ
  pub is_above : (a b : ℕ) → a < length actor.actions → b < length actor.actions
      → IsTrue (above a b) ↔ Above actor a b
  pub is_line : IsLine (length actor.actions) (Above actor) line

-- ---- tokens

-- the tokens of a port
abbrev pub tokens_on : List (List ℤ) → ℕ → List ℤ
tokens_on u port = slice_index_or u port []

-- the type of a port
abbrev pub kind_of_port : List Port → ℕ → Scalar
kind_of_port ports p = elim (slice_get ports p) [ None ↦ scalar.Bool | Some port ↦ port.kind ]

abbrev pub has_its_tokens_on : Actor → List (List ℤ) → ℕ → List ℕ → Bool
has_its_tokens_on actor u a [] = true
has_its_tokens_on actor u a (p ∷ ports) =
    nat_le (need actor a p) (length (tokens_on u p)) && has_its_tokens_on actor u a ports

-- on each port there are as many tokens as the action takes
abbrev pub has_its_tokens : Actor → List (List ℤ) → ℕ → Bool
has_its_tokens actor u a = has_its_tokens_on actor u a (range_with_len 0 (length actor.ins))

-- the token at a place, as a value of its port's type
abbrev pub token : Scalar → List ℤ → ℕ → Value
token t us k = of_number t (slice_index_or us k (pos 0))

-- n tokens: that at place k, and then each that stands so many places further
abbrev pub tokens_from : Scalar → List ℤ → ℕ → ℕ → ℕ → Values
tokens_from t us zero k far = Nil
tokens_from t us (suc n) k far = Cons (token t us k) (tokens_from t us n (k + far) far)

-- what the name at place k of a pattern of so many names stands for
abbrev pub pattern_value : Scalar → List ℤ → Option ℕ → ℕ → ℕ → Value
pattern_value t us None names k = token t us k
pattern_value t us (Some n) names k = Items (tokens_from t us n k names)

-- the name at place k of a pattern, which is a constant
abbrev pub pattern_var : Scalar → List ℤ → Pattern → ℕ → List ℕ → Var
pattern_var t us q k name =
    record { name = name; value = pattern_value t us q.repeat (length q.names) k; kept = None }

-- the names of a pattern from place k on, the later ones in front
abbrev pub pattern_vars_from : Scalar → List ℤ → Pattern → ℕ → List (List ℕ) → List Var
pattern_vars_from t us q k [] = []
pattern_vars_from t us q k (name ∷ names) = pattern_vars_from t us q (suc k) names
    ++ pattern_var t us q k name ∷ []

-- the pattern variables of an action, those of later patterns in front
abbrev pub pattern_vars : Actor → List (List ℤ) → List Pattern → List Var
pattern_vars actor u [] = []
pattern_vars actor u (q ∷ qs) =
    pattern_vars actor u qs ++ pattern_vars_from (kind_of_port actor.ins q.port)
    (tokens_on u q.port) q 0 q.names

-- what an action sees: the actor's variables and its pattern variables
abbrev pub seen_by : Actor → State → List (List ℤ) → Action → Env
seen_by actor x u act = record { globals = x.vars; locals = pattern_vars actor u act.patterns }

-- ---- guards

-- what guards say: all are true, the first that isn't true is false, or that one traps
pub data Guards : Type 0 where
  AreTrue : Guards
  AreFalse : Guards
  AreTrapping : Trap → Guards

abbrev pub guard_then : Out Value → Guards → Guards
guard_then (Gives (Truth true) left) others = others
guard_then (Traps c) others = AreTrapping c
guard_then other others = AreFalse

-- in text order, each with all turns
abbrev pub guards_say : List Tree → Calls → Env → Guards
guards_say [] calls env = AreTrue
guards_say (g ∷ gs) calls env = guard_then (eval g calls env max_turns) (guards_say gs calls env)

-- What the guards of an action say. If it isn't eligible or lacks tokens, they are false.
abbrev pub readiness : Actor → State → List (List ℤ) → ℕ → Guards
readiness actor x u a = elim (slice_get actor.actions a) [
  | None ↦ AreFalse
  | Some act ↦ if eligible actor x.at a && has_its_tokens actor u a
      then guards_say act.guards (calls_of actor.funs) (seen_by actor x u act) else AreFalse
]

-- ---- enabled and exposed actions

-- eligible, with its tokens, its guards true
abbrev pub IsEnabled : Actor → State → List (List ℤ) → ℕ → Type 0
IsEnabled actor x u a = readiness actor x u a ≡ AreTrue

-- eligible, with its tokens, and no action above it is enabled
pub record IsExposed (actor : Actor) (x : State) (u : List (List ℤ)) (a : ℕ) : Type 0 where
  pub is_eligible : eligible actor x.at a ≡ true
  pub has_tokens : has_its_tokens actor u a ≡ true
  pub none_above : (b : ℕ) → Above actor b a → ¬ (IsEnabled actor x u b)

abbrev pub are_true : Guards → Bool
are_true AreTrue = true
are_true AreFalse = false
are_true (AreTrapping c) = false

-- one of these is above a and enabled
abbrev pub outranked : (actor : Actor) → (ℕ → ℕ → Bool) → State → List (List ℤ) → ℕ → List ℕ → Bool
outranked actor above x u a [] = false
outranked actor above x u a (b ∷ bs) =
    (above b a && are_true (readiness actor x u b)) || outranked actor above x u a bs

-- the same as `IsExposed`, as a test
abbrev pub is_exposed : (actor : Actor) → Priorities actor → State → List (List ℤ) → ℕ → Bool
is_exposed actor p x u a =
    eligible actor x.at a && has_its_tokens actor u a && not (outranked actor p.above x u a p.line)

-- ---- the choice

abbrev pub choice_among : Actor → State → List (List ℤ) → List ℕ → Choice
choice_among actor x u [] = Waits
choice_among actor x u (a ∷ line) = elim (readiness actor x u a)
    [ AreTrue ↦ Picks a | AreFalse ↦ choice_among actor x u line | AreTrapping c ↦ Faults a c ]

-- The first action of the line that is eligible, has its tokens, and whose guards aren't false: it is to fire, or
-- its guards trap.
abbrev pub choice : (actor : Actor) → Priorities actor → State → List (List ℤ) → Choice
choice actor p x u = choice_among actor x u p.line
