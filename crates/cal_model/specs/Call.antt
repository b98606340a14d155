-- Calls of functions and procedures (ISO/IEC 23001-4, RVC-CAL: functions and procedures).
-- Trusted: part of what a promise means.
use Rattle.std.specs.Prelude.{ℕ, zero, suc, List, [], ◌∷◌, ◌++◌, length, if◌then◌else◌, Option, None, Some, option_map}
use Rattle.std.specs.Str.{bytes_eq}
use Rattle.cal_ast.specs.Tree.{Tree}
use Rattle.cal_model.specs.Value.{Shape, Single, Value, Values, Nil, Cons, stored, zero_of}
use Rattle.cal_model.specs.Outcome.{Out, Gives, Lacks, and_then, needed}
use Rattle.cal_model.specs.Env.{Var, Env, variable, with_local}
use Rattle.cal_model.specs.Expression.{Calls, eval}
use Rattle.cal_model.specs.Actor.{Local, Fun}

-- the first value of a variable of a type, which may be declared without one
abbrev pub first_value : Shape → Option Tree → Calls → Env → ℕ → Out Value
first_value t None calls env left = Gives (zero_of t) left
first_value t (Some e) calls env left = and_then (eval e calls env left)
    (λ v k. Gives (stored t v) k)

-- the environment with these locals, in order: each sees those before it
abbrev pub declared : List Local → Calls → Env → ℕ → Out Env
declared [] calls env left = Gives env left
declared (x ∷ xs) calls env left =
    and_then (first_value x.shape x.start calls env left)
    (λ v m. declared xs calls (with_local (variable x.name x.shape x.changes v) env) m)

-- The arguments by the names of the formals, each stored in its type; none if they aren't as many. Later ones stand
-- in front, as later locals do.
abbrev pub arguments : List Local → Values → Option (List Var)
arguments [] Nil = Some []
arguments (x ∷ xs) (Cons v vs) = option_map
    (λ vars. vars ++ variable x.name x.shape x.changes (stored x.shape v) ∷ []) (arguments xs vs)
arguments xs vs = None

-- what a function sees at first: the globals and its arguments
abbrev pub on_call : List Var → List Local → Values → ℕ → Out Env
on_call globals formals args left = and_then (needed (arguments formals args) left)
    (λ vars k. Gives (record { globals = globals; locals = vars }) k)

-- the locals in order, and then the body, whose value is stored in the type of the result
abbrev pub answered : Fun → Calls → List Var → Values → ℕ → Out Value
answered f calls globals args left =
    and_then (on_call globals f.formals args left) (λ entry h.
    and_then (declared f.locals calls entry h) (λ env m.
    and_then (eval f.body calls env m) (λ v k. Gives (stored (Single f.result) v) k)))

abbrev pub fun_named : List ℕ → List Fun → Option Fun
fun_named name [] = None
fun_named name (f ∷ fs) = if bytes_eq f.name name then Some f else fun_named name fs

-- What functions give, if at most so many calls are open at once.
abbrev pub calls_within : ℕ → List Fun → Calls
calls_within zero funs globals name args left = Lacks
calls_within (suc n) funs globals name args left =
    elim (fun_named name funs) [
      | None ↦ Lacks
      | Some f ↦ answered f
          (calls_within n funs) globals args left
    ]

-- What functions give. None calls itself, directly or indirectly, so never more calls are open than there are
-- functions.
abbrev pub calls_of : List Fun → Calls
calls_of funs = calls_within (length funs) funs
