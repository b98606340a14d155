-- What is evaluated is what the expression gives over the constants.
use Rattle.std.proofs.Common.{◌≡◌, ℕ, List, [], ◌++◌, map, sym, ap, subst, ◌∙◌}
use Rattle.rvc_base.specs.Turns.{max_turns}
use Rattle.cal_ast.specs.Tree.{Tree}
use Rattle.cal_model.specs.Call.{calls_of}
use Rattle.cal_model.specs.Env.{Env}
use Rattle.cal_model.specs.Expression.{Calls, eval}
use Rattle.cal_model.specs.Kinding.{constant, constants}
use Rattle.cal_model.specs.Laws.{ConstantIsValue}
use Rattle.const_env.specs.Constants.{Constants, var_of}
use Rattle.const_env.specs.Counting.{Variable, known_variable, hide, names_inside}
use Rattle.const_env.specs.Held.{Kept, globals_of, held, names_in}
use Rattle.const_expr.specs.Evaluable.{env_of, value_of}
use Rattle.const_env.specs.Outcome.{Stops}
use Rattle.const_env.specs.declared.stop.EvalError.{EvalError}
use Rattle.const_env.proofs.Named.{constants_are, hidden_constants}

pub as_asked : (e : Tree) (env : Constants) (calls : Calls) (seen : Env) (n : ℕ) → calls ≡ calls_of env.funs → seen ≡ env_of env → n ≡ max_turns → value_of e env ≡ eval e calls seen n
as_asked e env calls seen n f g h = ap (λ k. eval e (calls_of env.funs) (env_of env) k) (sym h) ∙ ap (λ s. eval e (calls_of env.funs) s n) (sym g) ∙ ap (λ c. eval e c seen n) (sym f)

-- .. also while kinds are sought
pub constant_alone : ConstantIsValue → (e : Tree) (env : Kept) (calls : Calls) (seen : Env) (n : ℕ) → calls ≡ calls_of (held env).funs → seen ≡ env_of (held env) → n ≡ max_turns
    → constant e (names_in env) ≡ eval e calls seen n
constant_alone law e env calls seen n f g h =
    law (globals_of env) (held env).funs e
    ∙ ap (λ gs. eval e (calls_of (held env).funs) (record { globals = gs; locals = [] }) max_turns) (sym (constants_are (globals_of env)))
    ∙ as_asked e (held env) calls seen n f g h

-- .. inside names without a value
pub constant_among : (e : Tree) (env : Kept) (vs : List Variable) (calls : Calls) (seen : Env) (n : ℕ)
    → calls ≡ (λ globals. calls_of (held env).funs (map var_of (held env).values)) → seen ≡ record { globals = hide vs (map var_of (held env).values); locals = [] } → n ≡ max_turns
    → constant e (names_inside vs env) ≡ eval e calls seen n
constant_among e env vs calls seen n f g h =
    ap (λ xs. eval e (λ globals name args left. calls_of (held env).funs xs name args left) (record { globals = constants (map known_variable vs ++ globals_of env); locals = [] }) max_turns) (sym (constants_are (globals_of env)))
    ∙ ap (λ gs. eval e (λ globals. calls_of (held env).funs (map var_of (held env).values)) (record { globals = gs; locals = [] }) max_turns) (hidden_constants vs (globals_of env))
    ∙ ap (λ k. eval e (λ globals. calls_of (held env).funs (map var_of (held env).values)) (record { globals = hide vs (map var_of (held env).values); locals = [] }) k) (sym h)
    ∙ ap (λ s. eval e (λ globals. calls_of (held env).funs (map var_of (held env).values)) s n) (sym g)
    ∙ ap (λ c. eval e c seen n) (sym f)

-- .. and so what ends it
pub stops_as_asked : (s : EvalError) (e : Tree) (env : Constants) (calls : Calls) (seen : Env) (n : ℕ) → calls ≡ calls_of env.funs → seen ≡ env_of env → n ≡ max_turns → Stops s (eval e calls seen n) → Stops s (value_of e env)
stops_as_asked s e env calls seen n f g h is = subst (λ out. Stops s out) (sym (as_asked e env calls seen n f g h)) is
