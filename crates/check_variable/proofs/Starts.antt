-- What starts come to.
use Rattle.std.proofs.Common.{◌≡◌, ℕ, Bool, true, false, List, [], ◌∷◌, map, refl, sym, ap, subst, ◌∙◌, Err}
use Rattle.std.specs.Prelude.{Option, None, Some, Contains, if◌then◌else◌}
use Rattle.std.specs.Str.{bytes_eq}
use Rattle.rvc_base.specs.Turns.{max_turns}
use Rattle.cal_ast.specs.Places.{begins}
use Rattle.cal_ast.specs.Tree.{Tree}
use Rattle.cal_model.specs.Value.{Shape, Value}
use Rattle.cal_model.specs.Outcome.{Out}
use Rattle.cal_model.specs.Expression.{eval}
use Rattle.cal_model.specs.Call.{calls_of}
use Rattle.cal_model.specs.Kinding.{Broken, Known, constant, constants}
use Rattle.cal_model.specs.Kinding as kinding
use Rattle.cal_model.specs.Laws.{ConstantIsValue}
use Rattle.const_env.specs.Constants.{Constant, constants_among, other_constants, var_of}
use Rattle.const_expr.specs.Evaluable.{value_of}
use Rattle.const_env.specs.Held.{Kept, globals_of, held, names_in}
use Rattle.const_env.specs.declared.fault.KindFault.{KindFault}
use Rattle.const_env.specs.declared.fault.KindFault.TheVariants as fault
use Rattle.check_stmt.specs.Judging.{Refuses}
use Rattle.cal_check.specs.Constants.{start_value, value_given}
use Rattle.cal_check.specs.Variables.{Come, come_of}
use Rattle.cal_check.proofs.Lists.{at-head}
use Rattle.check_variable.specs.Causes.{SaysFault}
use Rattle.check_variable.specs.Valuing.{ComesTo}

-- ---- constants among names

others_are : (name : List ℕ) (cs : List Constant) → map var_of (other_constants name cs) ≡ kinding.without name (map var_of cs)
others_are name [] = refl
others_are name (c ∷ cs) = go (bytes_eq c.name name) (others_are name cs)
  where
    go : (b : Bool) → map var_of (other_constants name cs) ≡ kinding.without name (map var_of cs)
        → map var_of (if b then other_constants name cs else c ∷ other_constants name cs) ≡ (if b then kinding.without name (map var_of cs) else var_of c ∷ kinding.without name (map var_of cs))
    go true rest = rest
    go false rest = ap (λ xs. var_of c ∷ xs) rest

constants_are : (ks : List Known) → map var_of (constants_among ks) ≡ constants ks
constants_are [] = refl
constants_are (k ∷ ks) = go k.value (constants_are ks)
  where
    go : (v : Option Value) → map var_of (constants_among ks) ≡ constants ks
        → map var_of (elim v [ None ↦ other_constants k.name (constants_among ks) | Some w ↦ record { name = k.name; value = w } ∷ constants_among ks ])
        ≡ elim v [ None ↦ kinding.without k.name (constants ks) | Some w ↦ record { name = k.name; value = w; kept = None } ∷ constants ks ]
    go None rest = others_are k.name (constants_among ks) ∙ ap (kinding.without k.name) rest
    go (Some w) rest = ap (λ xs. record { name = k.name; value = w; kept = None } ∷ xs) rest

-- what is evaluated is what the expression gives over the names
pub constant_is : ConstantIsValue → (e : Tree) (env : Kept) → constant e (names_in env) ≡ value_of e (held env)
constant_is law e env =
    law (globals_of env) (held env).funs e
    ∙ ap (λ gs. eval e (calls_of (held env).funs) (record { globals = gs; locals = [] }) max_turns) (sym (constants_are (globals_of env)))

-- what the start comes to if evaluation ends so
pub start_is : ConstantIsValue → (env : Kept) (t : Shape) (e : Tree) (o : Out Value) → value_of e (held env) ≡ o
    → come_of (start_value t e (names_in env)) ≡ come_of (value_given o t (begins e))
start_is law env t e o h = ap (λ p. come_of (value_given p t (begins e))) (constant_is law e env ∙ h)

-- ---- faults

pub start_refuses : (f : KindFault) (c : Come) (at : ℕ) → ComesTo (Err f) c at → Refuses f c.breaks
start_refuses (fault.Broken rule p) c at h = subst (λ d. Contains d.breaks (record { rule = rule; at = p })) (sym h.0) (at-head (record { rule = rule; at = p }) (record { rule = rule; at = p }) [] refl)
start_refuses fault.Memory c at h = tt

pub start_says : (f : KindFault) (c : Come) (at : ℕ) → ComesTo (Err f) c at → SaysFault f
start_says (fault.Broken rule p) c at h = h.1
start_says fault.Memory c at h = tt
