-- What an expression sees while it is evaluated, without where it lies in memory.
-- Not trusted: no promise is read with it.
use Rattle.std.specs.Prelude.{ℕ, false, List, [], ◌∷◌, ◌++◌, map, Option, None, Some, string_bytes}
use Rattle.std.specs.Borrow.{Bor}
use Rattle.rvc_base.specs.declared.scalar.Scalar.TheVariants as scalar
use Rattle.cal_model.specs.Value.{Single, Value}
use Rattle.cal_model.specs.Actor.{Local as ModelLocal}
use Rattle.cal_model.specs.Env.{Var, Env, variable}
use Rattle.cal_model.specs.Expression.{Calls}
use Rattle.cal_model.specs.Call.{calls_within}
use Rattle.cal_model.specs.View.{local_view, value_view}
use Rattle.cal_model.specs.declared.bound.BoundLocal.{BoundLocal}
use Rattle.cal_model.specs.declared.value.Value.{Value as DeclaredValue}
use Rattle.const_env.specs.Constants.{var_of}
use Rattle.const_env.specs.Counting.{inner_variables, hide}
use Rattle.const_env.specs.Held.{held}
use Rattle.const_expr.specs.declared.scope.Scope.{Scope}
use Rattle.const_expr.specs.declared.scope.Declared.{Declared}
use Rattle.const_expr.specs.declared.scope.Declared.TheVariants as declared
use Rattle.const_expr.specs.declared.scope.Local.{Local}
use Rattle.const_expr.specs.declared.scope.Local.TheOpen.{Local-F}
use Rattle.const_expr.specs.declared.scope.Local.TheFolds.{fold-Local}

-- a formal or a local with its value
abbrev pub bound_var : ModelLocal → Value → Var
bound_var x v = variable x.name x.shape x.changes v

abbrev pub declared_name : Declared → List ℕ
declared_name (declared.Local x) = string_bytes x.now.name
declared_name (declared.Counter name) = string_bytes name.now.text

-- a local with its value; a generator's variable isn't assigned
abbrev pub local_var : Declared → Value → Var
local_var (declared.Local x) v = bound_var (local_view x.now) v
local_var (declared.Counter name) v =
    variable (string_bytes name.now.text) (Single scalar.Bool) false v

abbrev pub outside : Option (Bor (List Var)) → List Var
outside None = []
outside (Some vars) = vars.now

abbrev pub local_step : Local-F (List Var) → List Var
local_step x = local_var x.of (value_view x.value) ∷ outside x.outer

-- a local and those outside it
abbrev pub local_vars : Local → List Var
local_vars = fold-Local (List Var) local_step

abbrev pub chain : Option (Bor Local) → List Var
chain None = []
chain (Some x) = local_vars x.now

-- arguments by the names of their formals; later ones stand in front
abbrev pub frame : List BoundLocal → List DeclaredValue → List Var
frame [] vs = []
frame (x ∷ xs) [] = []
frame (x ∷ xs) (v ∷ vs) = frame xs vs ++ bound_var (local_view x) (value_view v) ∷ []

-- ---- what is seen

-- The generators round a constant expression hide constants.
abbrev pub seen : Scope → Env
seen s = record {
  globals = hide (inner_variables s.hidden) (map var_of (held s.env.now).values);
  locals = chain s.innermost ++ frame s.formals.now s.arguments.now;
}

-- What functions give, if so many calls may still be open. What generators hide functions see all the same.
abbrev pub calls : Scope → Calls
calls s = elim s.hidden [
  | None ↦ calls_within s.depth (held s.env.now).funs
  | Some x ↦ (λ globals. calls_within s.depth (held s.env.now).funs
      (map var_of (held s.env.now).values))
]
