-- What a constant expression gives, and which expressions may be evaluated over constants.
-- Trusted: part of what a promise means.
use Rattle.std.specs.Prelude.{◌≡◌, List, [], ◌++◌, map}
use Rattle.rvc_base.specs.Turns.{max_turns}
use Rattle.cal_ast.specs.Tree.{Tree}
use Rattle.cal_model.specs.Value.{Kind, Value, HasKind}
use Rattle.cal_model.specs.Outcome.{Out, Gives, Traps, Lacks, Clashes}
use Rattle.cal_model.specs.Env.{Env}
use Rattle.cal_model.specs.Expression.{eval}
use Rattle.cal_model.specs.Call.{calls_of}
use Rattle.cal_model.specs.Keeping.{IsOfItsKinds}
use Rattle.cal_model.specs.Kinding.{Fine, Known, Names, kind}
use Rattle.cal_model.specs.Sound.{Each, FunsNeverReturn}
use Rattle.const_env.specs.Constants.{Constant, Constants, kind_of_value, known_of, var_of}

-- the constants as an environment
abbrev pub env_of : Constants → Env
env_of env = record { globals = map var_of env.values; locals = [] }

-- what an expression gives over the constants
abbrev pub value_of : Tree → Constants → Out Value
value_of e env = eval e (calls_of env.funs) (env_of env) max_turns

-- it is reached that a name means nothing, or that a part is of another kind than its form asks
abbrev pub HasNoValue : Out Value → Type 0
HasNoValue (Gives v left) = ⊥
HasNoValue (Traps c) = ⊥
HasNoValue Lacks = Unit {0}
HasNoValue Clashes = Unit {0}

-- the names of the constants, and others besides
abbrev pub names_with : List Known → Constants → Names
names_with lacking env =
    record { globals = map known_of env.values ++ lacking; locals = []; funs = env.funs }

-- a value whose lists have items of one kind each
abbrev pub IsOfOneKind : Constant → Type 0
IsOfOneKind x = HasKind (kind_of_value x.value) x.value

-- Some kinds can be given to names that the constants lack such that the expression has a kind, and each function's
-- body and starts have the kinds that it declares for them. No function calls itself, directly or indirectly.
pub record IsEvaluable (env : Constants) (e : Tree) : Type 0 where
  pub lacking : List Known
  pub kind_of : Kind
  pub has_kind : kind e (names_with lacking env) ≡ Fine kind_of
  pub values : Each IsOfOneKind env.values
  pub funs : Each (IsOfItsKinds (names_with lacking env)) env.funs
  pub ends : FunsNeverReturn env.funs
