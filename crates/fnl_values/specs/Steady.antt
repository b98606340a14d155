-- Names of a network while it is evaluated: each is a constant of its kind, and there are no functions.
-- Not trusted: no promise is read with it.
use Rattle.std.specs.Prelude.{◌≡◌, List, [], Some}
use Rattle.cal_model.specs.Value.{HasKind, Value}
use Rattle.cal_model.specs.Kinding.{Known, Names}
use Rattle.cal_model.specs.Sound.{Each}
use Rattle.const_env.specs.Held.{Kept, globals_of, held}

-- a constant, whose value is of its kind
pub record IsConstant (x : Known) : Type 0 where
  pub value : Value
  pub is : x.value ≡ Some value
  pub has_kind : HasKind x.kind value

pub record IsSteady (env : Kept) : Type 0 where
  pub no_funs : (held env).funs ≡ []
  pub values : Each IsConstant (globals_of env)

-- names without functions
abbrev pub names_of : List Known → Names
names_of known = record { globals = known; locals = []; funs = [] }
