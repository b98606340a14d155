-- What calls on given values answer.
-- Not trusted: no promise is read with it.
use Rattle.std.specs.Prelude.{◌≡◌, ℕ, Bool, not, ◌||◌, List, [], ◌∷◌, Option, Some}
use Rattle.std.specs.declared.result.Result.{Result}
use Rattle.std.specs.declared.result.Result.TheVariants.{Ok, Err}
use Rattle.rvc_base.specs.declared.refusal.Front.{Front}
use Rattle.cal_model.specs.Tags.{with_seen}
use Rattle.cal_model.specs.Value.{Value}
use Rattle.cal_model.specs.View.{value_view}
use Rattle.cal_model.specs.declared.value.Value.{Value as DeclaredValue}
use Rattle.cal_check.specs.Actors.{is_declared, is_given}
use Rattle.cal_check.specs.Variables.{Found, Given, VarDecl}
use Rattle.check_given.specs.Causes.{IsCause, SaysRule}

-- names, and behind them those of parameters that are declared, each once
abbrev pub with_declared : List (List ℕ) → List VarDecl → List (List ℕ)
with_declared names [] = names
with_declared names (x ∷ xs) = with_declared (with_seen names x.name) xs

-- these are the names of parameters that are declared
abbrev pub AreNamesOf : List (List ℕ) → List VarDecl → Type 0
AreNamesOf names params = names ≡ with_declared [] params

-- a value that is given to no parameter, or to one that is given another before
abbrev pub is_wrong : Given → List Given → List VarDecl → Bool
is_wrong g before params = not (is_declared g.name params) || is_given g.name before

-- a value that a parameter is given, as it is stored, or the rule that it breaks
abbrev pub GivenStored : Result DeclaredValue Front → Option Value → List Found → Type 0
GivenStored (Ok v) value breaks = (value ≡ Some (value_view v)) × (breaks ≡ [])
GivenStored (Err f) value breaks = IsCause f breaks × SaysRule f
