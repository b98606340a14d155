-- What the variables of an actor come to, and what is left to say of them.
-- Not trusted: no promise is read with it.
use Rattle.std.specs.Prelude.{◌≡◌, List, [], ◌++◌}
use Rattle.std.specs.declared.result.Result.{Result}
use Rattle.std.specs.declared.result.Result.TheVariants.{Ok, Err}
use Rattle.rvc_base.specs.declared.refusal.Front.{Front}
use Rattle.const_env.specs.Held.{names_in}
use Rattle.cal_check.specs.Actors.{Source, all_valued, declared_vars, given_wrongly, params_in, params_of}
use Rattle.cal_check.specs.Variables.{Found, Given, Spot, VarDecl}
use Rattle.check_given.specs.Causes.{IsCause, SaysRule}
use Rattle.check_variable.specs.Valuing.{IsValued}
use Rattle.check_actor.specs.Parts.{header_names}
use Rattle.check_actor.specs.declared.early.Early.{Early}

-- what other files declare, and the parameters
abbrev pub vars_before : Source → List VarDecl
vars_before s = s.vars ++ params_in s.file (params_of s.actor)

-- values that are given to no parameter, or to one that is given another before
abbrev pub wrongly_given : Source → List Given → List Found
wrongly_given s gs = given_wrongly gs [] (params_in s.file (params_of s.actor))

-- what all variables come to, and the names that the header sees
pub record IsEarly (e : Early) (s : Source) (gs : List Given) (owner : Spot) : Type 0 where
  pub values : IsValued (declared_vars s) e.values (all_valued s gs owner)
  pub header : names_in e.header ≡ header_names s gs owner

abbrev pub FindsEarly : Result Early Front → Source → List Given → Spot → Type 0
FindsEarly (Ok e) s gs owner = IsEarly e s gs owner
FindsEarly (Err f) s gs owner = IsCause f (all_valued s gs owner).breaks × SaysRule f
