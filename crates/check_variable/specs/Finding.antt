-- What is found of a name's place in a part, beside what is meant.
-- Not trusted: no promise is read with it.
use Rattle.std.specs.Prelude.{◌≡◌, ◌==◌, ℕ, Bool, List, Option, None, Some, if◌then◌else◌}
use Rattle.rvc_base.specs.declared.refusal.Rule.{Rule}
use Rattle.rvc_base.specs.Rules.{not_constant, unknown_name}
use Rattle.cal_ast.specs.Tree.{Tree}
use Rattle.const_env.specs.declared.fault.KindFault.{KindFault}
use Rattle.const_env.specs.declared.fault.KindFault.TheVariants.{Broken}
use Rattle.cal_check.specs.Constants.{constants_in, last_using, uses_at}
use Rattle.check_variable.specs.declared.places.Found.{Found}

abbrev pub or_at : Option ℕ → ℕ → ℕ
or_at None at = at
or_at (Some place) at = place

-- whether the name is used, and the last of the expressions that must be constant and use it
abbrev pub Finds : ℕ → Found → Bool → List Tree → Type 0
Finds p found used constants =
    (found.uses ≡ used) × ((at : ℕ) → last_using p constants at ≡ or_at found.last at)

abbrev pub FindsIn : ℕ → Found → Tree → Type 0
FindsIn p found t = Finds p found (uses_at p t) (constants_in t)

abbrev pub not_yet_at : Rule → ℕ → ℕ → KindFault
not_yet_at rule at place =
    if rule.0 == unknown_name.0 then Broken not_constant place else Broken rule at
