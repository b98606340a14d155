-- What a call that judges answers, beside the rules that are broken.
-- Trusted: part of what a promise means.
use Rattle.std.specs.Prelude.{◌≡◌, Bool, false, ◌&&◌, ◌==◌, List, [], Contains}
use Rattle.std.specs.declared.result.Result.{Result}
use Rattle.std.specs.declared.result.Result.TheVariants.{Ok, Err}
use Rattle.rvc_base.specs.Rules.{not_constant}
use Rattle.const_env.specs.declared.fault.KindFault.{KindFault}
use Rattle.const_env.specs.declared.fault.KindFault.TheVariants as fault
use Rattle.cal_check.specs.Violations.{Violation}

-- one of these rules is broken, where the fault says; running out of memory says nothing
abbrev pub Refuses : KindFault → List Violation → Type 0
Refuses (fault.Broken rule at) vs = Contains vs (record { rule = rule; at = at })
Refuses fault.Memory vs = Unit {0}

-- the fault is that something isn't constant, and this is passed over
abbrev pub is_passed : Bool → KindFault → Bool
is_passed passes (fault.Broken rule at) = passes && (rule.0 == not_constant.0)
is_passed passes fault.Memory = false

-- an answer that isn't an error says that none of these rules is broken, and an error that one is
abbrev pub Checks : {A : Type 0} → Result A KindFault → List Violation → Type 0
Checks (Ok a) vs = vs ≡ []
Checks (Err f) vs = Refuses f vs
