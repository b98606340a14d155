-- What a call that judges parts of a file answers, beside the rules that are broken, each with its file.
-- Trusted: part of what a promise means.
use Rattle.std.specs.Prelude.{◌≡◌, ℕ, List, [], Contains}
use Rattle.std.specs.declared.result.Result.{Result}
use Rattle.std.specs.declared.result.Result.TheVariants.{Ok, Err}
use Rattle.const_env.specs.declared.fault.KindFault.{KindFault}
use Rattle.const_env.specs.declared.fault.KindFault.TheVariants as fault
use Rattle.cal_check.specs.Variables.{Found}

-- one of these rules is broken in the file, where the fault says; running out of memory says nothing
abbrev pub RefusesIn : ℕ → KindFault → List Found → Type 0
RefusesIn file (fault.Broken rule at) fs =
    Contains fs (record { violation = record { rule = rule; at = at }; file = file })
RefusesIn file fault.Memory fs = Unit {0}

-- an answer that isn't an error says that none of these rules is broken, and an error that one is
abbrev pub ChecksIn : {A : Type 0} → ℕ → Result A KindFault → List Found → Type 0
ChecksIn file (Ok a) fs = fs ≡ []
ChecksIn file (Err f) fs = RefusesIn file f fs
