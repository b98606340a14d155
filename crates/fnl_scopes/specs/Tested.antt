-- What a test of rules answers.
-- Not trusted: no promise is read with it.
use Rattle.std.specs.Prelude.{◌≡◌, List, [], Contains}
use Rattle.std.specs.declared.result.Result.{Result}
use Rattle.std.specs.declared.result.Result.TheVariants.{Ok, Err}
use Rattle.cal_check.specs.Violations.{Violation}
use Rattle.fnl_scopes.specs.declared.fault.ScopeFault.{ScopeFault}
use Rattle.fnl_scopes.specs.declared.fault.ScopeFault.TheVariants.{Broken, Memory}

-- the rule that a fault names is broken there
abbrev pub IsCause : List Violation → ScopeFault → Type 0
IsCause broken (Broken rule at) = Contains broken (record { rule = rule; at = at })
IsCause broken Memory = Unit {0}

-- a call answers Ok if no rule is broken, and else a rule that is; running out of memory says nothing
abbrev pub Tests : {A : Type 0} → Result A ScopeFault → List Violation → Type 0
Tests (Ok a) broken = broken ≡ []
Tests (Err fault) broken = IsCause broken fault
