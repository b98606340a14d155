-- Rules that faults name.
-- Trusted: part of what a promise means.
use Rattle.std.specs.Prelude.{◌≡◌, List, [], false, ◌==◌, Contains}
use Rattle.std.specs.declared.result.Result.{Result}
use Rattle.std.specs.declared.result.Result.TheVariants.{Ok, Err}
use Rattle.rvc_base.specs.Rules.{not_constant}
use Rattle.rvc_base.specs.declared.refusal.Front.{Front}
use Rattle.rvc_base.specs.declared.refusal.Front.TheVariants as front
use Rattle.rvc_base.specs.declared.refusal.Rule.{Rule}
use Rattle.cal_check.specs.Variables.{Found}

-- the rule that a fault names is broken there; running out of memory says nothing
abbrev pub IsCause : Front → List Found → Type 0
IsCause (front.Refused r) fs = Contains fs
    (record { violation = record { rule = r.rule; at = r.place.offset }; file = r.place.file })
IsCause front.Memory fs = Unit {0}

-- a call finds one of these broken, or none is
abbrev pub Finds : {A : Type 0} → Result A Front → List Found → Type 0
Finds (Ok a) fs = fs ≡ []
Finds (Err f) fs = IsCause f fs

-- A rule that is said whatever else is broken. That something isn't constant isn't said if some head breaks another
-- rule, or if a value before it is of no use.
abbrev pub IsSaid : Rule → Type 0
IsSaid rule = (rule.0 == not_constant.0) ≡ false

-- a fault whose rule is said whatever else is broken
abbrev pub SaysRule : Front → Type 0
SaysRule (front.Refused r) = IsSaid r.rule
SaysRule front.Memory = Unit {0}
