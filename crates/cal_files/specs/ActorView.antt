-- What is answered of an actor among files that were read.
-- Not trusted: no promise is read with it.
use Rattle.std.specs.Prelude.{◌≡◌}
use Rattle.std.specs.declared.result.Result.{Result}
use Rattle.std.specs.declared.result.Result.TheVariants.{Ok, Err}
use Rattle.cal_imports.specs.Answer.{Answer, Gives, Refuses}
use Rattle.cal_imports.specs.ScopeView.{scope_view}
use Rattle.cal_imports.specs.Whole as whole
use Rattle.cal_imports.specs.declared.scope.Scope.{Scope}
use Rattle.cal_files.specs.declared.fault.LoadFault.{LoadFault}
use Rattle.cal_files.specs.declared.fault.LoadFault.TheVariants.{Refused, ReadFault, Memory}

-- a call's answer is this; out of memory says nothing
abbrev pub IsJudged : Result Scope LoadFault → Answer whole.Scope → Type 0
IsJudged (Ok s) answer = answer ≡ Gives (scope_view s)
IsJudged (Err (Refused r)) answer = answer ≡ Refuses r.rule r.place.file r.place.offset
IsJudged (Err (ReadFault file)) answer = ⊥
IsJudged (Err Memory) answer = Unit {0}
