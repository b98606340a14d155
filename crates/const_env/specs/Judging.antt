-- What a call that judges answers, beside the judgement.
-- Trusted: part of what a promise means.
use Rattle.std.specs.Prelude.{◌≡◌}
use Rattle.std.specs.declared.result.Result.{Result}
use Rattle.std.specs.declared.result.Result.TheVariants.{Ok, Err}
use Rattle.cal_model.specs.Kinding.{Judged, Fine, Broken}
use Rattle.const_env.specs.declared.fault.KindFault.{KindFault}
use Rattle.const_env.specs.declared.fault.KindFault.TheVariants as fault

-- the first rule that is broken, with its place; running out of memory says nothing
abbrev pub Breaks : {B : Type 0} → KindFault → Judged B → Type 0
Breaks (fault.Broken rule at) judged = judged ≡ Broken rule at
Breaks fault.Memory judged = Unit {0}

-- a call's answer is the judgement
abbrev pub Judges : {A B : Type 0} → (A → B) → Result A KindFault → Judged B → Type 0
Judges view (Ok a) judged = judged ≡ Fine (view a)
Judges view (Err f) judged = Breaks f judged
