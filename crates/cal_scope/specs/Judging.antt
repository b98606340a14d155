-- What a call that judges answers, beside the judgement.
-- Trusted but for `Violation` and `violations`: part of what a promise means.
use Rattle.std.specs.Prelude.{◌≡◌, List, [], ◌∷◌, ℕ}
use Rattle.std.specs.declared.result.Result.{Result}
use Rattle.std.specs.declared.result.Result.TheVariants.{Ok, Err}
use Rattle.rvc_base.specs.declared.refusal.Rule.{Rule}
use Rattle.cal_model.specs.Kinding.{Judged, Fine, Broken}
use Rattle.cal_scope.specs.declared.fault.ScopeFault.{ScopeFault}
use Rattle.cal_scope.specs.declared.fault.ScopeFault.TheVariants as fault

-- the first rule that is broken, with its place; out of memory says nothing
abbrev pub Breaks : {B : Type 0} → ScopeFault → Judged B → Type 0
Breaks (fault.Broken rule at) judged = judged ≡ Broken rule at
Breaks fault.Memory judged = Unit {0}

-- a call's answer is the judgement
abbrev pub Judges : {A B : Type 0} → (A → B) → Result A ScopeFault → Judged B → Type 0
Judges view (Ok a) judged = judged ≡ Fine (view a)
Judges view (Err f) judged = Breaks f judged

-- a rule that is broken, and the offset where it is
pub record Violation : Type 0 where
  pub rule : Rule
  pub at : ℕ

-- what is broken: nothing, or the first
abbrev pub violations : {A : Type 0} → Judged A → List Violation
violations (Fine a) = []
violations (Broken rule at) = record { rule = rule; at = at } ∷ []
