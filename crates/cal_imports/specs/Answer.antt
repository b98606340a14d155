-- What is found in several files, or a rule that is broken, with its file and place.
-- Trusted: part of what a promise means.
use Rattle.std.specs.Prelude.{◌≡◌, ℕ, List, [], ◌∷◌, ◌++◌}
use Rattle.std.specs.declared.result.Result.{Result}
use Rattle.std.specs.declared.result.Result.TheVariants.{Ok, Err}
use Rattle.rvc_base.specs.declared.refusal.Rule.{Rule}
use Rattle.cal_model.specs.Kinding.{Judged, Fine, Broken}
use Rattle.cal_scope.specs.declared.fault.ScopeFault.{ScopeFault}
use Rattle.cal_scope.specs.declared.fault.ScopeFault.TheVariants as scope
use Rattle.cal_imports.specs.declared.fault.ImportFault.{ImportFault}
use Rattle.cal_imports.specs.declared.fault.ImportFault.TheVariants as fault

pub data Answer (A : Type 0) : Type 0 where
  Gives : A → Answer A
  Refuses : (rule : Rule) (file at : ℕ) → Answer A

abbrev pub and_then : {A B : Type 0} → Answer A → (A → Answer B) → Answer B
and_then (Gives a) f = f a
and_then (Refuses rule file at) f = Refuses rule file at

-- a judgement of a part, of a file
abbrev pub in_file : {A : Type 0} → ℕ → Judged A → Answer A
in_file file (Fine a) = Gives a
in_file file (Broken rule at) = Refuses rule file at

-- one more behind those that were found
abbrev pub and_one : {A : Type 0} → List A → Answer A → Answer (List A)
and_one done a = and_then a (λ x. Gives (done ++ x ∷ []))

-- ---- what a call answers, beside this

-- the rule that is broken, with its file and place; out of memory says nothing
abbrev pub RefusedBy : {B : Type 0} → ImportFault → Answer B → Type 0
RefusedBy (fault.Refused rule file at) answer = answer ≡ Refuses rule file at
RefusedBy fault.Memory answer = Unit {0}

-- a call's answer is this
abbrev pub Answers : {A B : Type 0} → (A → B) → Result A ImportFault → Answer B → Type 0
Answers view (Ok a) answer = answer ≡ Gives (view a)
Answers view (Err f) answer = RefusedBy f answer

-- an answer about a part, of a file
abbrev pub placed : {A : Type 0} → (file : ℕ) → Result A ScopeFault → Result A ImportFault
placed file (Ok a) = Ok a
placed file (Err (scope.Broken rule at)) = Err (fault.Refused rule file at)
placed file (Err scope.Memory) = Err fault.Memory
