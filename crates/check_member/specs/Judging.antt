-- What a call that judges answers, beside the rules that are broken.
-- Trusted: part of what a promise means.
use Rattle.std.specs.Prelude.{◌≡◌, ◌⊎◌, ℕ, List, [], Contains, Option, Some}
use Rattle.std.specs.declared.result.Result.{Result}
use Rattle.std.specs.declared.result.Result.TheVariants.{Ok, Err}
use Rattle.rvc_base.specs.Chain.{IsAbove}
use Rattle.rvc_base.specs.Rules.{priority_cycle}
use Rattle.cal_model.specs.Kinding.{Judged, Fine, Broken}
use Rattle.cal_check.specs.Violations.{Violation}
use Rattle.check_member.specs.declared.fault.MemberFault.{MemberFault}
use Rattle.check_member.specs.declared.fault.MemberFault.TheVariants as fault

-- one of these rules is broken, where the fault says; out of memory says nothing
abbrev pub Refuses : MemberFault → List Violation → Type 0
Refuses (fault.Broken rule at) vs = Contains vs (record { rule = rule; at = at })
Refuses fault.Memory vs = Unit {0}

-- an answer that isn't an error says that none of these rules is broken, and an error that one is
abbrev pub Checks : {A : Type 0} → Result A MemberFault → List Violation → Type 0
Checks (Ok a) vs = vs ≡ []
Checks (Err f) vs = Refuses f vs

-- the rule that a part breaks, with its place; out of memory says nothing
abbrev pub Breaks : {B : Type 0} → MemberFault → Judged B → Type 0
Breaks (fault.Broken rule at) judged = judged ≡ Broken rule at
Breaks fault.Memory judged = Unit {0}

-- a call's answer is the judgement of a part
abbrev pub Judges : {A B : Type 0} → (A → B) → Result A MemberFault → Judged B → Type 0
Judges view (Ok a) judged = judged ≡ Fine (view a)
Judges view (Err f) judged = Breaks f judged

-- an action is above itself by these pairs, and the rule is that of cycles, at the first word `priority`
abbrev pub IsCycleAt : List (ℕ × ℕ) → Option ℕ → MemberFault → Type 0
IsCycleAt pairs first (fault.Broken rule at) =
    (rule ≡ priority_cycle) × (first ≡ Some at) × ((a : ℕ) × IsAbove pairs a a)
IsCycleAt pairs first fault.Memory = Unit {0}

-- one of these rules is broken, or an action is above itself
abbrev pub BreaksPriorities : List Violation → List (ℕ × ℕ) → Option ℕ → MemberFault → Type 0
BreaksPriorities vs pairs first f = Refuses f vs ⊎ IsCycleAt pairs first f
