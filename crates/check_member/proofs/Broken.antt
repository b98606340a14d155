-- What is broken stands among what is broken in the whole.
use Rattle.std.proofs.Common.{◌≡◌, ℕ, Bool, false, List, [], ◌∷◌, ◌++◌, refl, sym, subst, arith, Contains}
use Rattle.std.proofs.lemmas.List.Elements.{Contains-append_left, Contains-append_right}
use Rattle.std.specs.declared.result.Result.{Result}
use Rattle.std.specs.declared.result.Result.TheVariants.{Ok, Err}
use Rattle.std.specs.Prelude.{IfErr, OnOk}
use Rattle.rvc_base.specs.declared.refusal.Rule.{Rule}
use Rattle.cal_check.specs.Violations.{Violation, violation, unless}
use Rattle.check_member.specs.declared.fault.MemberFault.{MemberFault}
use Rattle.check_member.specs.declared.fault.MemberFault.TheVariants as fault
use Rattle.check_member.specs.Judging.{Checks, Refuses}

first : (v : Violation) (vs : List Violation) → Contains (v ∷ vs) v
first v vs = (0, omega arith, refl)

-- the first of what is broken
pub refuses-first : (rule : Rule) (at : ℕ) (vs more : List Violation) → vs ≡ violation rule at ++ more → Refuses (fault.Broken rule at) vs
refuses-first rule at vs more e = subst (λ ws. Contains ws (record { rule = rule; at = at })) (sym e) (first (record { rule = rule; at = at }) more)

pub refuses-left : (f : MemberFault) (vs ws : List Violation) → Refuses f vs → Refuses f (vs ++ ws)
refuses-left (fault.Broken rule at) vs ws h = Contains-append_left vs ws (record { rule = rule; at = at }) h
refuses-left fault.Memory vs ws h = tt

pub refuses-right : (f : MemberFault) (vs ws : List Violation) → Refuses f ws → Refuses f (vs ++ ws)
refuses-right (fault.Broken rule at) vs ws h = Contains-append_right vs ws (record { rule = rule; at = at }) h
refuses-right fault.Memory vs ws h = tt

pub refuses-same : (f : MemberFault) (vs ws : List Violation) → vs ≡ ws → Refuses f vs → Refuses f ws
refuses-same f vs ws e h = subst (λ us. Refuses f us) e h

-- a rule that is broken unless a test holds, which doesn't
pub refuses-unless : (b : Bool) (rule : Rule) (at : ℕ) → b ≡ false → Refuses (fault.Broken rule at) (unless b rule at)
refuses-unless b rule at e = subst (λ c. Contains (unless c rule at) (record { rule = rule; at = at })) (sym e) (first (record { rule = rule; at = at }) [])

-- ---- answers

pub checks-left : {A : Type 0} (r : Result A MemberFault) (f : MemberFault) (vs ws : List Violation) → r ≡ Err f → Refuses f vs → Checks r (vs ++ ws)
checks-left r f vs ws e h = subst (λ x. Checks x (vs ++ ws)) (sym e) (refuses-left f vs ws h)

pub checks-right : {A : Type 0} (r : Result A MemberFault) (f : MemberFault) (vs ws : List Violation) → r ≡ Err f → Refuses f ws → Checks r (vs ++ ws)
checks-right r f vs ws e h = subst (λ x. Checks x (vs ++ ws)) (sym e) (refuses-right f vs ws h)

-- nothing is broken before
pub checks-behind : {A : Type 0} (r : Result A MemberFault) (vs ws : List Violation) → vs ≡ [] → Checks r ws → Checks r (vs ++ ws)
checks-behind r vs ws e h = subst (λ us. Checks r (us ++ ws)) (sym e) h

pub checks-same : {A : Type 0} (r : Result A MemberFault) (vs ws : List Violation) → vs ≡ ws → Checks r vs → Checks r ws
checks-same r vs ws e h = subst (λ us. Checks r us) e h

pub checks-ok : {A : Type 0} (r : Result A MemberFault) (vs : List Violation) (Q : Type 0) → Checks r vs → (vs ≡ [] → Q) → OnOk r Q
checks-ok (Ok a) vs Q h f = f h
checks-ok (Err e) vs Q h f = tt

pub checks-err : {A : Type 0} (r : Result A MemberFault) (vs : List Violation) (Q : MemberFault → Type 0) → Checks r vs → ((f : MemberFault) → Refuses f vs → Q f) → IfErr r Q
checks-err (Ok a) vs Q h g = tt
checks-err (Err e) vs Q h g = g e h
