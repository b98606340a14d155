-- A part that breaks a rule breaks it in the whole.
use Rattle.std.proofs.Common.{◌≡◌, ℕ, Bool, true, false, List, Option, refl, sym, ap, subst, ◌∙◌}
use Rattle.std.specs.Prelude.{nat_le, if◌then◌else◌}
use Rattle.rvc_base.specs.Rules.{wrong_repeat}
use Rattle.cal_model.specs.Kinding.{Judged, Fine, Broken, and_so}
use Rattle.cal_model.specs.Rates.{parts_times}
use Rattle.cal_model.specs.Sound.{max_rate}
use Rattle.const_env.specs.Judging.{Breaks}
use Rattle.const_env.specs.declared.fault.KindFault.{KindFault}
use Rattle.const_env.specs.declared.fault.KindFault.TheVariants as fault
use Rattle.check_member.specs.Judging.{Breaks as MemberBreaks, Refuses as MemberRefuses}
use Rattle.check_member.specs.declared.fault.MemberFault.{MemberFault}
use Rattle.check_member.specs.declared.fault.MemberFault.TheVariants as member
use Rattle.cal_check.specs.Violations.{Violation}
use Rattle.cal_check.specs.Actions.{rate_judged}
use Rattle.check_stmt.specs.Judging.{Refuses}
use Rattle.check_action.specs.Faults.{as_kind_fault}

pub breaks_on : {A B : Type 0} (f : KindFault) (o : Judged A) (g : A → Judged B) → Breaks f o → Breaks f (and_so o g)
breaks_on (fault.Broken rule at) o g h = ap (λ x. and_so x g) h
breaks_on fault.Memory o g h = tt

-- ---- faults of members

pub breaks_as : {B : Type 0} (f : MemberFault) (j : Judged B) → MemberBreaks f j → Breaks (as_kind_fault f) j
breaks_as (member.Broken rule at) j h = h
breaks_as member.Memory j h = tt

pub refuses_as : (f : MemberFault) (vs : List Violation) → MemberRefuses f vs → Refuses (as_kind_fault f) vs
refuses_as (member.Broken rule at) vs h = h
refuses_as member.Memory vs h = tt

-- ---- rates

abbrev unit : Unit {0}
unit = tt

-- what is judged doesn't depend on what is answered
module _ {A : Type 0} (a : A) (at : ℕ) where
  abbrev judged : {B : Type 0} → Bool → B → Judged B
  judged b x = if b then Fine x else Broken wrong_repeat at

  rate-fine : (b : Bool) (u : Unit {0}) → judged b unit ≡ Fine u → judged b a ≡ Fine a
  rate-fine true u h = refl
  rate-fine false u h = cc

  rate-breaks : (b : Bool) (f : KindFault) → Breaks f (judged b unit) → Breaks f (judged b a)
  rate-breaks true (fault.Broken rule place) h = cc
  rate-breaks false (fault.Broken rule place) h =
      let r : wrong_repeat ≡ rule = cc in
      let p : at ≡ place = cc in
      ap (λ x. Broken x at) r ∙ ap (λ x. Broken rule x) p
  rate-breaks b fault.Memory h = tt

pub fine_rate : {A : Type 0} (n : ℕ) (repeat : Option ℕ) (a : A) (at : ℕ) (u : Unit {0}) → rate_judged n repeat unit at ≡ Fine u → rate_judged n repeat a at ≡ Fine a
fine_rate n repeat a at u h = rate-fine a at (nat_le (parts_times n repeat) max_rate) u h

pub breaks_rate : {A : Type 0} (f : KindFault) (n : ℕ) (repeat : Option ℕ) (a : A) (at : ℕ) → Breaks f (rate_judged n repeat unit at) → Breaks f (rate_judged n repeat a at)
breaks_rate f n repeat a at h = rate-breaks a at (nat_le (parts_times n repeat) max_rate) f h

-- ---- parts of which so many are found

module _ {A : Type 0} (a : A) (at n len : ℕ) (repeat : Option ℕ) (same : len ≡ n) where
  pub counted_fine : (u : Unit {0}) → rate_judged len repeat unit at ≡ Fine u → rate_judged n repeat a at ≡ Fine a
  counted_fine u h = ap (λ k. rate_judged k repeat a at) (sym same) ∙ fine_rate len repeat a at u h

  pub counted_breaks : (f : KindFault) → Breaks f (rate_judged len repeat unit at) → Breaks f (rate_judged n repeat a at)
  counted_breaks f b = subst (λ k. Breaks f (rate_judged k repeat a at)) same (breaks_rate f len repeat a at b)

-- ---- judgements that are fine

pub opens_one : {A B : Type 0} (o : Judged A) (a : A) (g : A → Judged B) → o ≡ Fine a → and_so o g ≡ g a
opens_one o a g e = ap (λ x. and_so x g) e

pub opens_three : {A B C D : Type 0} (o : Judged A) (p : Judged B) (q : B → Judged C) (g : B → Judged D) (a : A) (b : B) (c : C) → o ≡ Fine a → p ≡ Fine b → q b ≡ Fine c
    → and_so o (λ x. and_so p (λ y. and_so (q y) (λ z. g y))) ≡ g b
opens_three o p q g a b c e f h = ap (λ x. and_so x (λ v. and_so p (λ y. and_so (q y) (λ z. g y)))) e ∙ ap (λ x. and_so x (λ y. and_so (q y) (λ z. g y))) f ∙ ap (λ x. and_so x (λ z. g b)) h
