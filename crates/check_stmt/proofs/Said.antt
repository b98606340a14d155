-- Rules that are said where what isn't constant is passed over.
use Rattle.std.proofs.Common.{◌≡◌, ◌≤◌, ◌⊎◌, inl, inr, ℕ, Bool, true, false, List, [], ◌∷◌, ◌++◌, length, Result, refl, sym, ap, subst, ◌∙◌, append-nil, arith}
use Rattle.std.specs.Prelude.{Contains, if◌then◌else◌, ◌&&◌, ◌==◌, Option, None, Some}
use Rattle.std.proofs.lemmas.Bool.Decides.{nat_tests}
use Rattle.std.proofs.lemmas.List.{append_assoc}
use Rattle.rvc_base.specs.Rules.{constant_assigned, not_constant}
use Rattle.rvc_base.specs.declared.refusal.Rule.{Rule}
use Rattle.cal_check.proofs.Lists.{at-head, head-or-rest, in-none, in-rest}
use Rattle.cal_model.specs.Kinding.{Judged, Fine, Broken, Known}
use Rattle.const_env.specs.Judging.{Breaks}
use Rattle.const_env.specs.declared.fault.KindFault.{KindFault}
use Rattle.const_env.specs.declared.fault.KindFault.TheVariants as fault
use Rattle.cal_check.specs.Violations.{Violation, broken, if_fine, said, unless, without_constants}
use Rattle.cal_check.specs.Statements.{may_be_assigned}
use Rattle.check_stmt.specs.Declaring.{IsPassed}
use Rattle.check_stmt.specs.Judging.{Checks, Refuses, is_passed}
use Rattle.check_stmt.proofs.Checked.{refuses_broken, refuses_on}

-- ---- lists

without_append : (vs ws : List Violation) → without_constants (vs ++ ws) ≡ without_constants vs ++ without_constants ws
without_append [] ws = refl
without_append (v ∷ vs) ws = go (v.rule.0 == not_constant.0) (without_append vs ws)
  where
    go : (b : Bool) → without_constants (vs ++ ws) ≡ without_constants vs ++ without_constants ws
        → (if b then without_constants (vs ++ ws) else v ∷ without_constants (vs ++ ws)) ≡ (if b then without_constants vs else v ∷ without_constants vs) ++ without_constants ws
    go true h = h
    go false h = ap (λ us. v ∷ us) h

pub said_append : (passes : Bool) (vs ws : List Violation) → said passes (vs ++ ws) ≡ said passes vs ++ said passes ws
said_append true vs ws = without_append vs ws
said_append false vs ws = refl

pub said_none : (passes : Bool) → said passes [] ≡ []
said_none true = refl
said_none false = refl

pub said_on : (f : KindFault) (passes : Bool) (vs ws : List Violation) → Refuses f (said passes vs) → Refuses f (said passes (vs ++ ws))
said_on f passes vs ws h = subst (Refuses f) (sym (said_append passes vs ws)) (refuses_on f (said passes vs) (said passes ws) h)

pub said_next : (passes : Bool) (vs ws : List Violation) → said passes vs ≡ [] → said passes (vs ++ ws) ≡ said passes ws
said_next passes vs ws e = said_append passes vs ws ∙ ap (λ us. us ++ said passes ws) e

pub said_behind : {A : Type 0} (r : Result A KindFault) (passes : Bool) (vs ws : List Violation) → said passes vs ≡ [] → Checks r (said passes ws) → Checks r (said passes (vs ++ ws))
said_behind r passes vs ws e h = subst (Checks r) (sym (said_next passes vs ws e)) h

-- ---- one part

pub few_broken : {A : Type 0} (j : Judged A) → length (broken j) ≤ 1
few_broken (Fine a) = omega arith
few_broken (Broken rule at) = omega arith

is_lack : (r : Rule) → (r.0 == not_constant.0) ≡ true → r ≡ not_constant
is_lack r e =
    let same : r.0 ≡ not_constant.0 = grind (arith, nat_tests) in
    ap (λ n. record { 0 = n }) same

one_lacks : (vs : List Violation) (v : Violation) → length vs ≤ 1 → (v.rule.0 == not_constant.0) ≡ true → Contains vs v → without_constants vs ≡ []
one_lacks [] v few e h = refl
one_lacks (x ∷ []) v few e h = go (head-or-rest v x [] h)
  where
    go : (x ≡ v) ⊎ Contains [] v → without_constants (x ∷ []) ≡ []
    go (inl same) = ap (λ b. if b then [] else x ∷ []) (ap (λ y. y.rule.0 == not_constant.0) same ∙ e)
    go (inr none) = absurd (in-none v none)
one_lacks (x ∷ y ∷ vs) v few e h = absurd (omega (arith, few))

both : (a b : Bool) → (a && b) ≡ true → (a ≡ true) × (b ≡ true)
both true true h = (refl, refl)
both true false h = cc
both false b h = cc

pub passed_over : (passes : Bool) (vs : List Violation) (rule : Rule) (at : ℕ) → length vs ≤ 1 → (passes && (rule.0 == not_constant.0)) ≡ true
    → Refuses (fault.Broken rule at) vs → said passes vs ≡ []
passed_over true vs rule at few e h = one_lacks vs (record { rule = rule; at = at }) few (both true (rule.0 == not_constant.0) e).1 h
passed_over false vs rule at few e h = cc

stays : (vs : List Violation) (v : Violation) → (v.rule.0 == not_constant.0) ≡ false → Contains vs v → Contains (without_constants vs) v
stays [] v e h = absurd (in-none v h)
stays (x ∷ vs) v e h = go (x.rule.0 == not_constant.0) refl (head-or-rest v x vs h) (λ i. stays vs v e i)
  where
    go : (b : Bool) → (x.rule.0 == not_constant.0) ≡ b → (x ≡ v) ⊎ Contains vs v → (Contains vs v → Contains (without_constants vs) v)
        → Contains (if b then without_constants vs else x ∷ without_constants vs) v
    go true i (inl same) k = absurd (clash (sym i ∙ ap (λ y. y.rule.0 == not_constant.0) same ∙ e))
      where
        clash : true ≡ false → ⊥
        clash h = cc
    go true i (inr r) k = k r
    go false i (inl same) k = at-head v x (without_constants vs) same
    go false i (inr r) k = in-rest v x (without_constants vs) (k r)

pub passed_on : (passes : Bool) (vs : List Violation) (rule : Rule) (at : ℕ) → (passes && (rule.0 == not_constant.0)) ≡ false
    → Refuses (fault.Broken rule at) vs → Refuses (fault.Broken rule at) (said passes vs)
passed_on true vs rule at e h = stays vs (record { rule = rule; at = at }) e h
passed_on false vs rule at e h = h

-- a judgement that is fine, or what is left of what it breaks
pub fine_said : {A : Type 0} (a : A) (passes : Bool) (j : Judged A) → j ≡ Fine a → said passes (broken j) ≡ []
fine_said a passes j h = ap (λ i. said passes (broken i)) h ∙ said_none passes

pub fault_said : {A B : Type 0} (r : Result A KindFault) (f : KindFault) (passes : Bool) (j : Judged B) → Breaks f j
    → ((vs : List Violation) → length vs ≤ 1 → Refuses f vs → Checks r (said passes vs)) → Checks r (said passes (broken j))
fault_said r f passes j h k = k (broken j) (few_broken j) (refuses_broken f j h)

-- what isn't constant is passed over, and breaks this part
pub passed_is : {A : Type 0} (f : KindFault) (passes : Bool) (j : Judged A) → is_passed passes f ≡ true → Breaks f j → IsPassed passes j
passed_is (fault.Broken rule at) passes j e h =
    let two = both passes (rule.0 == not_constant.0) e in
    (two.0, (at, h ∙ ap (λ r. Broken r at) (is_lack rule two.1)))
passed_is fault.Memory passes j e h = cc

-- a fault that isn't passed over
pub kept_said : {A : Type 0} (f : KindFault) (passes : Bool) (j : Judged A) → is_passed passes f ≡ false → Breaks f j → Refuses f (said passes (broken j))
kept_said (fault.Broken rule at) passes j e h = passed_on passes (broken j) rule at e (refuses_broken (fault.Broken rule at) j h)
kept_said fault.Memory passes j e h = tt

-- ---- what is broken behind a part

pub refuses_if_fine_said : {A : Type 0} (f : KindFault) (passes : Bool) (vs : List Violation) (j : Judged A) (g : A → List Violation)
    → Refuses f (said passes (vs ++ broken j)) → Refuses f (said passes (vs ++ if_fine j g))
refuses_if_fine_said f passes vs (Broken rule at) g h = h
refuses_if_fine_said f passes vs (Fine a) g h = said_on f passes vs (g a) (subst (λ us. Refuses f (said passes us)) (append-nil vs) h)

pub passed_if_fine : {A : Type 0} (passes : Bool) (vs : List Violation) (j : Judged A) (g : A → List Violation) → said passes vs ≡ [] → IsPassed passes j
    → said passes (vs ++ if_fine j g) ≡ []
passed_if_fine passes vs j g e (p, (at, h)) =
    said_next passes vs (if_fine j g) e ∙ ap (λ b. said b (if_fine j g)) p ∙ ap (λ i. without_constants (if_fine i g)) h

pub checks_if_fine : {A B : Type 0} (r : Result B KindFault) (passes : Bool) (vs : List Violation) (j : Judged A) (g : A → List Violation) (a : A) → said passes vs ≡ [] → j ≡ Fine a
    → Checks r (said passes (g a)) → Checks r (said passes (vs ++ if_fine j g))
checks_if_fine r passes vs j g a e h k =
    said_behind r passes vs (if_fine j g) e (subst (λ i. Checks r (said passes (if_fine i g))) (sym h) k)

-- ---- three parts, and what is behind them

grouped : (xs ys zs vs : List Violation) → xs ++ (ys ++ (zs ++ vs)) ≡ (xs ++ (ys ++ zs)) ++ vs
grouped xs ys zs vs = ap (λ us. xs ++ us) (sym (append_assoc ys zs vs)) ∙ sym (append_assoc xs (ys ++ zs) vs)

pub refuses_three_said : (f : KindFault) (passes : Bool) (xs ys zs vs : List Violation) → Refuses f (said passes (xs ++ (ys ++ zs))) → Refuses f (said passes (xs ++ (ys ++ (zs ++ vs))))
refuses_three_said f passes xs ys zs vs h = subst (λ us. Refuses f (said passes us)) (sym (grouped xs ys zs vs)) (said_on f passes (xs ++ (ys ++ zs)) vs h)

pub checks_three_said : {A : Type 0} (r : Result A KindFault) (passes : Bool) (xs ys zs vs : List Violation) → said passes (xs ++ (ys ++ zs)) ≡ [] → Checks r (said passes vs)
    → Checks r (said passes (xs ++ (ys ++ (zs ++ vs))))
checks_three_said r passes xs ys zs vs e h = subst (λ us. Checks r (said passes us)) (sym (grouped xs ys zs vs)) (said_behind r passes (xs ++ (ys ++ zs)) vs e h)

-- ---- assignments

-- that a constant is assigned is said in any case
assigned_said : (passes : Bool) (o : Option Known) (at : ℕ) → said passes (may_be_assigned o at) ≡ may_be_assigned o at
assigned_said false o at = refl
assigned_said true None at = refl
assigned_said true (Some x) at = go x.changes
  where
    go : (b : Bool) → without_constants (unless b constant_assigned at) ≡ unless b constant_assigned at
    go true = refl
    go false = refl

pub assigned_checked : {A : Type 0} (r : Result A KindFault) (passes : Bool) (o : Option Known) (at : ℕ) → Checks r (may_be_assigned o at) → Checks r (said passes (may_be_assigned o at))
assigned_checked r passes o at h = subst (Checks r) (sym (assigned_said passes o at)) h
