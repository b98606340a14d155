-- Answers of calls that check, put together.
use Rattle.std.proofs.Common.{◌≡◌, Ok, Err, List, [], ◌++◌, Result, sym, ap, subst, ◌∙◌}
use Rattle.std.proofs.lemmas.List.Elements.{Contains-append_left, Contains-append_right, Contains-push}
use Rattle.std.proofs.lemmas.List.{append-nil, append_assoc}
use Rattle.cal_model.specs.Kinding.{Judged, Fine, Broken}
use Rattle.const_env.specs.Judging.{Breaks, Judges}
use Rattle.const_env.specs.declared.fault.KindFault.{KindFault}
use Rattle.const_env.specs.declared.fault.KindFault.TheVariants as fault
use Rattle.cal_check.specs.Violations.{Violation, broken, if_fine}
use Rattle.check_stmt.specs.Judging.{Checks, Refuses}

-- ---- one part

pub refuses_broken : {B : Type 0} (f : KindFault) (j : Judged B) → Breaks f j → Refuses f (broken j)
refuses_broken (fault.Broken rule at) j h = subst (λ o. Refuses (fault.Broken rule at) (broken o)) (sym h) (Contains-push [] (record { rule = rule; at = at }))
refuses_broken fault.Memory j h = tt

pub checks_judged : {A B : Type 0} (view : A → B) (r : Result A KindFault) (j : Judged B) → Judges view r j → Checks r (broken j)
checks_judged view (Ok a) j h = ap broken h
checks_judged view (Err f) j h = refuses_broken f j h

-- ---- two parts

pub refuses_on : (f : KindFault) (vs ws : List Violation) → Refuses f vs → Refuses f (vs ++ ws)
refuses_on (fault.Broken rule at) vs ws h = Contains-append_left vs ws (record { rule = rule; at = at }) h
refuses_on fault.Memory vs ws h = tt

pub refuses_later : (f : KindFault) (vs ws : List Violation) → Refuses f ws → Refuses f (vs ++ ws)
refuses_later (fault.Broken rule at) vs ws h = Contains-append_right vs ws (record { rule = rule; at = at }) h
refuses_later fault.Memory vs ws h = tt

pub checks_behind : {A : Type 0} (r : Result A KindFault) (vs ws : List Violation) → vs ≡ [] → Checks r ws → Checks r (vs ++ ws)
checks_behind r vs ws e h = subst (λ us. Checks r (us ++ ws)) (sym e) h

pub refuses_alone : (f : KindFault) (vs : List Violation) → Refuses f (vs ++ []) → Refuses f vs
refuses_alone f vs h = subst (Refuses f) (append-nil vs) h

-- ---- what is broken behind a part

pub refuses_if_fine : {A : Type 0} (f : KindFault) (vs : List Violation) (j : Judged A) (g : A → List Violation) → Refuses f (vs ++ broken j) → Refuses f (vs ++ if_fine j g)
refuses_if_fine f vs (Broken rule at) g h = h
refuses_if_fine f vs (Fine a) g h = refuses_on f vs (g a) (refuses_alone f vs h)

-- ---- three parts, and what is behind them

grouped : (xs ys zs vs : List Violation) → xs ++ (ys ++ (zs ++ vs)) ≡ (xs ++ (ys ++ zs)) ++ vs
grouped xs ys zs vs = ap (λ us. xs ++ us) (sym (append_assoc ys zs vs)) ∙ sym (append_assoc xs (ys ++ zs) vs)

pub refuses_three : (f : KindFault) (xs ys zs vs : List Violation) → Refuses f (xs ++ (ys ++ zs)) → Refuses f (xs ++ (ys ++ (zs ++ vs)))
refuses_three f xs ys zs vs h = subst (Refuses f) (sym (grouped xs ys zs vs)) (refuses_on f (xs ++ (ys ++ zs)) vs h)

pub checks_three : {A : Type 0} (r : Result A KindFault) (xs ys zs vs : List Violation) → xs ++ (ys ++ zs) ≡ [] → Checks r vs → Checks r (xs ++ (ys ++ (zs ++ vs)))
checks_three r xs ys zs vs e h = subst (Checks r) (sym (grouped xs ys zs vs)) (checks_behind r (xs ++ (ys ++ zs)) vs e h)
