-- Ports that are judged one by one.
use Rattle.std.proofs.Common.{◌≡◌, List, [], ◌∷◌, ◌++◌, refl, sym, ap, subst, append-nil, append_assoc}
use Rattle.std.specs.Prelude.{Contains, Option, None, Some}
use Rattle.cal_model.specs.Kinding.{Judged, Fine}
use Rattle.const_env.specs.Judging.{Breaks}
use Rattle.const_env.specs.declared.fault.KindFault.{KindFault}
use Rattle.const_env.specs.declared.fault.KindFault.TheVariants as fault
use Rattle.check_stmt.specs.Judging.{Refuses}
use Rattle.cal_check.specs.Violations.{all_broken, and_all, broken}
use Rattle.cal_check.proofs.Lists.{at-head}
use Rattle.check_variable.specs.Faults.{behind}

pub breaks_first : {A : Type 0} (f : KindFault) (j : Judged A) (js : List (Judged A)) → Breaks f j → Refuses f (all_broken (j ∷ js))
breaks_first (fault.Broken rule at) j js h =
    subst (λ i. Contains (all_broken (i ∷ js)) (record { rule = rule; at = at })) (sym h) (at-head (record { rule = rule; at = at }) (record { rule = rule; at = at }) (all_broken js) refl)
breaks_first fault.Memory j js h = tt

pub fine_first : {A : Type 0} (a : A) (j : Judged A) (js : List (Judged A)) → j ≡ Fine a → all_broken (j ∷ js) ≡ all_broken js
fine_first a j js h = ap (λ i. broken i ++ all_broken js) h

pub behind_more : {A : Type 0} (xs : List A) (x : A) (o : Option (List A)) → behind (xs ++ x ∷ []) o ≡ behind xs (and_all (Some x) o)
behind_more xs x None = refl
behind_more xs x (Some ys) = ap Some (append_assoc xs (x ∷ []) ys)

pub behind_all : {A : Type 0} (xs : List A) → behind xs (Some []) ≡ Some xs
behind_all xs = ap Some (append-nil xs)
