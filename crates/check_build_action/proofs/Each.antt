-- Parts that are judged one by one.
use Rattle.std.proofs.Common.{◌≡◌, List, [], ◌∷◌, ◌++◌, map, Some, refl, sym, ap, subst, ◌∙◌}
use Rattle.std.proofs.lemmas.List.{map-append, append_assoc, append-nil}
use Rattle.cal_model.specs.Kinding.{Judged, Fine}
use Rattle.const_env.specs.Judging.{Breaks}
use Rattle.const_env.specs.declared.fault.KindFault.{KindFault}
use Rattle.cal_check.specs.Violations.{all_broken, all_fine, and_all, broken}
use Rattle.check_stmt.specs.Judging.{Refuses}
use Rattle.check_stmt.proofs.Checked.{refuses_broken, refuses_on}

pub all_are_fine : {A : Type 0} (xs : List A) → all_fine (map Fine xs) ≡ Some xs
all_are_fine [] = refl
all_are_fine (x ∷ xs) = ap (and_all (Some x)) (all_are_fine xs)

none_broken : {A : Type 0} (xs : List A) (js : List (Judged A)) → all_broken (map Fine xs ++ js) ≡ all_broken js
none_broken [] js = refl
none_broken (x ∷ xs) js = none_broken xs js

pub none_is_broken : {A : Type 0} (xs : List A) → all_broken (map Fine xs) ≡ []
none_is_broken [] = refl
none_is_broken (x ∷ xs) = none_is_broken xs

-- one part more is fine
pub each_next : {A : Type 0} (whole : List (Judged A)) (found more : List A) (a : A) (j : Judged A) (rest : List (Judged A)) → j ≡ Fine a → more ≡ found ++ a ∷ []
    → whole ≡ map Fine found ++ j ∷ rest → whole ≡ map Fine more ++ rest
each_next whole found more a j rest e m h =
    h ∙ ap (λ k. map Fine found ++ k ∷ rest) e
    ∙ sym (append_assoc (map Fine found) (Fine a ∷ []) rest)
    ∙ ap (λ ks. ks ++ rest) (sym (map-append Fine found (a ∷ []))) ∙ ap (λ xs. map Fine xs ++ rest) (sym m)

-- the next part is broken
pub each_breaks : {A : Type 0} (f : KindFault) (whole : List (Judged A)) (found : List A) (j : Judged A) (rest : List (Judged A)) → Breaks f j
    → whole ≡ map Fine found ++ j ∷ rest → Refuses f (all_broken whole)
each_breaks f whole found j rest b h =
    subst (Refuses f) (sym (ap all_broken h ∙ none_broken found (j ∷ rest)))
    (refuses_on f (broken j) (all_broken rest) (refuses_broken f j b))

-- no part is left
pub each_done : {A : Type 0} (whole : List (Judged A)) (found : List A) (rest : List (Judged A)) → rest ≡ [] → whole ≡ map Fine found ++ rest → whole ≡ map Fine found
each_done whole found rest e h = h ∙ ap (λ js. map Fine found ++ js) e ∙ append-nil (map Fine found)
