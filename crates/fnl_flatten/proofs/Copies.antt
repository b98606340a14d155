-- Copies one after the other.
use Rattle.std.proofs.Common.{◌≡◌, List, [], ◌∷◌, ◌++◌, map, ap, ◌∙◌}
use Rattle.std.proofs.lemmas.List.{map-append, append_assoc}

pub more_copies : {A B : Type 0} (f : A → B) (old new : List A) (x : A) (y : B) (rest whole : List B) → new ≡ old ++ x ∷ [] → f x ≡ y
    → map f old ++ (y ∷ rest) ≡ whole → map f new ++ rest ≡ whole
more_copies f old new x y rest whole is same so_far =
    ap (λ xs. map f xs ++ rest) is
    ∙ ap (λ ys. ys ++ rest) (map-append f old (x ∷ []))
    ∙ append_assoc (map f old) (f x ∷ []) rest
    ∙ ap (λ z. map f old ++ (z ∷ rest)) same
    ∙ so_far
