-- Lists that are copied item by item.
use Rattle.std.proofs.Common.{◌≡◌, List, [], ◌∷◌, ◌++◌, map, ap, ◌∙◌, append_assoc}
use Rattle.std.proofs.lemmas.List.{map-append}

-- one more item was copied
pub more_copied : {A B : Type 0} (f : A → B) (old new : List A) (x : A) (y : B) (rest all : List B) → new ≡ old ++ x ∷ [] → f x ≡ y → map f old ++ (y ∷ rest) ≡ all → map f new ++ rest ≡ all
more_copied f old new x y rest all is same before =
    ap (λ xs. map f xs ++ rest) is ∙ ap (λ ys. ys ++ rest) (map-append f old (x ∷ [])) ∙ append_assoc (map f old) (f x ∷ []) rest ∙ ap (λ z. map f old ++ (z ∷ rest)) same ∙ before
