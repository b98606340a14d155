-- A stack that is kept in a row.
use Rattle.std.proofs.Common.{◌≡◌, suc, ◌<◌, List, [], ◌∷◌, ◌++◌, length, refl, sym, ap, ◌∙◌, arith}
use Rattle.std.proofs.lemmas.List.{length-append}
use Rattle.fnl_expr.specs.Stack.{stack}

pub stack_push : {A B : Type 0} → (f : A → B) (xs : List A) (x : A) → stack f (xs ++ x ∷ []) ≡ f x ∷ stack f xs
stack_push f [] x = refl
stack_push f (y ∷ xs) x = ap (λ rest. rest ++ f y ∷ []) (stack_push f xs x)

pub stack_size : {A B : Type 0} → (f : A → B) (xs : List A) → length (stack f xs) ≡ length xs
stack_size f [] = refl
stack_size f (x ∷ xs) = let one = length-append (stack f xs) (f x ∷ []) in let rest = stack_size f xs in omega arith

pub stack_smaller : {A B : Type 0} → (f : A → B) (xs ys : List A) (b : B) → stack f xs ≡ b ∷ stack f ys → length ys < length xs
stack_smaller f xs ys b e =
    let one : length (stack f xs) ≡ suc (length (stack f ys)) = ap length e in
    let before = stack_size f xs in
    let after = stack_size f ys in
    omega arith

pub stack_pushed : {A B : Type 0} → (f : A → B) (xs ys : List A) (x : A) → ys ≡ xs ++ x ∷ [] → f x ∷ stack f xs ≡ stack f ys
stack_pushed f xs ys x e = sym (stack_push f xs x) ∙ ap (stack f) (sym e)
