-- The last of several names.
use Rattle.std.proofs.Common.{◌≡◌, ℕ, false, List, [], ◌∷◌, ◌++◌, refl, ap}
use Rattle.fnl_markup.specs.Step.{last_name, other_names, is_nil}

pub last_added : (names : List (List ℕ)) (name : List ℕ) → last_name (names ++ name ∷ []) ≡ name
last_added [] name = refl
last_added (n ∷ []) name = refl
last_added (n ∷ m ∷ names) name = last_added (m ∷ names) name

pub others_kept : (names : List (List ℕ)) (name : List ℕ) → other_names (names ++ name ∷ []) ≡ names
others_kept [] name = refl
others_kept (n ∷ []) name = refl
others_kept (n ∷ m ∷ names) name = ap (λ rest. n ∷ rest) (others_kept (m ∷ names) name)

pub some_names : (names : List (List ℕ)) (name : List ℕ) → is_nil (names ++ name ∷ []) ≡ false
some_names [] name = refl
some_names (n ∷ names) name = refl
