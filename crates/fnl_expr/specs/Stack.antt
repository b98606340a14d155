-- A stack that is kept in a row, as a list with its top first.
-- Trusted: part of what a promise means.
use Rattle.std.specs.Prelude.{List, [], ◌∷◌, ◌++◌}

abbrev pub stack : {A B : Type 0} → (A → B) → List A → List B
stack f [] = []
stack f (x ∷ xs) = stack f xs ++ f x ∷ []
