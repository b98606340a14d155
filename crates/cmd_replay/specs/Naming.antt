-- What instances are called in a trace.
-- Trusted: part of what a promise means.
use Rattle.std.specs.Prelude.{ℕ, List, [], ◌∷◌, ◌++◌, codes}

-- the path of an instance and its class, with a blank between them
abbrev pub name_of_instance : List ℕ → List ℕ → List ℕ
name_of_instance path class = path ++ codes " " ++ class

-- .. of each, as far as there are both
abbrev pub names_of_instances : List (List ℕ) → List (List ℕ) → List (List ℕ)
names_of_instances [] classes = []
names_of_instances (path ∷ paths) [] = []
names_of_instances (path ∷ paths) (class ∷ classes) =
    name_of_instance path class ∷ names_of_instances paths classes
