-- In which file a class stands (ISO/IEC 23001-4, RVC-CAL: packages and units).
-- Trusted: part of what a promise means.
use Rattle.std.specs.Prelude.{◌≡◌, ◌==◌, ℕ, List, ◌++◌, codes, map, if◌then◌else◌}
use Rattle.std.specs.List.{before_first}
use Rattle.cal_imports.specs.Sources.{dot}

abbrev pub slash : ℕ
slash = 47

-- a text with one byte in place of another
abbrev pub replaced : (mark other : ℕ) → (text : List ℕ) → List ℕ
replaced mark other text = map (λ b. if b == mark then other else b) text

-- the file of the class `p.q.A` is `p/q/A.cal`
abbrev pub file_of : (class : List ℕ) → List ℕ
file_of class = replaced dot slash class ++ codes ".cal"

-- what stands before the first dot
abbrev pub path_of : (file : List ℕ) → List ℕ
path_of file = before_first (λ b. b == dot) file

-- the class of the file `p/q/A.cal` is `p.q.A`
abbrev pub class_of : (file : List ℕ) → List ℕ
class_of file = replaced slash dot (path_of file)

-- the file's name is a path without dots, and the ending of actors and units
abbrev pub IsActorFile : (file : List ℕ) → Type 0
IsActorFile file = file ≡ path_of file ++ codes ".cal"
