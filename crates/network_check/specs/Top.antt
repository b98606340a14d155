-- The top that the words name, as what is asked of a library.
--
-- `p/q/Net.xdf` asks for the network of the class `p.q.Net`, and `p/q/A.cal` for the actor of the class `p.q.A`.
-- Trusted: part of what a promise means.
use Rattle.std.specs.Prelude.{◌≡◌, ◌⊎◌, ◌==◌, ℕ, List, ◌++◌, codes, if◌then◌else◌}
use Rattle.std.specs.List.{after_first}
use Rattle.std.specs.Str.{bytes_eq}
use Rattle.cal_imports.specs.Sources.{dot}
use Rattle.cal_files.specs.FileNames.{class_of, path_of}
use Rattle.fnl_source.specs.Files.{Asked, Choice, a_network, an_actor, name_of, wanted}

-- what stands behind the first dot
abbrev pub ending_of : (file : List ℕ) → List ℕ
ending_of file = after_first (λ b. b == dot) file

-- a network, or an actor if the file has another ending
abbrev pub top_asked : (top : List ℕ) → Asked
top_asked top =
    if bytes_eq (ending_of top) (codes "xdf") then a_network (class_of top) else an_actor (class_of top)

-- ---- by which name it is read

-- a path without dots, and the ending of actors or of networks
abbrev pub IsTopFile : (top : List ℕ) → Type 0
IsTopFile top = (top ≡ path_of top ++ codes ".cal") ⊎ (top ≡ path_of top ++ codes ".xdf")

-- the file that is read for a top is that of exactly this name, whichever classes are networks
abbrev pub TopsAreRead : Type 0
TopsAreRead = (choice : Choice) (top : List ℕ) → IsTopFile top
    → name_of (wanted choice (top_asked top)) ≡ top
