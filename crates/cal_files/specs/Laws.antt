-- What holds of files as a library tells them.
-- Trusted: part of what a promise means.
use Rattle.std.specs.Prelude.{◌≡◌, ℕ, List}
use Rattle.rvc_base.specs.declared.refusal.Refusal.{Refusal}
use Rattle.cal_files.specs.Loading.{Counts, IsLoaded, IsRefused, Library, TellsAll}
use Rattle.cal_files.specs.Reads.{Read}

-- an actor has at most one list of files
abbrev pub LoadingsAreOne : Type 0
LoadingsAreOne = (library : Library) (top : List ℕ) (reads others : List Read) → TellsAll library
    → IsLoaded library top reads → IsLoaded library top others → reads ≡ others

-- if all its files are read, none is refused
abbrev pub LoadedIsNotRefused : Type 0
LoadedIsNotRefused = (library : Library) (top : List ℕ) (reads : List Read) (misses : Counts)
    (refusal : Refusal) (names : List (List ℕ)) → TellsAll library → IsLoaded library top reads
    → IsRefused library top misses refusal names → ⊥
