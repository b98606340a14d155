-- What holds of files as a library tells them.
-- Trusted: part of what a promise means.
use Rattle.std.specs.Prelude.{◌≡◌, ℕ, true, List, ◌∷◌, is_some}
use Rattle.std.specs.List.{All}
use Rattle.rvc_base.specs.declared.refusal.Refusal.{Refusal}
use Rattle.rvc_io.specs.Count.{HasRisen}
use Rattle.cal_imports.specs.Sources.{source_named}
use Rattle.cal_files.specs.Loading.{Counts, Library, TellsAll}
use Rattle.fnl_bind.specs.Trees.{bound}
use Rattle.fnl_source.specs.Files.{AreLoaded, Asked, Read, asked_by_all, files_of}
use Rattle.fnl_files.specs.Loading.{IsRefused}
use Rattle.fnl_files.specs.Requests.{AreServed, AreTried}

-- if all files that a top needs are read, none is refused
abbrev pub LoadedIsNotRefused : Type 0
LoadedIsNotRefused = (library : Library) (top : Asked) (reads : List Read) (misses : Counts)
    (refusal : Refusal) (names : List (List ℕ)) → TellsAll library → AreLoaded library top reads
    → IsRefused library top misses refusal names → ⊥

-- all files that a top needs serve all that is asked for
abbrev pub LoadedAreServed : Type 0
LoadedAreServed = (library : Library) (top : Asked) (reads : List Read)
    → AreLoaded library top reads → AreServed reads (top ∷ asked_by_all reads)

-- files that serve all that is asked for have one for each actor of the tree that their networks make
abbrev pub LeavesHaveFiles : Type 0
LeavesHaveFiles = (reads : List Read) (top : Asked) (class : List ℕ)
    → AreServed reads (top ∷ asked_by_all reads)
    → All (λ leaf. is_some (source_named leaf.class (files_of reads).sources) ≡ true)
    (bound (files_of reads).networks class).leaves

-- .. and the class of each was looked up as a network before, and missed
abbrev pub LeavesAreTried : Type 0
LeavesAreTried = (reads : List Read) (misses : Counts) (top : Asked) (class : List ℕ)
    → AreTried reads misses (top ∷ asked_by_all reads)
    → All (λ leaf. HasRisen misses.old misses.new) (bound (files_of reads).networks class).leaves
