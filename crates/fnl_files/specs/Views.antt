-- What loading gives, without where it lies in memory.
-- Trusted: part of what a promise means.
use Rattle.std.specs.Prelude.{◌≡◌, ◌⊎◌, ℕ, true, List, ◌∷◌, is_some}
use Rattle.rvc_io.specs.Count.{HasRisen}
use Rattle.cal_imports.specs.Sources.{source_named}
use Rattle.cal_imports.specs.View.{sources}
use Rattle.cal_files.specs.Loading.{Counts, Library}
use Rattle.cal_files.specs.declared.fault.LoadFault.{LoadFault}
use Rattle.cal_files.specs.declared.fault.LoadFault.TheVariants.{Refused, ReadFault, Memory}
use Rattle.fnl_bind.specs.Library.{network_of}
use Rattle.fnl_bind.specs.View.{networks}
use Rattle.fnl_source.specs.Files.{AreLoaded, Asked, Read, a_class, a_network, an_actor, asked_by_all, files_of}
use Rattle.fnl_source.specs.Source.{Files}
use Rattle.fnl_files.specs.Loading.{IsFaulted, IsRefused}
use Rattle.fnl_files.specs.Requests.{AreTried, names_of}
use Rattle.fnl_files.specs.declared.kind.FileKind.{FileKind}
use Rattle.fnl_files.specs.declared.kind.FileKind.TheVariants as kinds
use Rattle.fnl_files.specs.declared.files.NetworkFiles.{NetworkFiles}

-- what is asked for by a class and a kind of file
abbrev pub asked_of : (class : List ℕ) → FileKind → Asked
asked_of class kinds.Network = a_network class
asked_of class kinds.Actor = an_actor class
asked_of class kinds.Either = a_class class

-- the files by their classes, with their numbers
abbrev pub files_in : NetworkFiles → Files
files_in f = record { networks = networks f.networks; sources = sources f.sources }

-- these files, and their names
pub record HoldsFiles (reads : List Read) (files : Files) (names : List (List ℕ)) : Type 0 where
  pub files_are : files ≡ files_of reads
  pub names_are : names ≡ names_of reads

-- a file of what is asked for is among these: of a class that may be either, one of its files
abbrev pub HasFile : Asked → Files → Type 0
HasFile (a_network class) files = is_some (network_of class files.networks) ≡ true
HasFile (an_actor class) files = is_some (source_named class files.sources) ≡ true
HasFile (a_class class) files = (is_some (network_of class files.networks) ≡ true)
    ⊎ (is_some (source_named class files.sources) ≡ true)

-- these files are all that the top needs, and a class is an actor only if the file of its network was looked up and missed
pub record HoldsLoaded (library : Library) (top : Asked) (misses : Counts) (files : Files) (names : List (List ℕ))
    : Type 0 where
  pub reads : List Read
  pub are_loaded : AreLoaded library top reads
  pub are_tried : AreTried reads misses (top ∷ asked_by_all reads)
  pub holds : HoldsFiles reads files names

-- Why nothing is given: a file is refused, or the reading of one failed and was counted. Out of memory says nothing.
abbrev pub IsFault : Library → (top : Asked) → (misses faults : Counts) → (names : List (List ℕ)) → LoadFault
    → Type 0
IsFault library top misses faults names (Refused refusal) =
    IsRefused library top misses refusal names
IsFault library top misses faults names (ReadFault file) =
    HasRisen faults.old faults.new × IsFaulted library top misses file names
IsFault library top misses faults names Memory = Unit {0}
