-- What loading gives, without where it lies in memory.
-- Trusted: part of what a promise means.
use Rattle.std.specs.Prelude.{◌≡◌, ℕ, List, map, string_bytes}
use Rattle.rvc_io.specs.Count.{HasRisen}
use Rattle.cal_imports.specs.Sources.{Source}
use Rattle.cal_files.specs.Loading.{Counts, IsFaulted, IsLoaded, IsRefused, Library}
use Rattle.cal_files.specs.Reads.{Read, names_of, sources_of}
use Rattle.cal_files.specs.declared.fault.LoadFault.{LoadFault}
use Rattle.cal_files.specs.declared.fault.LoadFault.TheVariants.{Refused, ReadFault, Memory}
use Rattle.cal_files.specs.declared.names.Names.{Names}

-- the names of files: that of file k stands at place k - 1
abbrev pub file_names : Names → List (List ℕ)
file_names names = map string_bytes names.files.items

-- the files with their numbers, and their names
pub record HoldsFiles (reads : List Read) (sources : List Source) (names : List (List ℕ)) : Type 0 where
  pub sources_are : sources ≡ sources_of reads
  pub names_are : names ≡ names_of reads

-- all files that are asked for
pub record HoldsLoaded (library : Library) (top : List ℕ) (sources : List Source) (names : List (List ℕ)) : Type 0 where
  pub reads : List Read
  pub is_loaded : IsLoaded library top reads
  pub holds : HoldsFiles reads sources names

-- Why nothing is given: a file is refused, or the reading of one failed and was counted. Out of memory says nothing.
abbrev pub IsFault : Library → (top : List ℕ) → (misses faults : Counts) → (names : List (List ℕ)) → LoadFault
    → Type 0
IsFault library top misses faults names (Refused refusal) =
    IsRefused library top misses refusal names
IsFault library top misses faults names (ReadFault file) =
    HasRisen faults.old faults.new × IsFaulted library top file names
IsFault library top misses faults names Memory = Unit {0}

-- a reading failed, or memory ran out
abbrev pub IsOutside : LoadFault → Type 0
IsOutside (Refused refusal) = ⊥
IsOutside (ReadFault file) = Unit {0}
IsOutside Memory = Unit {0}
