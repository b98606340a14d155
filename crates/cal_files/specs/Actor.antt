-- The actor of a class, with what its files lead to.
-- Trusted: part of what a promise means.
use Rattle.std.specs.Prelude.{◌≡◌, ℕ, List}
use Rattle.rvc_base.specs.declared.refusal.Refusal.{Refusal}
use Rattle.rvc_io.specs.Count.{HasRisen}
use Rattle.cal_imports.specs.Answer as answer
use Rattle.cal_imports.specs.Resolved.{resolved}
use Rattle.cal_imports.specs.Whole.{Scope}
use Rattle.cal_files.specs.Loading.{Counts, IsFaulted, IsLoaded, IsRefused, Library}
use Rattle.cal_files.specs.Reads.{Read, names_of, sources_of}
use Rattle.cal_files.specs.declared.fault.LoadFault.{LoadFault}
use Rattle.cal_files.specs.declared.fault.LoadFault.TheVariants.{Refused, ReadFault, Memory}

-- all files that the actor asks for are read, and its scope among them is this
pub record HasActor (library : Library) (top : List ℕ) (names : List (List ℕ)) (scope : Scope) : Type 0 where
  pub reads : List Read
  pub is_loaded : IsLoaded library top reads
  pub names_are : names ≡ names_of reads
  pub is_resolved : resolved (sources_of reads) top ≡ answer.Gives scope

-- all files are read, and a rule of scope is broken in one of them
pub record BreaksScope (library : Library) (top : List ℕ) (names : List (List ℕ)) (refusal : Refusal) : Type 0 where
  pub reads : List Read
  pub is_loaded : IsLoaded library top reads
  pub names_are : names ≡ names_of reads
  pub is_refused : resolved (sources_of reads) top
      ≡ answer.Refuses refusal.rule refusal.place.file refusal.place.offset

-- What refuses an actor: a file that is asked for, or a rule of scope in files that were all read.
pub data RefusesActor (library : Library) (top : List ℕ) (misses : Counts) (names : List (List ℕ)) (refusal : Refusal)
    : Type 0 where
  in_loading : IsRefused library top misses refusal names
      → RefusesActor library top misses names refusal
  in_scope : BreaksScope library top names refusal
      → RefusesActor library top misses names refusal

-- why no actor is given
abbrev pub IsActorFault : Library → (top : List ℕ) → (misses faults : Counts) → (names : List (List ℕ)) → LoadFault
    → Type 0
IsActorFault library top misses faults names (Refused refusal) =
    RefusesActor library top misses names refusal
IsActorFault library top misses faults names (ReadFault file) =
    HasRisen faults.old faults.new × IsFaulted library top file names
IsActorFault library top misses faults names Memory = Unit {0}
