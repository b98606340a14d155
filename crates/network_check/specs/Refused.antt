-- What refuses a top, by what a library tells of the files that it needs.
-- Trusted: part of what a promise means.
use Rattle.std.specs.Prelude.{◌≡◌, ℕ, List, [], ◌∷◌, map, None, Some}
use Rattle.rvc_base.specs.declared.refusal.Front.TheVariants as front
use Rattle.rvc_base.specs.declared.refusal.Refusal.{Refusal}
use Rattle.rvc_io.specs.Count.{HasRisen}
use Rattle.cal_files.specs.Loading.{Counts, Library}
use Rattle.cal_imports.specs.Answer.{Refuses}
use Rattle.cal_imports.specs.Resolved.{resolved}
use Rattle.cal_model.specs.Actor.{Actor}
use Rattle.fnl_bind.specs.Answers as binding
use Rattle.fnl_bind.specs.Library.{Entry, network_of}
use Rattle.fnl_bind.specs.Trees.{bound, violations}
use Rattle.fnl_flatten.specs.Flattened.{IsRefusal}
use Rattle.fnl_tree.specs.Tree.{Leaf, Tree}
use Rattle.check_leaves.specs.Leaves as leaves
use Rattle.check_leaves.specs.Leaves.{AreActorsOf}
use Rattle.fnl_files.specs.Loading.{IsFaulted, IsRefused}
use Rattle.fnl_files.specs.Requests.{names_of}
use Rattle.fnl_source.specs.Actors.{head_of}
use Rattle.fnl_source.specs.Files.{AreLoaded, Asked, Read, class_asked, files_of}
use Rattle.fnl_source.specs.Lone.{lone_leaf}
use Rattle.fnl_source.specs.Source.{Files, IsNamed, IsTree}
use Rattle.network_check.specs.declared.fault.BuildFault.{BuildFault}
use Rattle.network_check.specs.declared.fault.BuildFault.TheVariants.{Refused, ReadFault, Memory}

-- ---- rules that files break

-- The leaves of a class, before their actors are known: those of the tree of its network, which breaks no rule, or if it
-- has none, its actor alone.
pub data AreLeavesIn (files : Files) (class : List ℕ) : List Leaf → Type 0 where
  of_network : {top : Entry} → network_of class files.networks ≡ Some top
      → violations files.networks class ≡ []
      → AreLeavesIn files class (bound files.networks class).leaves
  of_actor : {name : List ℕ} → network_of class files.networks ≡ None → IsNamed files class name
      → AreLeavesIn files class (lone_leaf name class ∷ [])

-- Why files mean no network from a class down. The networks break a rule; or the class is that of an actor alone, and a
-- rule of scope is broken; or a leaf is no actor; or the leaves are actors, and the connections break a rule or a limit.
pub data Breaks (files : Files) (class : List ℕ) (r : Refusal) : Type 0 where
  in_networks : {top : Entry} → network_of class files.networks ≡ Some top
      → binding.IsRefused files.networks class (front.Refused r) → Breaks files class r
  in_scope : network_of class files.networks ≡ None
      → resolved files.sources class ≡ Refuses r.rule r.place.file r.place.offset
      → Breaks files class r
  in_leaves : {all : List Leaf} → AreLeavesIn files class all
      → leaves.IsRefusal files.sources all r → Breaks files class r
  in_links : {tree : Tree} (actors : List Actor) → IsTree files class tree
      → AreActorsOf files.sources tree.leaves actors
      → IsRefusal tree (map head_of actors) (front.Refused r) → Breaks files class r

-- ---- what refuses a top

-- all files that a top needs are read, and they break a rule
pub record BreaksRule (library : Library) (top : Asked) (names : List (List ℕ)) (r : Refusal) : Type 0 where
  pub reads : List Read
  pub are_loaded : AreLoaded library top reads
  pub names_are : names ≡ names_of reads
  pub breaks : Breaks (files_of reads) (class_asked top) r

-- a file that is asked for is refused, or all are read and break a rule
pub data RefusesTop (library : Library) (top : Asked) (misses : Counts) (names : List (List ℕ))
    (r : Refusal) : Type 0 where
  in_files : IsRefused library top misses r names → RefusesTop library top misses names r
  in_network : BreaksRule library top names r → RefusesTop library top misses names r

-- Why nothing is given: the top is refused, or the reading of a file failed and was counted. Out of memory says nothing.
abbrev pub IsFault : Library → (top : Asked) → (misses faults : Counts) → (names : List (List ℕ)) → BuildFault
    → Type 0
IsFault library top misses faults names (Refused r) = RefusesTop library top misses names r
IsFault library top misses faults names (ReadFault file) =
    HasRisen faults.old faults.new × IsFaulted library top misses file names
IsFault library top misses faults names Memory = Unit {0}

-- a reading failed, or memory ran out
abbrev pub IsOutside : BuildFault → Type 0
IsOutside (Refused r) = ⊥
IsOutside (ReadFault file) = Unit {0}
IsOutside Memory = Unit {0}
