-- The steps from files to a network that is checked.
-- Not trusted: no promise is read with it.
use Rattle.std.specs.Prelude.{◌≡◌, ◌⊎◌, ℕ, true, List, [], ◌∷◌, is_some, map}
use Rattle.rvc_base.specs.declared.refusal.Front.{Front}
use Rattle.rvc_base.specs.declared.refusal.Front.TheVariants as front
use Rattle.cal_files.specs.Loading.{Counts, Library}
use Rattle.cal_files.specs.declared.fault.LoadFault.{LoadFault}
use Rattle.cal_files.specs.declared.fault.LoadFault.TheVariants as load
use Rattle.cal_imports.specs.Sources.{source_named}
use Rattle.cal_model.specs.Actor.{Actor}
use Rattle.fnl_bind.specs.Library.{network_of}
use Rattle.fnl_flatten.specs.Flattened.{IsFlattened, IsRefusal}
use Rattle.fnl_tree.specs.Sound.{IsSound as IsSoundTree}
use Rattle.fnl_tree.specs.Tree.{Tree}
use Rattle.fnl_files.specs.Views.{files_in}
use Rattle.law_sources.specs.Names.{AreSpelled}
use Rattle.check_leaves.specs.Leaves.{AreActorsOf, IsWithin, actors_at_leaves}
use Rattle.check_leaves.specs.declared.found.LeafActors.{LeafActors}
use Rattle.fnl_source.specs.Actors.{head_of}
use Rattle.fnl_source.specs.Files.{Asked, Read, class_asked, files_of}
use Rattle.fnl_source.specs.Source.{Files, IsTree}
use Rattle.network_check.specs.Checked.{AreRead, CountsMisses, HasSource, StandAtLeaves}
use Rattle.network_check.specs.Refused.{AreLeavesIn, Breaks}
use Rattle.network_check.specs.declared.checked.Checked.{Checked}
use Rattle.network_check.specs.declared.held.Held.{Held}
use Rattle.network_check.specs.declared.fault.BuildFault.{BuildFault}
use Rattle.network_check.specs.declared.fault.BuildFault.TheVariants.{Refused, ReadFault, Memory}

-- ---- faults

abbrev pub of_load : LoadFault → BuildFault
of_load (load.Refused refusal) = Refused refusal
of_load (load.ReadFault file) = ReadFault file
of_load load.Memory = Memory

abbrev pub of_front : Front → BuildFault
of_front (front.Refused refusal) = Refused refusal
of_front front.Memory = Memory

-- ---- files

-- files that can be checked from a class down: there is one of the class
pub record AreReady (files : Files) (class : List ℕ) : Type 0 where
  pub has_top : (is_some (network_of class files.networks) ≡ true)
      ⊎ (is_some (source_named class files.sources) ≡ true)
  pub spelled : AreSpelled files.sources

-- ---- trees with their actors

-- the tree of a network's class, before its actors are known
pub record IsBare (files : Files) (class : List ℕ) (tree : Tree) : Type 0 where
  pub is_tree : IsTree files class tree
  pub sound_tree : IsSoundTree tree
  pub leaves : AreLeavesIn files class tree.leaves
  pub spelled : AreSpelled files.sources

-- there is one leaf, with its actor
pub record HasOne (found : LeafActors) : Type 0 where
  pub actor : Actor
  pub is : actors_at_leaves found ≡ actor ∷ []
  pub within : IsWithin found

-- the tree of a class, with its actors
pub record IsPeopled (files : Files) (class : List ℕ) (tree : Tree) (found : LeafActors) : Type 0 where
  pub is_tree : IsTree files class tree
  pub sound_tree : IsSoundTree tree
  pub are_actors : AreActorsOf files.sources tree.leaves (actors_at_leaves found)
  pub stand : StandAtLeaves found

-- its actors are joined
pub record IsJoined (tree : Tree) (found : LeafActors) (c : Checked) : Type 0 where
  pub same : c.actors ≡ found
  pub flat : IsFlattened tree (map head_of (actors_at_leaves found)) c.flat

-- .. or aren't
abbrev pub IsNotJoined : Tree → LeafActors → Front → Type 0
IsNotJoined tree found fault = IsRefusal tree (map head_of (actors_at_leaves found)) fault

-- ---- what is answered

-- a rule that files break; out of memory says nothing
abbrev pub IsWhy : Files → (class : List ℕ) → Front → Type 0
IsWhy files class (front.Refused r) = Breaks files class r
IsWhy files class front.Memory = Unit {0}

-- files were read, with what was checked of them
pub record IsHeld (library : Library) (top : Asked) (misses : Counts) (names : List (List ℕ)) (held : Held)
    : Type 0 where
  pub reads : List Read
  pub are_read : AreRead library top names reads
  pub files_are : files_in held.files ≡ files_of reads
  pub source : HasSource (files_in held.files) (class_asked top) held.checked
  pub missed : CountsMisses top misses held.checked.flat
