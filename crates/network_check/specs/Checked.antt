-- What a network that was checked is: the source network of the files that were read.
-- Trusted: part of what a promise means.
use Rattle.std.specs.Prelude.{◌≡◌, ℕ, ◌<◌, List, Contains, length, map, string_bytes}
use Rattle.cal_model.specs.Actor.{Actor}
use Rattle.cal_model.specs.Selection.{State}
use Rattle.cal_model.specs.Sound.{Each, IsSound}
use Rattle.net_model.specs.Network.{Network}
use Rattle.rvc_io.specs.Count.{HasRisen}
use Rattle.cal_files.specs.Loading.{Counts, Library}
use Rattle.lower_actor.specs.Leaves.{AreLeavesOf}
use Rattle.fnl_flatten.specs.declared.flat.Flat.{Flat}
use Rattle.check_leaves.specs.Leaves.{HasSoundActors, IsWithin, actors_at_leaves}
use Rattle.check_leaves.specs.declared.found.LeafActors.{LeafActors}
use Rattle.fnl_files.specs.Requests.{names_of}
use Rattle.fnl_source.specs.Answers.{HasWiring}
use Rattle.fnl_source.specs.Files.{AreLoaded, Asked, Read, a_class, a_network, an_actor, class_asked, files_of}
use Rattle.fnl_source.specs.Source.{Files, IsSourceNetwork}
use Rattle.network_check.specs.declared.checked.Checked.{Checked}

-- ---- the network that was checked

-- the network of these actors, one a leaf in instance order; its paths, classes, links and ports are those of a flat network
pub record IsNetworkOf (actors : List Actor) (flat : Flat) (net : Network State) : Type 0 where
  pub leaves : AreLeavesOf actors net.leaves
  pub paths_are : map (λ leaf. leaf.path) net.leaves ≡ map string_bytes flat.paths.items
  pub classes_are : map (λ leaf. leaf.class) net.leaves ≡ map string_bytes flat.classes.items
  pub wiring : HasWiring flat net

-- the network that was checked: its actors are sound
pub record HasNetwork (c : Checked) (net : Network State) : Type 0 where
  pub sound : Each IsSound (actors_at_leaves c.actors)
  pub is_net : IsNetworkOf (actors_at_leaves c.actors) c.flat net

-- ---- what it is

-- the actors are sound, each leaf has its actor, and each actor a leaf
pub record StandAtLeaves (found : LeafActors) : Type 0 where
  pub sound : HasSoundActors found
  pub within : IsWithin found
  pub used : (p : ℕ) → p < length found.actors.items → Contains found.of_leaf.items p

-- it is the network that files mean from a class down, with the actors of these
pub record HasSource (files : Files) (class : List ℕ) (c : Checked) : Type 0 where
  pub net : Network State
  pub has_net : HasNetwork c net
  pub means : IsSourceNetwork files class net
  pub same_actors : means.actors ≡ actors_at_leaves c.actors
  pub stand : StandAtLeaves c.actors

-- these files were read, which are all that the top needs, and these are their names
pub record AreRead (library : Library) (top : Asked) (names : List (List ℕ)) (reads : List Read) : Type 0 where
  pub are_loaded : AreLoaded library top reads
  pub names_are : names ≡ names_of reads

-- .. and what was checked is the network that they mean
pub record IsChecked (library : Library) (top : Asked) (names : List (List ℕ)) (c : Checked) : Type 0 where
  pub reads : List Read
  pub are_read : AreRead library top names reads
  pub source : HasSource (files_of reads) (class_asked top) c

-- An actor within a network was looked up as a network first, and missed: if there is one, a miss was counted.
abbrev pub CountsMisses : (top : Asked) → (misses : Counts) → Flat → Type 0
CountsMisses (a_network class) misses flat =
    0 < length flat.paths.items → HasRisen misses.old misses.new
CountsMisses (an_actor class) misses flat = Unit {0}
CountsMisses (a_class class) misses flat = Unit {0}

-- what was checked is at most one network
abbrev pub CheckedAreOne : Type 0
CheckedAreOne = (c : Checked) (net other : Network State)
    → HasNetwork c net → HasNetwork c other → net ≡ other
