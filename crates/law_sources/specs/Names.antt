-- The texts that stand for the variables, functions and procedures of an actor in files.
--
-- A declaration of another file has its unit's class and a dot before its name.
-- Trusted: part of what a promise means.
use Rattle.std.specs.Prelude.{◌≡◌, ℕ, List}
use Rattle.cal_model.specs.Sound.{AreDistinct, Each}
use Rattle.cal_check.specs.Sources.{names_of_source}
use Rattle.cal_imports.specs.Answer.{Gives}
use Rattle.cal_imports.specs.Resolved.{resolved}
use Rattle.cal_imports.specs.Sources.{Source}
use Rattle.cal_imports.specs.Whole.{Scope}
use Rattle.check_actor.specs.Sources.{source_of}
use Rattle.cal_files.specs.Actor.{HasActor}
use Rattle.cal_files.specs.FileText.{IsFile}
use Rattle.cal_files.specs.Loading.{IsLoaded, Library}
use Rattle.cal_files.specs.Reads.{Read, sources_of}
use Rattle.fnl_source.specs.Files as network
use Rattle.fnl_source.specs.Files.{AreLoaded, Asked, Says, files_of, is_network}

-- ---- files that texts spell

-- a file's tree is what some text spells
pub record IsSpelled (source : Source) : Type 0 where
  pub text : List ℕ
  pub is_file : IsFile text source.tree

-- .. and so is that of each of these
abbrev pub AreSpelled : List Source → Type 0
AreSpelled sources = Each IsSpelled sources

-- each of these files says what its text spells, whatever was told of the text
abbrev pub AreSaid : List network.Read → Type 0
AreSaid reads = Each (λ r. Says r.text (is_network r.content) r.content) reads

-- the files that are loaded for an actor are spelled
abbrev pub ActorFilesAreSpelled : Type 0
ActorFilesAreSpelled = (library : Library) (top : List ℕ) (reads : List Read)
    → IsLoaded library top reads → AreSpelled (sources_of reads)

-- .. and so are the actors and units among files that say what their texts spell
abbrev pub SaidFilesAreSpelled : Type 0
SaidFilesAreSpelled = (reads : List network.Read)
    → AreSaid reads → AreSpelled (files_of reads).sources

-- .. as among the files that are loaded for a network
abbrev pub NetworkFilesAreSpelled : Type 0
NetworkFilesAreSpelled = (library : Library) (top : Asked) (reads : List network.Read)
    → AreLoaded library top reads → AreSpelled (files_of reads).sources

-- ---- the texts that stand for an actor's declarations differ

-- no two texts stand for variables, functions and procedures of an actor in its scope that are equal
abbrev pub NamesDifferIn : Scope → Type 0
NamesDifferIn scope = AreDistinct (names_of_source (source_of scope))

-- .. if the actor and all that its imports lead to are files that texts spell
abbrev pub NamesDiffer : Type 0
NamesDiffer = (sources : List Source) (class : List ℕ) (scope : Scope)
    → AreSpelled sources → resolved sources class ≡ Gives scope → NamesDifferIn scope

-- .. of an actor with the files that it needs
abbrev pub ActorNamesDiffer : Type 0
ActorNamesDiffer = (library : Library) (top : List ℕ) (names : List (List ℕ)) (scope : Scope)
    → HasActor library top names scope → NamesDifferIn scope

-- .. of an actor among files that say what their texts spell
abbrev pub SaidNamesDiffer : Type 0
SaidNamesDiffer = (reads : List network.Read) (class : List ℕ) (scope : Scope)
    → AreSaid reads → resolved (files_of reads).sources class ≡ Gives scope → NamesDifferIn scope

-- .. as of one among the files that are loaded for a network
abbrev pub NetworkNamesDiffer : Type 0
NetworkNamesDiffer = (library : Library) (top : Asked) (reads : List network.Read)
    (class : List ℕ) (scope : Scope) → AreLoaded library top reads
    → resolved (files_of reads).sources class ≡ Gives scope → NamesDifferIn scope
