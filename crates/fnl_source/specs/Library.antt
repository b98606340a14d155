-- The source network of a library: what the bytes of its files mean from a top down.
-- Trusted: part of what a promise means.
use Rattle.std.specs.Prelude.{◌≡◌, ℕ, List, [], map}
use Rattle.cal_model.specs.Selection.{State}
use Rattle.net_model.specs.Network.{Network}
use Rattle.cal_files.specs.Loading.{IsLoaded, Library, TellsAll}
use Rattle.cal_files.specs.Reads.{Read as ActorRead, sources_of}
use Rattle.fnl_source.specs.Files.{AreLoaded, Asked, Choice, Fits, Read, an_actor, class_asked, files_of, source}
use Rattle.fnl_source.specs.Source.{IsSourceNetwork}

-- all files that the top needs are read, and mean this network
pub record IsLibraryNetwork (library : Library) (top : Asked) (net : Network State) : Type 0 where
  pub reads : List Read
  pub are_loaded : AreLoaded library top reads
  pub means : IsSourceNetwork (files_of reads) (class_asked top) net

-- if a library tells of each name, one choice fits
abbrev pub ChoicesAreOne : Type 0
ChoicesAreOne = (library : Library) (one other : Choice) → TellsAll library
    → Fits library one → Fits library other → one ≡ other

-- .. so a top needs at most one list of files
abbrev pub FilesAreOne : Type 0
FilesAreOne = (library : Library) (top : Asked) (reads others : List Read) → TellsAll library
    → AreLoaded library top reads → AreLoaded library top others → reads ≡ others

-- .. and means at most one network
abbrev pub LibraryNetworksAreOne : Type 0
LibraryNetworksAreOne = (library : Library) (top : Asked) (net other : Network State)
    → TellsAll library
    → IsLibraryNetwork library top net → IsLibraryNetwork library top other → net ≡ other

-- a file that an actor needs, as a file of the library
abbrev pub as_read : ActorRead → Read
as_read r = record { class = r.class; text = r.text; content = source r.tree }

-- the files that are loaded for an actor are those that it needs as the top
abbrev pub ActorFilesAreLoaded : Type 0
ActorFilesAreLoaded = (library : Library) (top : List ℕ) (reads : List ActorRead)
    → IsLoaded library top reads → AreLoaded library (an_actor top) (map as_read reads)

-- .. and they are its sources, and no networks
abbrev pub ActorFilesAreSources : Type 0
ActorFilesAreSources = (reads : List ActorRead)
    → files_of (map as_read reads) ≡ record { networks = []; sources = sources_of reads }
