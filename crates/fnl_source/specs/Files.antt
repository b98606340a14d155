-- The files that a top needs, by what a library tells of their bytes.
--
-- The top is asked for first, and then what each file asks for, in the order of the files and of their texts: a network
-- asks for the class of each of its instances, an actor or a unit for the unit of each import. A class is a network if
-- the library has one of its name, and else an actor. Where a library doesn't tell whether it has one, either may be: what
-- is said of files is said of a choice that fits all that is told. A file is read where it is first asked for, and never
-- again; its number is the next one, from 1. What a text says is what its bytes spell, by the productions of its language.
-- Trusted: part of what a promise means.
use Rattle.std.specs.Prelude.{◌≡◌, ◌≤◌, ◌+◌, ℕ, suc, Bool, true, false, not, ◌&&◌, ◌||◌, List, [], ◌∷◌, ◌++◌, length, map, codes, Option, None, Some, if◌then◌else◌}
use Rattle.std.specs.Str.{bytes_eq}
use Rattle.rvc_io.specs.Told.{Told, Untold, Lacking, Holding}
use Rattle.cal_ast.specs.Tree.{Tree}
use Rattle.cal_imports.specs.Sources.{Source, dot, imports_of}
use Rattle.cal_imports.specs.View.{new_source}
use Rattle.cal_imports.specs.Walk.{Edge}
use Rattle.cal_imports.specs.Whole.{import_edges}
use Rattle.cal_files.specs.FileNames.{file_of, replaced, slash}
use Rattle.cal_files.specs.FileText.{IsFile, IsText}
use Rattle.cal_files.specs.Loading.{Library, max_bytes, max_files}
use Rattle.fnl_read.specs.Net.{Net, Instance}
use Rattle.fnl_grammar.specs.Laws.{IsNetworkFile}
use Rattle.fnl_bind.specs.Library.{Entry, instance_class}
use Rattle.fnl_source.specs.Source.{Files}

-- ---- what is asked for

-- a network, or an actor or a unit, or a class that may be either
pub data Asked : Type 0 where
  a_network : (class : List ℕ) → Asked
  an_actor : (class : List ℕ) → Asked
  a_class : (class : List ℕ) → Asked

abbrev pub class_asked : Asked → List ℕ
class_asked (a_network class) = class
class_asked (an_actor class) = class
class_asked (a_class class) = class

-- the network of the class `p.q.A` stands in the file `p/q/A.xdf`
abbrev pub network_file : (class : List ℕ) → List ℕ
network_file class = replaced dot slash class ++ codes ".xdf"

-- ---- which classes are networks

-- whether a class that may be either is taken as a network
abbrev pub Choice : Type 0
Choice = (class : List ℕ) → Bool

-- it is taken as one exactly if the file of its network is there, as far as that is told
abbrev pub FitsTold : Told → (network : Bool) → Type 0
FitsTold Untold network = Unit {0}
FitsTold Lacking network = network ≡ false
FitsTold (Holding bytes) network = network ≡ true

-- .. and so is each class
abbrev pub Fits : Library → Choice → Type 0
Fits library choice = (class : List ℕ)
    → FitsTold (library (network_file class)) (choice class)

-- the file that is wanted for what is asked: of which class, and whether that of its network
pub record Wanted : Type 0 where
  pub class : List ℕ
  pub network : Bool

abbrev pub wanted : Choice → Asked → Wanted
wanted choice (a_network class) = record { class = class; network = true }
wanted choice (an_actor class) = record { class = class; network = false }
wanted choice (a_class class) = record { class = class; network = choice class }

-- the name of its file
abbrev pub name_of : Wanted → List ℕ
name_of w = if w.network then network_file w.class else file_of w.class

-- ---- what is read

-- what a file says
pub data Content : Type 0 where
  network : Net → Content
  source : Tree → Content

abbrev pub is_network : Content → Bool
is_network (network net) = true
is_network (source tree) = false

-- a file that was read: the class that was asked for, its text, and what that says
pub record Read : Type 0 where
  pub class : List ℕ
  pub text : List ℕ
  pub content : Content

-- a text says what its bytes spell: a network, or a file of the language that isn't too high
pub data Says (text : List ℕ) : Bool → Content → Type 0 where
  says_network : {net : Net} → IsNetworkFile text net → Says text true (network net)
  says_source : {tree : Tree} → IsFile text tree → Says text false (source tree)

-- how many bytes files have in all
abbrev pub bytes_of : List Read → ℕ
bytes_of [] = 0
bytes_of (r ∷ rs) = length r.text + bytes_of rs

abbrev pub is_same_kind : Bool → Bool → Bool
is_same_kind one other = if one then other else not other

-- the file is read
abbrev pub is_read : Wanted → List Read → Bool
is_read w [] = false
is_read w (r ∷ rs) =
    (bytes_eq w.class r.class && is_same_kind w.network (is_network r.content)) || is_read w rs

-- ---- what is read next

abbrev pub asked_by_instance : Instance → Asked
asked_by_instance i = a_class (instance_class i)

abbrev pub asked_by_import : Edge → Asked
asked_by_import e = an_actor e.to

-- what a file asks for
abbrev pub asked_by : Content → List Asked
asked_by (network net) = map asked_by_instance net.instances
asked_by (source tree) = map asked_by_import (import_edges (imports_of tree))

abbrev pub asked_by_all : List Read → List Asked
asked_by_all [] = []
asked_by_all (r ∷ rs) = asked_by r.content ++ asked_by_all rs

-- the first of these whose file isn't read
abbrev pub first_unread : Choice → List Read → List Asked → Option Wanted
first_unread choice reads [] = None
first_unread choice reads (a ∷ others) =
    if is_read (wanted choice a) reads then first_unread choice reads others
    else Some (wanted choice a)

abbrev pub next_wanted : Choice → (top : Asked) → List Read → Option Wanted
next_wanted choice top reads = first_unread choice reads (top ∷ asked_by_all reads)

-- this file is read behind those before it
pub record IsNextRead (library : Library) (choice : Choice) (top : Asked) (before : List Read)
    (r : Read) : Type 0 where
  pub want : Wanted
  pub is_next : next_wanted choice top before ≡ Some want
  pub same_class : r.class ≡ want.class
  pub is_text : IsText (library (name_of want)) r.text
  pub says : Says r.text want.network r.content
  pub few : suc (length before) ≤ max_files
  pub small : bytes_of before + length r.text ≤ max_bytes

-- these files are read, one behind the other, behind those before them
abbrev pub AreReadBehind : Library → Choice → (top : Asked) → (before reads : List Read) → Type 0
AreReadBehind library choice top before [] = Unit {0}
AreReadBehind library choice top before (r ∷ rs) =
    IsNextRead library choice top before r
    × AreReadBehind library choice top (before ++ r ∷ []) rs

-- These files are read, one behind the other, and they are all that are asked for, by a choice that fits what the library
-- tells. If it tells of each name, there is one such choice.
pub record AreLoaded (library : Library) (top : Asked) (reads : List Read) : Type 0 where
  pub choice : Choice
  pub fits : Fits library choice
  pub are_read : AreReadBehind library choice top [] reads
  pub whole : next_wanted choice top reads ≡ None

-- ---- the files by their classes, with their numbers

abbrev pub networks_in : (class : List ℕ) → (file : ℕ) → Content → List Entry
networks_in class file (network net) = record { class = class; file = file; net = net } ∷ []
networks_in class file (source tree) = []

abbrev pub sources_in : (class : List ℕ) → (file : ℕ) → Content → List Source
sources_in class file (network net) = []
sources_in class file (source tree) = new_source class file tree ∷ []

abbrev pub networks_from : (number : ℕ) → List Read → List Entry
networks_from number [] = []
networks_from number (r ∷ rs) =
    networks_in r.class number r.content ++ networks_from (suc number) rs

abbrev pub sources_from : (number : ℕ) → List Read → List Source
sources_from number [] = []
sources_from number (r ∷ rs) =
    sources_in r.class number r.content ++ sources_from (suc number) rs

abbrev pub files_of : List Read → Files
files_of reads = record { networks = networks_from 1 reads; sources = sources_from 1 reads }
