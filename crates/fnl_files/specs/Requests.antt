-- What a top and its files ask for, and what is refused if it isn't there.
-- Trusted: part of what a promise means.
use Rattle.std.specs.Prelude.{◌≡◌, ◌⊎◌, ℕ, suc, true, false, List, [], ◌∷◌, ◌++◌, map}
use Rattle.std.specs.List.{AllByRecursion}
use Rattle.rvc_base.specs.Rules.{no_file, import_not_found}
use Rattle.rvc_base.specs.declared.refusal.Refusal.{Refusal}
use Rattle.rvc_io.specs.Count.{HasRisen}
use Rattle.cal_imports.specs.Sources.{imports_of}
use Rattle.cal_imports.specs.Walk.{Edge}
use Rattle.cal_imports.specs.Whole.{import_edges}
use Rattle.cal_files.specs.Loading.{Counts}
use Rattle.cal_files.specs.Reads.{refusal_at}
use Rattle.fnl_read.specs.Net.{Instance}
use Rattle.fnl_bind.specs.Library.{instance_class_at}
use Rattle.fnl_source.specs.Files.{Asked, a_class, a_network, an_actor, Choice, Content, Read, network, source, asked_by_import, asked_by_instance, is_network, is_read, name_of, wanted}

-- what is asked for, and what is refused if it has no file
pub record Request : Type 0 where
  pub asked : Asked
  pub missing : Refusal

-- the words ask for the top
abbrev pub top_request : (top : Asked) → Request
top_request top = record { asked = top; missing = refusal_at no_file 0 0 }

-- an instance asks for its class
abbrev pub instance_request : (file : ℕ) → Instance → Request
instance_request file i =
    record { asked = asked_by_instance i; missing = refusal_at no_file file (instance_class_at i) }

-- an import asks for a unit
abbrev pub import_request : (file : ℕ) → Edge → Request
import_request file e =
    record { asked = asked_by_import e; missing = refusal_at import_not_found file e.at }

-- what the file of a number asks for, in the order of its text
abbrev pub requests_by : (file : ℕ) → Content → List Request
requests_by file (network net) = map (instance_request file) net.instances
requests_by file (source tree) = map (import_request file) (import_edges (imports_of tree))

-- what files ask for, the first of which has this number
abbrev pub requests_from : (number : ℕ) → List Read → List Request
requests_from number [] = []
requests_from number (r ∷ rs) = requests_by number r.content ++ requests_from (suc number) rs

abbrev pub requests : (top : Asked) → List Read → List Request
requests top reads = top_request top ∷ requests_from 1 reads

-- the files of all of these are read
abbrev pub AreAllRead : Choice → List Read → List Request → Type 0
AreAllRead choice reads [] = Unit {0}
AreAllRead choice reads (q ∷ qs) =
    (is_read (wanted choice q.asked) reads ≡ true) × AreAllRead choice reads qs

-- a file of what is asked for is read: of a class that may be either, one of its files
abbrev pub IsServed : List Read → Asked → Type 0
IsServed reads (a_network class) =
    is_read (record { class = class; network = true }) reads ≡ true
IsServed reads (an_actor class) =
    is_read (record { class = class; network = false }) reads ≡ true
IsServed reads (a_class class) =
    (is_read (record { class = class; network = true }) reads ≡ true)
    ⊎ (is_read (record { class = class; network = false }) reads ≡ true)

abbrev pub AreServed : List Read → List Asked → Type 0
AreServed reads list = AllByRecursion (IsServed reads) list

-- of a class that may be either, and whose network isn't read, the file of the network was looked up and missed
abbrev pub IsTried : List Read → (misses : Counts) → Asked → Type 0
IsTried reads misses (a_network class) = Unit {0}
IsTried reads misses (an_actor class) = Unit {0}
IsTried reads misses (a_class class) =
    is_read (record { class = class; network = true }) reads ≡ false
    → HasRisen misses.old misses.new

abbrev pub AreTried : List Read → (misses : Counts) → List Asked → Type 0
AreTried reads misses list = AllByRecursion (IsTried reads misses) list

-- the names of files: that of file k stands at place k - 1
abbrev pub read_name : Read → List ℕ
read_name r = name_of (record { class = r.class; network = is_network r.content })

abbrev pub names_of : List Read → List (List ℕ)
names_of reads = map read_name reads
