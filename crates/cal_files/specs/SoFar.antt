-- A loading so far.
-- Not trusted: no promise is read with it.
use Rattle.std.specs.Prelude.{◌≡◌, ◌≤◌, ◌+◌, ℕ, suc, List, [], ◌∷◌, ◌++◌, length, map, string_bytes, is_some, if◌then◌else◌}
use Rattle.std.specs.declared.alloc.Global.{Global as Heap}
use Rattle.std.specs.declared.collections.VecDeque.{VecDeque}
use Rattle.rvc_base.specs.declared.refusal.Front.{Front}
use Rattle.rvc_base.specs.declared.refusal.Front.TheVariants as front
use Rattle.rvc_io.specs.Count.{HasRisen}
use Rattle.rvc_io.specs.Told.{Told}
use Rattle.cal_ast.specs.Tree as tree
use Rattle.cal_ast.specs.Tree.{Tree, listed}
use Rattle.cal_ast.specs.View.{ident_tree, import_tree}
use Rattle.cal_ast.specs.declared.file.Import.{Import}
use Rattle.cal_ast.specs.declared.ident.Ident.{Ident}
use Rattle.cal_imports.specs.Sources.{Source, imports_of, source_named}
use Rattle.cal_imports.specs.View.{new_source, sources}
use Rattle.cal_files.specs.FileText.{IsFile, IsText}
use Rattle.cal_files.specs.Loading.{AreRead, Counts, Library, Refuses, max_bytes, max_files, with_name}
use Rattle.cal_files.specs.Reads as plain
use Rattle.cal_files.specs.Reads.{Read, bytes_of, first_unread, import_requests, names_of, requests, sources_of}
use Rattle.cal_files.specs.declared.fault.LoadFault.{LoadFault}
use Rattle.cal_files.specs.declared.fault.LoadFault.TheVariants.{Refused, ReadFault, Memory}
use Rattle.cal_files.specs.declared.next_file.Loading.{Loading}
use Rattle.cal_files.specs.declared.requests.Request.{Request}

-- ---- parts of files as trees

abbrev pub names_tree : List Ident → Tree
names_tree names = listed (map ident_tree names)

abbrev pub imports_tree : List Import → Tree
imports_tree imports = listed (map import_tree imports)

-- ---- requests

abbrev pub request_of : Request → plain.Request
request_of q = record { class = string_bytes q.class; missing = q.missing }

abbrev pub waiting_of : VecDeque Request Heap → List plain.Request
waiting_of waiting = map request_of waiting.items

-- it is the request of this import
abbrev pub AsksFor : Request → (file : ℕ) → (imported : Tree) → Type 0
AsksFor q file imported =
    request_of q ∷ [] ≡ import_requests file (tree.cons imported tree.nil)

-- the requests from the first on whose class has no file among these
abbrev pub past_read : List Source → List plain.Request → List plain.Request
past_read files [] = []
past_read files (q ∷ qs) =
    if is_some (source_named q.class files) then past_read files qs else q ∷ qs

-- ---- faults

-- the fault of a reader of one file
abbrev pub of_front : Front → LoadFault
of_front (front.Refused refusal) = Refused refusal
of_front front.Memory = Memory

-- what is known where the file of a request isn't read: its number, the bytes and the names of the files before it
pub record Place : Type 0 where
  pub told : Told
  pub request : plain.Request
  pub number : ℕ
  pub bytes : ℕ
  pub names : List (List ℕ)

-- why the file isn't read, and which names stand then
abbrev pub IsStopped : Place → (misses faults : Counts) → (names : List (List ℕ)) → LoadFault → Type 0
IsStopped p misses faults names (Refused refusal) =
    Refuses p.told p.request p.number p.bytes misses p.names refusal names
IsStopped p misses faults names (ReadFault file) = HasRisen faults.old faults.new
    × (file ≡ p.number) × (names ≡ with_name p.request.class p.names)
IsStopped p misses faults names Memory = Unit {0}

-- .. although it was found with this text, whatever library told it
abbrev pub IsBroken : (text : List ℕ) → (request : plain.Request) → (number bytes : ℕ) → LoadFault → Type 0
IsBroken text q number bytes fault = (told : Told) (misses faults : Counts) (names : List (List ℕ)) → IsText told text
    → IsStopped (record { told = told; request = q; number = number; bytes = bytes; names = names })
    misses faults (with_name q.class names) fault

-- ---- how a loading stands

-- the files, how many bytes they have, and the requests that weren't looked at
pub record State : Type 0 where
  pub sources : List Source
  pub bytes : ℕ
  pub waiting : List plain.Request

abbrev pub state_of : Loading → State
state_of l = record { sources = sources l.set; bytes = l.bytes; waiting = waiting_of l.waiting }

-- the file of a class with this text was added, under this number
pub record AddsFile (class : List ℕ) (number : ℕ) (text : List ℕ) (tree : Tree) (old new : State) : Type 0 where
  pub sources_are : new.sources ≡ old.sources ++ new_source class number tree ∷ []
  pub bytes_are : new.bytes ≡ old.bytes + length text
  pub waiting_are : new.waiting ≡ old.waiting ++ import_requests number (imports_of tree)

-- .. which is within the limits
pub record AddsText (class : List ℕ) (number : ℕ) (text : List ℕ) (old new : State) : Type 0 where
  pub tree : Tree
  pub is_file : IsFile text tree
  pub few : number ≤ max_files
  pub small : old.bytes + length text ≤ max_bytes
  pub adds : AddsFile class number text tree old new

-- .. and was read, behind files of these names
pub record AddsRead (told : Told) (class : List ℕ) (names : List (List ℕ)) (old new : State) : Type 0 where
  pub text : List ℕ
  pub is_text : IsText told text
  pub adds : AddsText class (suc (length names)) text old new

-- whatever is read and asked for later, what is asked for next is asked for by those that wait
pub record IsWaiting (top : List ℕ) (done : List Read) (waiting : List plain.Request) : Type 0 where
  pub same_next : (later : List Read) (more : List plain.Request)
      → first_unread (done ++ later) (requests top done ++ more)
      ≡ first_unread (done ++ later) (waiting ++ more)

-- these files were read
pub record IsSoFar (library : Library) (top : List ℕ) (done : List Read) (names : List (List ℕ)) (s : State)
    : Type 0 where
  pub are_read : AreRead library top done
  pub sources_are : s.sources ≡ sources_of done
  pub names_are : names ≡ names_of done
  pub bytes_are : s.bytes ≡ bytes_of done
  pub few : length done ≤ max_files
  pub small : s.bytes ≤ max_bytes
  pub is_waiting : IsWaiting top done s.waiting

-- some were
pub record HasRead (library : Library) (top : List ℕ) (names : List (List ℕ)) (s : State) : Type 0 where
  pub done : List Read
  pub is_so_far : IsSoFar library top done names s

-- .. and of the library everything else is as it was
pub record IsLoading (old now : Library) (faults_old faults misses_old misses : ℕ) (top : List ℕ)
    (names : List (List ℕ)) (s : State) : Type 0 where
  pub has_read : HasRead old top names s
  pub same_files : (other : List ℕ) → now other ≡ old other
  pub faults_stay : faults_old ≤ faults
  pub misses_stay : misses_old ≤ misses
