-- The files that an actor needs, by what a library tells of them, and what refuses them.
-- Trusted: part of what a promise means.
use Rattle.std.specs.Prelude.{◌≡◌, ◌≤◌, ◌<◌, ◌+◌, ◌⊎◌, ℕ, List, [], ◌∷◌, ◌++◌, length, None, Some}
use Rattle.rvc_base.specs.Rules.{file_too_long, too_many_files}
use Rattle.rvc_base.specs.declared.refusal.Refusal.{Refusal}
use Rattle.rvc_base.specs.declared.refusal.Rule.{Rule}
use Rattle.rvc_io.specs.Count.{HasRisen}
use Rattle.rvc_io.specs.Library.{IsTooLong, max_file_bytes}
use Rattle.rvc_io.specs.Told.{Told, Untold, IsLacking}
use Rattle.cal_ast.specs.Tree.{Tree}
use Rattle.cal_files.specs.FileNames.{file_of}
use Rattle.cal_files.specs.FileText.{BreaksRules, IsFile, IsText}
use Rattle.cal_files.specs.Reads.{Read, Request, bytes_of, names_of, next_number, next_request, refusal_at}

-- what a library tells of each name
abbrev pub Library : Type 0
Library = List ℕ → Told

-- the most files, and the most bytes of them all
abbrev pub max_files : ℕ
max_files = 1024

abbrev pub max_bytes : ℕ
max_bytes = 16777216

-- ---- what is read

-- this file is read behind those before it
pub record IsNextRead (library : Library) (top : List ℕ) (before : List Read) (r : Read) : Type 0 where
  pub request : Request
  pub is_next : next_request top before ≡ Some request
  pub same_class : r.class ≡ request.class
  pub is_text : IsText (library (file_of r.class)) r.text
  pub is_file : IsFile r.text r.tree
  pub few : next_number before ≤ max_files
  pub small : bytes_of before + length r.text ≤ max_bytes

-- these files are read, one behind the other, behind those before them
abbrev pub AreReadBehind : Library → (top : List ℕ) → (before reads : List Read) → Type 0
AreReadBehind library top before [] = Unit {0}
AreReadBehind library top before (r ∷ rs) =
    IsNextRead library top before r × AreReadBehind library top (before ++ r ∷ []) rs

-- these files are read, one behind the other
abbrev pub AreRead : Library → (top : List ℕ) → (reads : List Read) → Type 0
AreRead library top reads = AreReadBehind library top [] reads

-- .. and they are all that are asked for
pub record IsLoaded (library : Library) (top : List ℕ) (reads : List Read) : Type 0 where
  pub are_read : AreRead library top reads
  pub whole : next_request top reads ≡ None

-- ---- what isn't read

-- the names with that of a class
abbrev pub with_name : (class : List ℕ) → List (List ℕ) → List (List ℕ)
with_name class names = names ++ file_of class ∷ []

-- how often something was counted, before and after
pub record Counts : Type 0 where
  pub old : ℕ
  pub new : ℕ

-- The file of a request, which would have this number behind so many bytes, is refused, and these names stand then: a
-- file that is found has its name there, one that is missing hasn't. The rules are tried in this order.
pub data Refuses (told : Told) (q : Request) (number bytes : ℕ) (misses : Counts) (names : List (List ℕ)) : Refusal
    → List (List ℕ) → Type 0 where
  is_missing : HasRisen misses.old misses.new → IsLacking told
      → Refuses told q number bytes misses names q.missing names
  is_too_long : IsTooLong told
      → Refuses told q number bytes misses names
      (refusal_at file_too_long number max_file_bytes) (with_name q.class names)
  breaks_rules : (text : List ℕ) (rule : Rule) (at : ℕ) → IsText told text → BreaksRules text rule at
      → Refuses told q number bytes misses names (refusal_at rule number at) (with_name q.class names)
  is_too_much : (text : List ℕ) (tree : Tree) → IsText told text → IsFile text tree
      → (max_files < number) ⊎ (max_bytes < bytes + length text)
      → Refuses told q number bytes misses names
      (refusal_at too_many_files number 0) (with_name q.class names)

-- a request stands behind files that were read, and nothing else is read before it
pub record StopsAt (library : Library) (top : List ℕ) (reads : List Read) (q : Request) : Type 0 where
  pub are_read : AreRead library top reads
  pub is_next : next_request top reads ≡ Some q

-- files are read up to one that is refused
pub record IsRefused (library : Library) (top : List ℕ) (misses : Counts) (refusal : Refusal) (names : List (List ℕ))
    : Type 0 where
  pub reads : List Read
  pub request : Request
  pub stops : StopsAt library top reads request
  pub refuses : Refuses (library (file_of request.class)) request (next_number reads) (bytes_of reads) misses
      (names_of reads) refusal names

-- files are read up to one whose reading fails: the last name is its own
pub record IsFaulted (library : Library) (top : List ℕ) (file : ℕ) (names : List (List ℕ)) : Type 0 where
  pub reads : List Read
  pub request : Request
  pub stops : StopsAt library top reads request
  pub file_is : file ≡ next_number reads
  pub names_are : names ≡ with_name request.class (names_of reads)

-- the library tells of each name whether it has a file, and its bytes
abbrev pub TellsAll : Library → Type 0
TellsAll library = (name : List ℕ) → library name ≡ Untold → ⊥
