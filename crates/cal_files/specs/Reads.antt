-- Files that are read, in their order, and which class is asked for next.
--
-- The top is asked for first, and then the unit of each import, in the order of the files and of their texts. A class
-- is read where it is first asked for, and never again; its file has the next number, from 1.
-- Trusted: part of what a promise means.
use Rattle.std.specs.Prelude.{ℕ, Bool, suc, ◌+◌, List, [], ◌∷◌, ◌++◌, length, map, Option, None, Some, is_some, if◌then◌else◌}
use Rattle.rvc_base.specs.Rules.{no_file, import_not_found}
use Rattle.rvc_base.specs.declared.refusal.Refusal.{Refusal}
use Rattle.rvc_base.specs.declared.refusal.Rule.{Rule}
use Rattle.cal_ast.specs.Tree.{Tree}
use Rattle.cal_imports.specs.Sources.{Source, imports_of, source_named}
use Rattle.cal_imports.specs.View.{new_source}
use Rattle.cal_imports.specs.Walk.{Edge}
use Rattle.cal_imports.specs.Whole.{import_edges}
use Rattle.cal_files.specs.FileNames.{file_of}

-- a rule that is broken, in a file at a place
abbrev pub refusal_at : (rule : Rule) → (file at : ℕ) → Refusal
refusal_at rule file at = record { rule = rule; place = record { file = file; offset = at } }

-- ---- what was read

-- a file that was read: the class that was asked for, its text, and the tree that it spells
pub record Read : Type 0 where
  pub class : List ℕ
  pub text : List ℕ
  pub tree : Tree

-- these files with their numbers
abbrev pub sources_from : (number : ℕ) → List Read → List Source
sources_from number [] = []
sources_from number (r ∷ rs) = new_source r.class number r.tree ∷ sources_from (suc number) rs

abbrev pub sources_of : List Read → List Source
sources_of reads = sources_from 1 reads

-- their names: that of file k stands at place k - 1
abbrev pub names_of : List Read → List (List ℕ)
names_of reads = map (λ r. file_of r.class) reads

-- how many bytes they have in all
abbrev pub bytes_of : List Read → ℕ
bytes_of [] = 0
bytes_of (r ∷ rs) = length r.text + bytes_of rs

-- the number of the next file
abbrev pub next_number : List Read → ℕ
next_number reads = suc (length reads)

-- ---- what is asked for

-- a class that is asked for, and what is refused if it has no file
pub record Request : Type 0 where
  pub class : List ℕ
  pub missing : Refusal

-- the words ask for the top
abbrev pub top_request : (top : List ℕ) → Request
top_request top = record { class = top; missing = refusal_at no_file 0 0 }

-- an import asks for a unit
abbrev pub import_request : (file : ℕ) → Edge → Request
import_request file e =
    record { class = e.to; missing = refusal_at import_not_found file e.at }

abbrev pub import_requests : (file : ℕ) → (imports : Tree) → List Request
import_requests file imports = map (import_request file) (import_edges imports)

-- the imports of files, the first of which has this number
abbrev pub requests_from : (number : ℕ) → List Read → List Request
requests_from number [] = []
requests_from number (r ∷ rs) =
    import_requests number (imports_of r.tree) ++ requests_from (suc number) rs

abbrev pub requests : (top : List ℕ) → List Read → List Request
requests top reads = top_request top ∷ requests_from 1 reads

-- ---- what is read next

abbrev pub is_read : (class : List ℕ) → List Read → Bool
is_read class reads = is_some (source_named class (sources_of reads))

-- the first of these whose class isn't read
abbrev pub first_unread : List Read → List Request → Option Request
first_unread reads [] = None
first_unread reads (q ∷ qs) =
    if is_read q.class reads then first_unread reads qs else Some q

abbrev pub next_request : (top : List ℕ) → List Read → Option Request
next_request top reads = first_unread reads (requests top reads)
