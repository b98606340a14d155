-- A list of files in other words: those to which imports lead from the top, each once.
-- Trusted: part of what a promise means.
use Rattle.std.specs.Prelude.{◌≡◌, ℕ, Bool, true, false, ◌||◌, List, [], ◌∷◌, ◌++◌}
use Rattle.std.specs.Str.{bytes_eq}
use Rattle.cal_imports.specs.Sources.{imports_of}
use Rattle.cal_imports.specs.Walk.{Edge}
use Rattle.cal_imports.specs.Whole.{import_edges}
use Rattle.cal_files.specs.Loading.{IsLoaded, Library}
use Rattle.cal_files.specs.Reads.{Read, is_read}

-- one of these imports asks for the class
abbrev pub leads_to : (class : List ℕ) → List Edge → Bool
leads_to class [] = false
leads_to class (e ∷ es) = bytes_eq class e.to || leads_to class es

-- one of these files imports it
abbrev pub is_imported : (class : List ℕ) → List Read → Bool
is_imported class [] = false
is_imported class (r ∷ rs) =
    leads_to class (import_edges (imports_of r.tree)) || is_imported class rs

-- each of these files is imported by one before it, and its class stands there once
abbrev pub AreImportedBehind : (before reads : List Read) → Type 0
AreImportedBehind before [] = Unit {0}
AreImportedBehind before (r ∷ rs) = (is_read r.class before ≡ false)
    × (is_imported r.class before ≡ true) × AreImportedBehind (before ++ r ∷ []) rs

-- The top stands first, and behind it the files to which imports lead, directly or indirectly: each but the top is
-- imported by one before it, each that one of them imports is there, and each is there once.
pub record AreReached (top : List ℕ) (reads : List Read) : Type 0 where
  pub first : Read
  pub others : List Read
  pub reads_are : reads ≡ first ∷ others
  pub is_top : first.class ≡ top
  pub are_imported : AreImportedBehind (first ∷ []) others
  pub are_all : (class : List ℕ) → is_imported class reads ≡ true → is_read class reads ≡ true

-- files that are loaded are these
abbrev pub LoadedAreReached : Type 0
LoadedAreReached = (library : Library) (top : List ℕ) (reads : List Read)
    → IsLoaded library top reads → AreReached top reads
