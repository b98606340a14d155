-- The names of units that are kept by the units' classes, and what it means that they are right.
-- Not trusted: no promise is read with it.
use Rattle.std.specs.Prelude.{◌≡◌, ℕ, List, [], ◌∷◌, Option, None, Some, String, if◌then◌else◌, string_bytes}
use Rattle.std.specs.Str.{bytes_eq}
use Rattle.std.specs.declared.alloc.Global.{Global as Heap}
use Rattle.rvc_base.specs.Rules.{import_not_found}
use Rattle.cal_scope.specs.Names.{Global}
use Rattle.cal_imports.specs.Answer.{Answer, Gives, Refuses, in_file}
use Rattle.cal_imports.specs.Brought.{names_declared}
use Rattle.cal_imports.specs.Sources.{Source, body_of, source_named}

-- the names that the unit of a class declares
pub record Unit : Type 0 where
  pub class : List ℕ
  pub names : List Global

abbrev pub unit_with : (class : List ℕ) → (names : List Global) → Unit
unit_with class names = record { class = class; names = names }

abbrev pub unit_of : String Heap × List Global → Unit
unit_of e = unit_with (string_bytes e.0) e.1

abbrev pub unit_named : List ℕ → List Unit → Option (List Global)
unit_named class [] = None
unit_named class (u ∷ us) = if bytes_eq class u.class then Some u.names else unit_named class us

-- the names, if they are there
abbrev pub names_of : Option (List Global) → List Global
names_of (Some names) = names
names_of None = []

-- what a unit declares, if there is one, for an import at a place in a file
abbrev pub declared_by : Option Source → (file at : ℕ) → Answer (List Global)
declared_by None file at = Refuses import_not_found file at
declared_by (Some s) file at = in_file s.file (names_declared s.name (body_of s.tree))

-- the same of the unit of a class
abbrev pub declared_in : List Source → (class : List ℕ) → (file at : ℕ) → Answer (List Global)
declared_in files class file at = declared_by (source_named class files) file at

-- the names that are kept of a unit are those that it declares
abbrev pub AreDeclared : List Source → List Unit → Type 0
AreDeclared files kept = (class : List ℕ) (names : List Global) → unit_named class kept ≡ Some names
    → (file at : ℕ) → declared_in files class file at ≡ Gives names
