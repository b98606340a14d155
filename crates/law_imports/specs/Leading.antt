-- Imports that lead from file to file, directly or indirectly, and what is wrong with one of them.
-- Trusted: part of what a promise means.
use Rattle.std.specs.Prelude.{◌≡◌, ℕ, List, [], ◌∷◌, None, Some, Contains}
use Rattle.cal_ast.specs.Tree as tree
use Rattle.cal_ast.specs.Tree.{Tree}
use Rattle.cal_imports.specs.Sources.{Source, dotted, imports_of, source_named}

-- the parts of a list of parts
abbrev pub listed_in : Tree → List Tree
listed_in (tree.cons t ts) = t ∷ listed_in ts
listed_in other = []

-- a file has an import of this class, whose word `import` stands at this place
pub record Imports (source : Source) (class : List ℕ) (at : ℕ) : Type 0 where
  pub path : Tree
  pub last : Tree
  pub is_import : Contains (listed_in (imports_of source.tree)) (tree.import_part path last at)
  pub is_path : dotted path ≡ class

-- Imports lead from one file to another, directly or indirectly: to itself, and to the file of each class that is
-- imported where they lead.
pub data LeadTo (files : List Source) (from : Source) : Source → Type 0 where
  itself : LeadTo files from from
  further : (source target : Source) (class : List ℕ) (at : ℕ) → LeadTo files from source
      → Imports source class at → source_named class files ≡ Some target → LeadTo files from target

-- an import at a place of a file, to which imports lead from the top
pub record ImportsAt (files : List Source) (top : Source) (file at : ℕ) (class : List ℕ) :
    Type 0 where
  pub source : Source
  pub is_led_to : LeadTo files top source
  pub is_file : source.file ≡ file
  pub imports : Imports source class at

-- this import names a class of which there is no file
pub record ImportsNoFile (files : List Source) (top : Source) (file at : ℕ) : Type 0 where
  pub class : List ℕ
  pub here : ImportsAt files top file at class
  pub missing : source_named class files ≡ None

-- this import stands on a circle: from the file that it names, imports lead back to its own
pub record ImportsInCircle (files : List Source) (top : Source) (file at : ℕ) : Type 0 where
  pub class : List ℕ
  pub here : ImportsAt files top file at class
  pub target : Source
  pub is_target : source_named class files ≡ Some target
  pub back : LeadTo files target here.source
