-- Files of a set, without where they lie in memory.
-- Trusted: part of what a promise means.
use Rattle.std.specs.Prelude.{ℕ, List, map, String, string_bytes}
use Rattle.std.specs.declared.alloc.Global.{Global as Heap}
use Rattle.cal_ast.specs.Tree.{Tree}
use Rattle.cal_ast.specs.View.{file_tree}
use Rattle.cal_imports.specs.Sources.{Source}
use Rattle.cal_imports.specs.declared.entry.Entry.{Entry}

-- a file under a class, with its number
abbrev pub new_source : (name : List ℕ) → (file : ℕ) → Tree → Source
new_source name file whole = record { name = name; file = file; tree = whole }

-- an entry under a class
abbrev pub source : (name : List ℕ) → Entry → Source
source name e = record { name = name; file = e.file; tree = file_tree e.tree }

abbrev pub source_of : String Heap × Entry → Source
source_of e = source (string_bytes e.0) e.1

-- files with their classes
abbrev pub Files : Type 0
Files = List (String Heap × Entry)

abbrev pub sources : Files → List Source
sources files = map source_of files
