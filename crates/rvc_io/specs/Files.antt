-- Files by name.
-- Trusted: part of what a promise means.
use Rattle.std.specs.Prelude.{ℕ, Bool, true, ◌&&◌, List, [], ◌∷◌, Option, None, Some, is_none, slice_index_or, String, if◌then◌else◌}
use Rattle.std.specs.Str.{bytes_eq}
use Rattle.std.specs.String.{string_bytes}
use Rattle.std.specs.Prelude.{Vec}
use Rattle.std.specs.declared.alloc.Global.{Global}

-- a file: its name and its bytes
pub record File : Type 0 where
  pub name : List ℕ
  pub bytes : List ℕ

-- a file as the code holds it
abbrev pub named : String Global × Vec ℕ Global → File
named f = record { name = string_bytes f.0; bytes = f.1.items }

-- the bytes under a name, if a file has it
abbrev pub under : List File → List ℕ → Option (List ℕ)
under [] name = None
under (f ∷ fs) name = if bytes_eq f.name name then Some f.bytes else under fs name

-- no two files have one name
abbrev pub are_distinct : List File → Bool
are_distinct [] = true
are_distinct (f ∷ fs) = is_none (under fs f.name) && are_distinct fs

-- the bytes of the file at a place
abbrev pub bytes_at : List File → ℕ → List ℕ
bytes_at files place = (slice_index_or files place (record { name = []; bytes = [] })).bytes
