-- A library in memory.
-- Trusted: part of what a promise means.
use Rattle.std.specs.Prelude.{ℕ, List, Option, None, Some}
use Rattle.rvc_io.specs.Told.{Told, Lacking, Holding}
use Rattle.rvc_io.specs.Calls.{CallCount}
use Rattle.rvc_io.specs.Files.{File, under}
use Rattle.rvc_io.specs.Past.{Done}

-- its files, its calls, how many names were found missing, and what was done
pub record LibraryState : Type 0 where
  pub files : List File
  pub calls : CallCount
  pub misses : ℕ
  pub past : List Done

-- what is told if all is told
abbrev pub told : Option (List ℕ) → Told
told None = Lacking
told (Some bytes) = Holding bytes

-- the bytes under a name, if there is such a file
abbrev pub bytes_of : LibraryState → List ℕ → Option (List ℕ)
bytes_of l name = under l.files name
