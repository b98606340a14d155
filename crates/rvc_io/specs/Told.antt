-- What a library tells of a file.
-- Trusted: part of what a promise means.
use Rattle.std.specs.Prelude.{◌≡◌, ℕ, List}

-- what is known of a file: nothing, that there is none, or its bytes
pub data Told : Type 0 where
  Untold : Told
  Lacking : Told
  Holding : List ℕ → Told

-- these are the file's bytes, as far as that is told
abbrev pub IsTold : Told → List ℕ → Type 0
IsTold Untold bytes = Unit {0}
IsTold Lacking bytes = ⊥
IsTold (Holding told) bytes = bytes ≡ told

-- there is no such file, as far as that is told
abbrev pub IsLacking : Told → Type 0
IsLacking Untold = Unit {0}
IsLacking Lacking = Unit {0}
IsLacking (Holding told) = ⊥
