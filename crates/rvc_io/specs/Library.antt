-- When a file is too long.
-- Trusted: part of what a promise means.
use Rattle.std.specs.Prelude.{ℕ, ◌<◌, length}
use Rattle.rvc_io.specs.Told.{Told, Untold, Lacking, Holding}

-- the most bytes of a file
abbrev pub max_file_bytes : ℕ
max_file_bytes = 1048576

-- the file passes its limit, as far as that is told
abbrev pub IsTooLong : Told → Type 0
IsTooLong Untold = Unit {0}
IsTooLong Lacking = ⊥
IsTooLong (Holding bytes) = max_file_bytes < length bytes
