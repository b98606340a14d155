use Rattle.std.proofs.Common.{◌≡◌, drop, map}
use Rattle.rvc_io.specs.Files.{named, are_distinct}
use Rattle.rvc_io.proofs.files.names_are_distinct.Given as goal

-- no file has the name of one before this place
abbrev pub invariant-loop-place : goal.invariant-loop-place
invariant-loop-place l = are_distinct (map named l.files) ≡ are_distinct (map named (drop l.place l.files))
