use Rattle.std.proofs.Common.{◌≡◌, drop, map}
use Rattle.rvc_io.specs.Files.{named, under}
use Rattle.rvc_io.proofs.files.place_of.Given as goal

-- the files before this one don't have the name
abbrev pub invariant-loop-place : goal.invariant-loop-place
invariant-loop-place l = under (map named l.files) l.name ≡ under (map named (drop l.place l.files)) l.name
