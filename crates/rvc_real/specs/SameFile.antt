-- What makes two names those of one file.
-- Trusted: part of what a promise means.
use Rattle.std.specs.Prelude.{Bool, ◌&&◌, ◌==◌}
use Rattle.rvc_real.specs.declared.seen_files.FileId.{FileId}

-- both have one device, and one number there
abbrev pub is_same_file : FileId → FileId → Bool
is_same_file file other = (file.device == other.device) && (file.number == other.number)
