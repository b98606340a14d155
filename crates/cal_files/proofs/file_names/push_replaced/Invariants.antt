use Rattle.std.proofs.Common.{◌≡◌, length, ◌++◌, IsUtf8}
use Rattle.std.specs.Prelude.{string_bytes}
use Rattle.cal_files.specs.FileNames.{replaced}
use Rattle.cal_files.proofs.file_names.push_replaced.Given as goal

abbrev pub invariant-parts : goal.invariant-parts
invariant-parts l = IsUtf8 l.rest × (string_bytes l.text ++ replaced l.mark l.other l.rest ≡ string_bytes l.initial.text ++ replaced l.initial.mark l.initial.other l.initial.rest)

abbrev pub decreases-parts : goal.decreases-parts
decreases-parts l = length l.rest
