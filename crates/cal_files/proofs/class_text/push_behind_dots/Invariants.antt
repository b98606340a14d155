use Rattle.std.proofs.Common.{◌≡◌, length, ◌++◌}
use Rattle.std.specs.Prelude.{string_bytes}
use Rattle.cal_imports.specs.Sources.{behind_dots}
use Rattle.cal_files.specs.SoFar.{names_tree}
use Rattle.cal_files.proofs.class_text.push_behind_dots.Given as goal

abbrev pub invariant-names : goal.invariant-names
invariant-names l = string_bytes l.text ++ behind_dots (names_tree l.rest) ≡ string_bytes l.initial.text ++ behind_dots (names_tree l.initial.rest)

abbrev pub decreases-names : goal.decreases-names
decreases-names l = length l.rest
