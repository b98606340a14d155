use Rattle.std.proofs.Common.{◌≡◌, ◌++◌, length, map, string_bytes}
use Rattle.cal_check.specs.Actions.{names_listed}
use Rattle.check_member.specs.Parts.{idents_tree}
use Rattle.check_build_action.proofs.inside.texts.Given as goal

abbrev pub invariant-names : goal.invariant-names
invariant-names l = map string_bytes l.texts.items ++ names_listed (idents_tree l.rest) ≡ names_listed (idents_tree l.initial.rest)

abbrev pub decreases-names : goal.decreases-names
decreases-names l = length l.rest
