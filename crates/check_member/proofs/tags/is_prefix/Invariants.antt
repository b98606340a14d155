use Rattle.std.proofs.Common.{◌≡◌, length, map, string_bytes}
use Rattle.cal_model.specs.Tags.{is_prefix_tag}
use Rattle.cal_check.specs.Actions.{names_listed}
use Rattle.check_member.specs.Parts.{idents_tree}
use Rattle.check_member.proofs.tags.is_prefix.Given as goal

abbrev pub invariant-parts : goal.invariant-parts
invariant-parts l =
    is_prefix_tag (names_listed (idents_tree l.rest)) (map string_bytes l.behind)
    ≡ is_prefix_tag (names_listed (idents_tree l.initial.rest)) (map string_bytes l.initial.behind)

abbrev pub decreases-parts : goal.decreases-parts
decreases-parts l = length l.rest
