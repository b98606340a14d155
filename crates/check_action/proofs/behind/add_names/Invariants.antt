use Rattle.std.proofs.Common.{◌≡◌, length, map, string_bytes}
use Rattle.cal_model.specs.Sound.{kind_of_tokens, with_pattern}
use Rattle.const_env.specs.declared.names.Names.{Names as DeclaredNames}
use Rattle.check_stmt.specs.Declaring.{seen_behind}
use Rattle.check_action.proofs.behind.add_names.Given as goal

abbrev pub invariant-names : goal.invariant-names
invariant-names l =
    (n : DeclaredNames) → with_pattern (kind_of_tokens l.t l.repeat) (map string_bytes l.rest) (seen_behind l.seen n)
    ≡ with_pattern (kind_of_tokens l.t l.repeat) (map string_bytes l.initial.rest) (seen_behind l.initial.seen n)

abbrev pub decreases-names : goal.decreases-names
decreases-names l = length l.rest
