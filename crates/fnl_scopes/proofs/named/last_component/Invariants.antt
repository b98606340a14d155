use Rattle.std.proofs.Common.{◌≡◌, ◌+◌, ◌≤◌, ◌==◌, not, length, take}
use Rattle.std.specs.List.{suffix_len}
use Rattle.fnl_scopes.proofs.named.last_component.Given as goal

-- the bytes at the end that are no dots are all that were passed, and those at the end of what is left
abbrev pub invariant-bytes : goal.invariant-bytes
invariant-bytes l =
    (l.from ≤ length l.class) × (l.from + suffix_len (λ b. not (b == 46)) l.class ≡ length l.class + suffix_len (λ b. not (b == 46)) (take l.from l.class))

abbrev pub decreases-bytes : goal.decreases-bytes
decreases-bytes l = l.from
