use Rattle.std.proofs.Common.{◌≡◌, ℕ, ◌+◌, ◌<◌, false, get_or}
use Rattle.rvc_base.specs.Picks.{number_at, has_highest_bit}
use Rattle.round_plan.proofs.seed.mark_by_sequence.Given as goal

-- the number so far, and the marks of the instances so far
abbrev pub invariant-loop-k : goal.invariant-loop-k
invariant-loop-k l =
    record { number : l.number ≡ number_at l.last l.k; marks : (k : ℕ) → k < l.k → get_or l.picked k false ≡ has_highest_bit (number_at l.last (k + 1)) }
