use Rattle.std.proofs.Common.{◌≡◌, ℕ, ◌<◌, ◌==◌, false, get_or}
use Rattle.round_plan.proofs.turn.mark_turn.Given as goal

-- of the instances so far, the one whose turn it is is marked
abbrev pub invariant-loop-k : goal.invariant-loop-k
invariant-loop-k l = (k : ℕ) → k < l.k → get_or l.picked k false ≡ (k == l.turn)
