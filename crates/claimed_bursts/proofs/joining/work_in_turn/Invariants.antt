use Rattle.std.proofs.Common.{◌≡◌, ℕ, ◌+◌, ◌<◌, length}
use Rattle.std.specs.List.{AllWithin}
use Rattle.claimed_bursts.proofs.joining.work_in_turn.Given as goal

abbrev pub invariant-loop-k : goal.invariant-loop-k
invariant-loop-k g l =
    (length l.rights ≡ l.crew.count)
    × AllWithin (g.S.Source.has_ended l.source) l.rights 0 l.k
    × AllWithin (g.S.Source.may_draw l.source) l.rights l.k (length l.rights)
    × ((j : ℕ) → j < l.k → g.G.Gate.arrived l.gate l.crew.round (l.crew.first + j))
