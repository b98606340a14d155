use Rattle.std.specs.Prelude.{◌≡◌}
use Rattle.net_state.specs.Held.{seen}
use Rattle.net_state.proofs.Stacked.{IsPuttingBack}
use Rattle.net_state.proofs.network.NetState.put_back_all.Given as goal

abbrev pub invariant-loop-k : goal.invariant-loop-k
invariant-loop-k g l =
    IsPuttingBack l.link.0 l._k l.initial.stack.tokens l.stack.tokens (seen g.A.Firing.cell l.initial.self) (seen g.A.Firing.cell l.self)
    × (l.stack.capacity ≡ l.initial.stack.capacity)
