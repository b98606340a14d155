use Rattle.net_state.specs.Held.{seen}
use Rattle.trace_replay.proofs.Stacks.{IsPuttingEach}
use Rattle.trace_replay.proofs.holding.put_back_each.Given as goal

abbrev pub invariant-loop-l : goal.invariant-loop-l
invariant-loop-l g l =
    IsPuttingEach l.l (seen g.A.Firing.cell l.initial.state) (seen g.A.Firing.cell l.state) l.initial.stacks l.stacks l.put
