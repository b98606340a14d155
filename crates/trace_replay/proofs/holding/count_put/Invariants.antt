use Rattle.trace_replay.proofs.Stacks.{IsCountingPut}
use Rattle.trace_replay.proofs.holding.count_put.Given as goal

abbrev pub invariant-loop-l : goal.invariant-loop-l
invariant-loop-l l = IsCountingPut l.l l.put l.initial.came l.came
