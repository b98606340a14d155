use Rattle.trace_replay.proofs.Making.{AreMade}
use Rattle.trace_replay.proofs.holding.empty_stacks.Given as goal

abbrev pub invariant-loop-l : goal.invariant-loop-l
invariant-loop-l l = AreMade l.l l.links l.stacks.items
