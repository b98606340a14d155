use Rattle.std.specs.Prelude.{map}
use Rattle.net_state.proofs.Counting.{IsCounting}
use Rattle.net_state.proofs.waiting.count_waiting.Given as goal

abbrev pub invariant-loop-l : goal.invariant-loop-l
invariant-loop-l g l = IsCounting l.l (map g.A.Firing.cell l.cells) l.links l.waited
