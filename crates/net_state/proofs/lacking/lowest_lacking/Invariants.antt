use Rattle.std.specs.Prelude.{◌-◌, length, map}
use Rattle.net_state.proofs.Lowest.{NoneBelow}
use Rattle.net_state.proofs.lacking.lowest_lacking.Given as goal

abbrev pub invariant-loop-l : goal.invariant-loop-l
invariant-loop-l g l = NoneBelow l.l (map g.A.Firing.cell l.cells) l.links l.capacities l.waited l.inst.0 l.action.0

abbrev pub decreases-loop-l : goal.decreases-loop-l
decreases-loop-l g l = length l.links - l.l
