use Rattle.std.specs.Prelude.{map}
use Rattle.net_state.proofs.Clearing.{IsClearing}
use Rattle.net_state.proofs.places.clear_all.Given as goal

abbrev pub invariant-loop-i : goal.invariant-loop-i
invariant-loop-i g l = IsClearing l.i (map g.A.Firing.cell l.initial.cells) (map g.A.Firing.cell l.cells)
