use Rattle.std.specs.Prelude.{take}
use Rattle.network_runner.specs.Making.{AreOutletsOf}
use Rattle.network_runner.proofs.making.outlets_of.Given as goal

abbrev pub invariant-loop-p : goal.invariant-loop-p
invariant-loop-p l = AreOutletsOf (take l.p l.outs) (take l.p l.open_outs) l.outlets.items
