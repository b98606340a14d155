use Rattle.action_machine.specs.Kept.{AreZeros}
use Rattle.action_machine.proofs.making.zeros.Given as goal

abbrev pub invariant-loop-k : goal.invariant-loop-k
invariant-loop-k l = AreZeros l._k l.zeros.items
