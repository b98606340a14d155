use Rattle.std.proofs.Common.{take}
use Rattle.code_ir.specs.Typing.{AreDistinct}
use Rattle.code_ir.proofs.places.first_wrong.Given as goal

abbrev pub invariant-loop-k : goal.invariant-loop-k
invariant-loop-k l = AreDistinct l.size (take l.k l.places)
