use Rattle.std.proofs.Common.{length}
use Rattle.lowered_actor.specs.Facts.{AreApart}
use Rattle.lowered_actor.proofs.saved.are_apart.Given as goal

abbrev pub invariant-cells : goal.invariant-cells
invariant-cells l = AreApart l.left → AreApart l.initial.left

abbrev pub decreases-cells : goal.decreases-cells
decreases-cells l = length l.left
