use Rattle.std.proofs.Common.{length, map}
use Rattle.cal_imports.specs.View.{sources}
use Rattle.fnl_tree.specs.View.{leaf_of}
use Rattle.check_leaves.proofs.Held.{IsGoing}
use Rattle.check_leaves.proofs.whole.check_leaves.Given as goal

abbrev pub invariant-leaves : goal.invariant-leaves
invariant-leaves l = IsGoing (sources l.files) (map leaf_of l.rest) (map leaf_of l.leaves) l.known

abbrev pub decreases-leaves : goal.decreases-leaves
decreases-leaves l = length l.rest
