use Rattle.std.proofs.Common.{◌≡◌, ◌++◌, ◌-◌, length, drop}
use Rattle.fnl_flatten.specs.Readers.{leaf_readers}
use Rattle.fnl_flatten.specs.View.{heads_of}
use Rattle.fnl_flatten.proofs.readers.leaf_readers.Given as goal

abbrev pub invariant-leaves : goal.invariant-leaves
invariant-leaves l = l.readers.items ++ leaf_readers l.leaf (drop l.leaf (heads_of l.heads)) ≡ leaf_readers 0 (heads_of l.heads)

abbrev pub decreases-leaves : goal.decreases-leaves
decreases-leaves l = length (heads_of l.heads) - l.leaf
