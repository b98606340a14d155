use Rattle.std.proofs.Common.{length}
use Rattle.fnl_tree.specs.View.{tree_of}
use Rattle.fnl_flatten.specs.Origins.{rank}
use Rattle.fnl_flatten.specs.View.{heads_of}
use Rattle.fnl_flatten.proofs.Walking.{Walked}
use Rattle.fnl_flatten.proofs.origin.origin.Given as goal

abbrev pub invariant-walk : goal.invariant-walk
invariant-walk l = Walked (tree_of l.fn.tree) (heads_of l.fn.heads) l.fn.joint l.current l.size

abbrev pub decreases-walk : goal.decreases-walk
decreases-walk l = rank (length (tree_of l.fn.tree).nets) l.current
