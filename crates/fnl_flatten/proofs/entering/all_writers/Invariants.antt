use Rattle.std.proofs.Common.{◌-◌, length}
use Rattle.fnl_tree.specs.View.{tree_of}
use Rattle.fnl_flatten.specs.View.{heads_of}
use Rattle.fnl_flatten.proofs.EnteredUpTo.{NetsUpTo}
use Rattle.fnl_flatten.proofs.entering.all_writers.Given as goal

abbrev pub invariant-nets : goal.invariant-nets
invariant-nets l = NetsUpTo (tree_of l.tree) (heads_of l.heads) l.number l.writers

abbrev pub decreases-nets : goal.decreases-nets
decreases-nets l = length l.tree.nets.items - l.number
