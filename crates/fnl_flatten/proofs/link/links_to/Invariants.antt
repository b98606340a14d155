use Rattle.std.proofs.Common.{length}
use Rattle.fnl_tree.specs.View.{tree_of}
use Rattle.fnl_flatten.specs.View.{heads_of}
use Rattle.fnl_flatten.proofs.Linking.{AddedUpTo}
use Rattle.fnl_flatten.proofs.link.links_to.Given as goal

abbrev pub invariant-joints : goal.invariant-joints
invariant-joints l = AddedUpTo (tree_of l.tree) (heads_of l.heads) l.rest l.initial.rest l.links.items

abbrev pub decreases-joints : goal.decreases-joints
decreases-joints l = length l.rest
