use Rattle.fnl_tree.specs.View.{leaf_of}
use Rattle.check_leaves.specs.Finding.{all_linked, leaves_of}
use Rattle.check_leaves.proofs.Chain.{IsSearched, rank}
use Rattle.check_leaves.proofs.find.find.Given as goal

abbrev pub invariant-class : goal.invariant-class
invariant-class l = IsSearched (leaves_of (all_linked l.firsts)) (leaf_of l.leaf) l.next

abbrev pub decreases-class : goal.decreases-class
decreases-class l = rank l.next
