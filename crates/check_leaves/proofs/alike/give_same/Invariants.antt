use Rattle.std.proofs.Common.{◌≡◌, map, length}
use Rattle.fnl_tree.specs.View.{binding_of}
use Rattle.check_leaves.specs.Equal.{give_same}
use Rattle.check_leaves.proofs.alike.give_same.Given as goal

abbrev pub invariant-values : goal.invariant-values
invariant-values l = give_same (map binding_of l.rest) (map binding_of l.left)
    ≡ give_same (map binding_of l.initial.rest) (map binding_of l.initial.left)

abbrev pub decreases-values : goal.decreases-values
decreases-values l = length l.rest
