use Rattle.std.proofs.Common.{◌≡◌, length}
use Rattle.cal_scope.specs.Asked.{members_tree}
use Rattle.cal_imports.specs.Recursion.{with_routines}
use Rattle.cal_imports.proofs.recursion.add_routines.Given as goal

abbrev pub invariant-members : goal.invariant-members
invariant-members l = with_routines l.file (members_tree l.rest) l.nodes ≡ with_routines l.initial.file (members_tree l.initial.rest) l.initial.nodes

abbrev pub decreases-members : goal.decreases-members
decreases-members l = length l.rest
