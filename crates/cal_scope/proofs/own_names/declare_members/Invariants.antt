use Rattle.std.proofs.Common.{◌≡◌, length, map}
use Rattle.cal_ast.specs.Tree.{listed}
use Rattle.cal_ast.specs.View.{member_tree}
use Rattle.cal_scope.specs.Globals.{with_all_declared}
use Rattle.cal_scope.proofs.own_names.declare_members.Given as goal

abbrev pub invariant-members : goal.invariant-members
invariant-members l = with_all_declared l.before (listed (map member_tree l.rest)) l.names ≡ with_all_declared l.initial.before (listed (map member_tree l.initial.rest)) l.initial.names

abbrev pub decreases-members : goal.decreases-members
decreases-members l = length l.rest
