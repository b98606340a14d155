use Rattle.std.proofs.Common.{◌≡◌, length, [], map}
use Rattle.cal_ast.specs.Tree.{listed}
use Rattle.cal_ast.specs.View.{param_tree}
use Rattle.cal_scope.specs.Globals.{with_all_declared}
use Rattle.cal_scope.proofs.own_names.declare_params.Given as goal

abbrev pub invariant-params : goal.invariant-params
invariant-params l = with_all_declared [] (listed (map param_tree l.rest)) l.names ≡ with_all_declared [] (listed (map param_tree l.initial.rest)) l.initial.names

abbrev pub decreases-params : goal.decreases-params
decreases-params l = length l.rest
