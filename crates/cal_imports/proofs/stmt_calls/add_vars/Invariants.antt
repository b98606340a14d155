use Rattle.std.proofs.Common.{◌≡◌, length}
use Rattle.cal_scope.specs.Asked.{vars_tree}
use Rattle.cal_imports.specs.Calls.{with_calls}
use Rattle.cal_imports.specs.CallsView.{calls_view}
use Rattle.cal_imports.proofs.stmt_calls.add_vars.Given as goal

abbrev pub invariant-vars : goal.invariant-vars
invariant-vars l = with_calls (vars_tree l.rest) (calls_view l.calls) ≡ with_calls (vars_tree l.initial.rest) (calls_view l.initial.calls)

abbrev pub decreases-vars : goal.decreases-vars
decreases-vars l = length l.rest
