use Rattle.std.proofs.Common.{◌≡◌, length}
use Rattle.cal_scope.specs.Asked.{ports_tree}
use Rattle.cal_imports.specs.Calls.{with_calls}
use Rattle.cal_imports.specs.CallsView.{calls_view}
use Rattle.cal_imports.proofs.stmt_calls.add_formals.Given as goal

abbrev pub invariant-formals : goal.invariant-formals
invariant-formals l = with_calls (ports_tree l.rest) (calls_view l.calls) ≡ with_calls (ports_tree l.initial.rest) (calls_view l.initial.calls)

abbrev pub decreases-formals : goal.decreases-formals
decreases-formals l = length l.rest
