use Rattle.std.proofs.Common.{◌≡◌, length}
use Rattle.fnl_expr.specs.Operations.{before_operator}
use Rattle.fnl_expr.specs.Stack.{stack}
use Rattle.fnl_expr.specs.Views.{pending_of, tall_tree}
use Rattle.fnl_expr.proofs.operations.before_operator.Given as goal

abbrev pub invariant-due : goal.invariant-due
invariant-due l =
    before_operator l.op (stack pending_of l.initial.waiting.items) (tall_tree l.initial.right)
    ≡ before_operator l.op (stack pending_of l.waiting.items) (tall_tree l.right)

abbrev pub decreases-due : goal.decreases-due
decreases-due l = length l.waiting.items
