use Rattle.std.proofs.Common.{◌≡◌, ◌<◌, length}
use Rattle.fnl_expr.specs.Operations.{grouped}
use Rattle.fnl_expr.specs.Stack.{stack}
use Rattle.fnl_expr.specs.Views.{pending_of, tall_tree}
use Rattle.fnl_expr.proofs.operations.grouped.Given as goal

abbrev pub invariant-row : goal.invariant-row
invariant-row l =
    (grouped l.at (stack pending_of l.initial.waiting.items) (tall_tree l.initial.right)
    ≡ grouped l.at (stack pending_of l.waiting.items) (tall_tree l.right))
    × (0 < length l.waiting.items)

abbrev pub decreases-row : goal.decreases-row
decreases-row l = length l.waiting.items
