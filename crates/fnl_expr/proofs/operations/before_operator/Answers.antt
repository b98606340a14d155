use Rattle.std.proofs.Common.{◌∷◌, ◌∙◌, Some, ap}
use Rattle.fnl_expr.specs.Operations.{pending}
use Rattle.fnl_expr.specs.Stack.{stack}
use Rattle.fnl_expr.specs.Views.{pending_of, tall_tree}
use Rattle.fnl_expr.proofs.Grouping.{not_due}
use Rattle.fnl_expr.proofs.Making.{pops_some, pops_none}
use Rattle.fnl_expr.proofs.Stacks.{stack_pushed, stack_smaller}
use Rattle.fnl_expr.proofs.operations.before_operator.Goals as goal

pub due-smaller : goal.due-smaller
due-smaller c =
    let popped = pops_some c.args.op (stack pending_of c.due.waiting.items) (stack pending_of c.pop_due.new.waiting.items) c.in_ok-pending.field-0 c.in-Some.pending c.in-Some.is c.in_ok-pending.ensures in
    stack_smaller pending_of c.due.waiting.items c.pop_due.new.waiting.items (pending_of c.in-Some.pending) popped.0

pub returns : goal.returns
returns c =
    let popped = pops_none c.args.op (stack pending_of c.due.waiting.items) (stack pending_of c.pop_due.new.waiting.items) c.in_ok-pending.field-0 c.in_default.not-Some c.in_ok-pending.ensures in
    c.due.invariant ∙ not_due c.args.op (stack pending_of c.due.waiting.items) (tall_tree c.due.right) popped.1
    ∙ ap Some (ap (λ ws. pending (tall_tree c.due.right) c.args.op ∷ ws) popped.0 ∙ stack_pushed pending_of c.pop_due.new.waiting.items c.push.new.self.items _ c.in_ok-push.ensures.items)
