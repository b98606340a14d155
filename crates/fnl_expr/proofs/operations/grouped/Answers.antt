use Rattle.std.proofs.Common.{◌≡◌, ◌<◌, ◌∷◌, ◌∙◌, Err, length, rules, sym, ap, subst, arith}
use Rattle.fnl_expr.specs.Operations.{joined, grouped}
use Rattle.fnl_expr.specs.Stack.{stack}
use Rattle.fnl_expr.specs.Answers.{Makes}
use Rattle.fnl_expr.specs.Views.{pending_of, tall_tree}
use Rattle.fnl_expr.proofs.Grouping.{more_joined, more_too_high}
use Rattle.fnl_expr.proofs.Making.{hands_on}
use Rattle.fnl_expr.proofs.Stacks.{stack_push, stack_size}
use Rattle.fnl_expr.proofs.operations.grouped.Goals as goal

pub returns-in_err-right : goal.returns-in_err-right
returns-in_err-right c =
    let same : c.from_residual.result ≡ Err c.in_err-right.field-0.0 = search rules in
    let left : 0 < length c.pop.new.self.items = omega (arith, c.row-test.true, c.len.ensures, c.in-Some.ensures.len, c.pop.new.self.ok, c.row.waiting.ok) in
    let some : 0 < length (stack pending_of c.pop.new.self.items) = omega (arith, left, stack_size pending_of c.pop.new.self.items) in
    let stacked : stack pending_of c.row.waiting.items ≡ pending_of c.in-Some.pending ∷ stack pending_of c.pop.new.self.items =
    ap (λ ws. stack pending_of ws) c.in-Some.ensures.items ∙ stack_push pending_of c.pop.new.self.items c.in-Some.pending in
    let meant = grouped c.args.at (stack pending_of c.args.waiting.items) (tall_tree c.args.operand) in
    subst (λ r. Makes tall_tree meant c.args.at r) (sym same)
    (hands_on tall_tree tall_tree (joined (pending_of c.in-Some.pending) (tall_tree c.row.right)) meant c.args.at c.in_err-right.field-0.0
    (λ none. c.row.invariant.0 ∙ more_too_high c.args.at (pending_of c.in-Some.pending) (stack pending_of c.row.waiting.items) (stack pending_of c.pop.new.self.items) (tall_tree c.row.right) stacked some none)
    c.in_err-right.ensures)

pub row-preserved : goal.row-preserved
row-preserved c =
    let left : 0 < length c.pop.new.self.items = omega (arith, c.row-test.true, c.len.ensures, c.in-Some.ensures.len, c.pop.new.self.ok, c.row.waiting.ok) in
    let some : 0 < length (stack pending_of c.pop.new.self.items) = omega (arith, left, stack_size pending_of c.pop.new.self.items) in
    let stacked : stack pending_of c.row.waiting.items ≡ pending_of c.in-Some.pending ∷ stack pending_of c.pop.new.self.items =
    ap (λ ws. stack pending_of ws) c.in-Some.ensures.items ∙ stack_push pending_of c.pop.new.self.items c.in-Some.pending in (
      c.row.invariant.0 ∙ more_joined c.args.at (pending_of c.in-Some.pending) (stack pending_of c.row.waiting.items) (stack pending_of c.pop.new.self.items) (tall_tree c.row.right) (tall_tree c.in_ok-right.right) stacked some c.in_ok-right.ensures,
      left,
    )
