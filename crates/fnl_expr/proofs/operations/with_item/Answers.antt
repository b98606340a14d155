use Rattle.std.proofs.Common.{◌≡◌, ◌≤◌, ◌∙◌, max, arith}
use Rattle.cal_ast.specs.View.{expr_tree}
use Rattle.cal_grammar.specs.Operators.{max_height}
use Rattle.fnl_expr.proofs.Heights.{pushed_high}
use Rattle.fnl_expr.proofs.operations.with_item.Goals as goal

pub invariant_of-result : goal.invariant_of-result
invariant_of-result c = record {
  is_high = c.max-high.ensures ∙ pushed_high expr_tree c.args.items.exprs.items c.args.next.expr c.push.new.self.items c.args.items.high c.args.next.high c.in_ok-push.ensures.items c.args.items.is_high c.args.next.is_high;
  low =
      let same : c.max-high.result ≡ max c.args.items.high c.args.next.high = c.max-high.ensures in
      let one : c.args.items.high ≤ max_height = c.args.items.low in
      let other : c.args.next.high ≤ max_height = c.args.next.low in
      omega arith;
}
