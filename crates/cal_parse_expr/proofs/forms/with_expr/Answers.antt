use Rattle.std.proofs.Common.{◌∙◌}
use Rattle.cal_ast.specs.View.{expr_tree}
use Rattle.cal_parse_expr.proofs.Pushed.{pushed_high}
use Rattle.cal_parse_expr.proofs.forms.with_expr.Goals as goal

pub invariant_of-result : goal.invariant_of-result
invariant_of-result c = record {
  is_high = c.max.ensures ∙ pushed_high expr_tree c.args.found.exprs.items c.args.next.expr.value c.in_ok-exprs.exprs.items c.args.found.high c.args.next.high c.in_ok-exprs.ensures c.args.found.is_high c.args.next.is_high;
}
