use Rattle.std.proofs.Common.{◌∙◌}
use Rattle.cal_ast.specs.View.{type_arg_tree}
use Rattle.cal_parse_expr.proofs.Pushed.{pushed_high}
use Rattle.cal_parse_expr.proofs.types.with_type_arg.Goals as goal

pub invariant_of-result : goal.invariant_of-result
invariant_of-result c = record {
  is_high = c.max.ensures ∙ pushed_high type_arg_tree c.args.found.args.items c.args.next.arg.value c.in_ok-args.args.items c.args.found.high c.args.next.high c.in_ok-args.ensures c.args.found.is_high c.args.next.is_high;
}
