use Rattle.std.proofs.Common.{◌∙◌}
use Rattle.cal_ast.specs.View.{gen_tree}
use Rattle.cal_parse_expr.proofs.Pushed.{pushed_high}
use Rattle.cal_parse_expr.proofs.types.with_gen.Goals as goal

pub invariant_of-result : goal.invariant_of-result
invariant_of-result c = record {
  is_high = c.max.ensures ∙ pushed_high gen_tree c.args.found.gens.items c.args.next.generator.value c.in_ok-gens.gens.items c.args.found.high c.args.next.high c.in_ok-gens.ensures c.args.found.is_high c.args.next.is_high;
}
