use Rattle.std.proofs.Common.{sym, ap, subst, ◌∙◌}
use Rattle.cal_ast.specs.View.{expr_tree}
use Rattle.cal_model.specs.Kinding.{constant}
use Rattle.cal_model.specs.View.{value_view}
use Rattle.const_env.specs.Counting.{all_variables, inner_variables, names_inside}
use Rattle.const_env.specs.Outcome.{Evaluates}
use Rattle.const_expr.specs.Scoping.{calls, seen}
use Rattle.const_expr.proofs.Asked.{constant_alone, constant_among}
use Rattle.const_expr.proofs.constant_value.value_of.Goals as goal

pub returns-in-None : goal.returns-in-None
returns-in-None c = (
  c.eval.new.left,
  subst (λ o. Evaluates value_view c.eval.result c.eval.new.left o)
      (sym (ap (λ o. constant (expr_tree c.args.e.now) (names_inside (inner_variables o) c.args.names.now.env.now)) c.in-None.is
      ∙ constant_alone c.constants_are_values.ensures (expr_tree c.args.e.now) c.args.names.now.env.now (calls c.outermost.result) (seen c.outermost.result) c.all_turns-turns.result c.outermost.ensures.calls c.outermost.ensures.seen c.all_turns-turns.ensures)) c.eval.ensures,
)

pub returns-in-Some : goal.returns-in-Some
returns-in-Some c = (
  c.eval-in-Some.new.left,
  subst (λ o. Evaluates value_view c.eval-in-Some.result c.eval-in-Some.new.left o)
      (sym (ap (λ o. constant (expr_tree c.args.e.now) (names_inside (inner_variables o) c.args.names.now.env.now)) c.in-Some.is
      ∙ constant_among (expr_tree c.args.e.now) c.args.names.now.env.now (all_variables c.in-Some.inner.now) (calls c.among.result) (seen c.among.result) c.all_turns-turns.result c.among.ensures.calls c.among.ensures.seen c.all_turns-turns.ensures)) c.eval-in-Some.ensures,
)
