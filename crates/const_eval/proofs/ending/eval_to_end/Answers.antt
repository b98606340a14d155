use Rattle.std.proofs.Common.{◌∙◌}
use Rattle.cal_ast.specs.View.{expr_tree}
use Rattle.const_env.specs.Held.{held}
use Rattle.const_expr.specs.Scoping.{calls, seen}
use Rattle.const_expr.proofs.Asked.{as_asked, stops_as_asked}
use Rattle.const_eval.proofs.ending.eval_to_end.Goals as goal

pub returns-in-Ok-clause-value : goal.returns-in-Ok-clause-value
returns-in-Ok-clause-value c = (c.eval.new.left, as_asked (expr_tree c.args.e.now) (held c.args.env.now) (calls c.outermost-scope.result) (seen c.outermost-scope.result) c.all_turns-turns.result c.outermost-scope.ensures.calls c.outermost-scope.ensures.seen c.all_turns-turns.ensures ∙ c.in-Ok.ensures)

pub returns-in-Err-clause-stop : goal.returns-in-Err-clause-stop
returns-in-Err-clause-stop c = stops_as_asked c.in-Err.stop (expr_tree c.args.e.now) (held c.args.env.now) (calls c.outermost-scope.result) (seen c.outermost-scope.result) c.all_turns-turns.result c.outermost-scope.ensures.calls c.outermost-scope.ensures.seen c.all_turns-turns.ensures c.in-Err.ensures
