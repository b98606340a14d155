use Rattle.std.proofs.Common.{subst}
use Rattle.cal_ast.specs.View.{expr_tree}
use Rattle.const_env.specs.Held.{held}
use Rattle.const_expr.specs.Evaluable.{value_of}
use Rattle.const_env.specs.Outcome.{Stops}
use Rattle.const_eval.proofs.constant.eval_const.Goals as goal

pub returns-in-Err-Clashes-clause-not_constant : goal.returns-in-Err-Clashes-clause-not_constant
returns-in-Err-Clashes-clause-not_constant c = λ _ may. absurd (c.never_clashes.ensures (held c.args.env.now) (expr_tree c.args.e.now) may (subst (λ s. Stops s (value_of (expr_tree c.args.e.now) (held c.args.env.now))) c.in-Err-Clashes.field-0-is c.in-Err-Clashes.ensures.stop))
