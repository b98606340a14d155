use Rattle.cal_ast.specs.View.{expr_tree}
use Rattle.cal_check.specs.Constants.{stored_kind}
use Rattle.cal_model.specs.View.{kind_view}
use Rattle.const_env.specs.Held.{names_in}
use Rattle.fnl_values.proofs.early.early_kind.Goals as goal

pub returns-in-Err : goal.returns-in-Err
returns-in-Err c = c.late_in_expr.ensures (stored_kind (kind_view c.args.k.now) (expr_tree c.args.e.now) (names_in c.args.env.now)) c.in-Err.ensures
