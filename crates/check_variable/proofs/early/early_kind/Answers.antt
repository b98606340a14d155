use Rattle.cal_ast.specs.View.{expr_tree}
use Rattle.cal_model.specs.View.{kind_view}
use Rattle.const_env.specs.Counting.{names_view}
use Rattle.cal_check.specs.Constants.{stored_kind}
use Rattle.check_variable.proofs.early.early_kind.Goals as goal

pub returns-in-Err : goal.returns-in-Err
returns-in-Err c = c.start_not_yet.ensures (stored_kind (kind_view c.args.k.now) (expr_tree c.args.e.now) (names_view c.args.names.now)) c.in-Err.ensures
