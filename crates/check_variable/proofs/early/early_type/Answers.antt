use Rattle.cal_ast.specs.View.{type_tree}
use Rattle.cal_model.specs.Kinding.{type_judged}
use Rattle.const_env.specs.Counting.{names_view}
use Rattle.check_variable.proofs.early.early_type.Goals as goal

pub returns-in-Err : goal.returns-in-Err
returns-in-Err c = c.type_not_yet.ensures (type_judged (type_tree c.args.t.now) (names_view c.args.names.now)) c.in-Err.ensures.judged
