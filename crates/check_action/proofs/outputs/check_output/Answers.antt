use Rattle.cal_ast.specs.View.{output_tree}
use Rattle.const_env.specs.Counting.{names_view}
use Rattle.cal_check.specs.Actions.{output_judged}
use Rattle.check_stmt.proofs.Said.{fault_said}
use Rattle.check_action.proofs.outputs.check_output.Goals as goal

pub returns-in-Err : goal.returns-in-Err
returns-in-Err c = λ port.
    fault_said c.passed.result c.in-Err.fault c.args.passes (output_judged (output_tree c.args.o.now) port c.args.t (names_view c.args.names.now)) (c.in-Err.ensures port) c.passed.ensures
