use Rattle.std.proofs.Common.{map}
use Rattle.cal_ast.specs.Tree.{listed}
use Rattle.cal_ast.specs.View.{expr_tree}
use Rattle.cal_model.specs.Statement.{proc_named}
use Rattle.cal_model.specs.View.{proc_view}
use Rattle.const_env.specs.Counting.{names_view}
use Rattle.cal_check.specs.Statements.{call_judged}
use Rattle.cal_check.specs.Violations.{broken}
use Rattle.check_stmt.proofs.Said.{few_broken}
use Rattle.check_stmt.proofs.proc_call.call.Goals as goal

pub returns-in-Err : goal.returns-in-Err
returns-in-Err c =
    let j = call_judged (proc_named c.args.name.now (map proc_view c.args.procs.now)) (listed (map expr_tree c.args.args.now)) c.args.at (names_view c.args.names.now) in
    c.passed.ensures (broken j) (few_broken j) c.in-Err.ensures
