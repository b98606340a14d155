use Rattle.std.proofs.Common.{map, string_bytes}
use Rattle.cal_ast.specs.Tree.{listed}
use Rattle.cal_ast.specs.View.{expr_tree}
use Rattle.const_env.specs.Counting.{names_view}
use Rattle.cal_check.specs.Statements.{assignment_judged}
use Rattle.cal_check.specs.Violations.{broken}
use Rattle.check_stmt.proofs.Said.{few_broken}
use Rattle.check_stmt.proofs.assign.check_assigned.Goals as goal

pub returns-in-Err : goal.returns-in-Err
returns-in-Err c =
    let j = assignment_judged (string_bytes c.args.name.now.text) c.args.name.now.at (listed (map expr_tree c.args.places.now)) (expr_tree c.args.value.now) (names_view c.args.names.now) in
    c.passed.ensures (broken j) (few_broken j) c.in-Err.ensures
