use Rattle.cal_ast.specs.View.{pattern_tree}
use Rattle.const_env.specs.Counting.{names_view}
use Rattle.cal_check.specs.Actions.{pattern_judged}
use Rattle.cal_check.specs.Violations.{broken}
use Rattle.check_stmt.proofs.Said.{few_broken}
use Rattle.check_action.proofs.pattern.other_pattern.Goals as goal

pub returns-in-Err : goal.returns-in-Err
returns-in-Err c =
    let j = pattern_judged (pattern_tree c.args.p.now) c.args.port (names_view c.args.names.now) in
    c.passed.ensures (broken j) (few_broken j) c.in-Err.ensures
