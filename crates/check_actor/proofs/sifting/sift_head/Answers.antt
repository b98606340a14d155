use Rattle.cal_ast.specs.View.{function_tree}
use Rattle.cal_check.specs.Routines.{head_judged}
use Rattle.cal_check.specs.Violations.{broken}
use Rattle.const_env.specs.Counting.{names_view}
use Rattle.check_actor.proofs.Sifted.{few_broken, lacks_none}
use Rattle.check_actor.proofs.sifting.sift_head.Goals as goal

pub returns-in-Ok : goal.returns-in-Ok
returns-in-Ok c = lacks_none c.args.f.file (broken (head_judged (function_tree c.args.f.decl.now) (names_view c.args.names.now))) c.in-Ok.ensures

pub returns-in-Err : goal.returns-in-Err
returns-in-Err c =
    let j = head_judged (function_tree c.args.f.decl.now) (names_view c.args.names.now) in
    c.passed.ensures (broken j) (few_broken j) c.in-Err.ensures
