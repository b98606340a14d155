use Rattle.std.proofs.Common.{◌≡◌, List, ◌++◌, Err, sym, subst, rules}
use Rattle.cal_ast.specs.View.{expr_tree}
use Rattle.cal_model.specs.Kinding.{Names}
use Rattle.const_env.specs.Counting.{names_view}
use Rattle.cal_check.specs.Statements.{names_behind, starts_broken}
use Rattle.cal_check.specs.Violations.{Violation, broken, if_fine, said}
use Rattle.check_stmt.specs.Judging.{Checks, Refuses}
use Rattle.check_stmt.proofs.Said.{refuses_if_fine_said}
use Rattle.check_routine.specs.Heads.{value_broken, vars_tree}
use Rattle.check_routine.proofs.function.body.Goals as goal

pub returns-in_err-variables : goal.returns-in_err-variables
returns-in_err-variables c =
    let f = c.in_err-variables.field-0.0 in
    let names = names_view c.args.names.now in
    let vars = vars_tree c.args.declared.now in
    let inside : Names → List Violation = λ inner. value_broken c.args.t (expr_tree c.args.e.now) inner in
    let same : c.from_residual.result ≡ Err f = search rules in
    let refused : Refuses f (said c.args.passes (starts_broken vars names ++ broken (names_behind vars names))) = search rules in
    subst (λ r. Checks r (said c.args.passes (starts_broken vars names ++ if_fine (names_behind vars names) inside))) (sym same)
    (refuses_if_fine_said f c.args.passes (starts_broken vars names) (names_behind vars names) inside refused)
