use Rattle.std.proofs.Common.{◌≡◌, List, ◌++◌, Err, map, string_bytes, sym, ap, subst, ◌∙◌, rules}
use Rattle.cal_ast.specs.Tree.{listed}
use Rattle.cal_ast.specs.View.{expr_tree, stmt_tree, type_tree, var_tree}
use Rattle.cal_model.specs.Kinding.{Names, counter, with_known}
use Rattle.cal_model.specs.Value.{NumKind}
use Rattle.cal_model.specs.View.{proc_view}
use Rattle.const_env.specs.Counting.{inner_variables, names_inside, names_view}
use Rattle.cal_check.specs.Constants.{stored_kind}
use Rattle.cal_check.specs.Statements.{counter_judged, names_behind, starts_broken, statement_broken}
use Rattle.cal_check.specs.Violations.{Violation, broken, if_fine, said}
use Rattle.check_stmt.specs.Declaring.{range_broken, seen_behind}
use Rattle.check_stmt.specs.Judging.{Checks, Refuses}
use Rattle.check_stmt.proofs.Said.{checks_three_said, refuses_if_fine_said, refuses_three_said}
use Rattle.check_stmt.proofs.stmt.+stmt.Goals as goal

pub foreach_stmt-returns-in_err-range : goal.foreach_stmt-returns-in_err-range
foreach_stmt-returns-in_err-range t c =
    let same : c.from_residual.result ≡ Err c.in_err-range.field-0.0 = search rules in
    let names = names_view c.args.names.now in
    subst (λ r. Checks r (said c.args.passes (range_broken (type_tree c.args.shape.now) (expr_tree c.args.from.now) (expr_tree c.args.to.now) names (statement_broken (listed (map stmt_tree c.args.body.now)) (map proc_view c.args.procs.now) (with_known (counter (string_bytes c.args.name.now.text)) names))))) (sym same)
    (refuses_three_said c.in_err-range.field-0.0 c.args.passes (broken (counter_judged (type_tree c.args.shape.now) names)) (broken (stored_kind NumKind (expr_tree c.args.from.now) names)) (broken (stored_kind NumKind (expr_tree c.args.to.now) names))
    (statement_broken (listed (map stmt_tree c.args.body.now)) (map proc_view c.args.procs.now) (with_known (counter (string_bytes c.args.name.now.text)) names)) c.in_err-range.ensures)

pub foreach_stmt-returns : goal.foreach_stmt-returns
foreach_stmt-returns t c =
    let names = names_view c.args.names.now in
    let name : c.as_str.result.now ≡ string_bytes c.args.name.now.text = search rules in
    let seen : seen_behind c.in_ok-variables.variables c.args.names.now ≡ with_known (counter (string_bytes c.args.name.now.text)) names =
    ap (λ xs. names_inside xs c.args.names.now.env.now) (c.in_ok-variables.ensures (inner_variables c.args.names.now.inner)) ∙ ap (λ n. with_known (counter n) names) name in
    checks_three_said c.behind.result c.args.passes (broken (counter_judged (type_tree c.args.shape.now) names)) (broken (stored_kind NumKind (expr_tree c.args.from.now) names)) (broken (stored_kind NumKind (expr_tree c.args.to.now) names))
    (statement_broken (listed (map stmt_tree c.args.body.now)) (map proc_view c.args.procs.now) (with_known (counter (string_bytes c.args.name.now.text)) names)) c.in_ok-range.ensures
    (subst (λ ns. Checks c.behind.result (said c.args.passes (statement_broken (listed (map stmt_tree c.args.body.now)) (map proc_view c.args.procs.now) ns))) seen c.behind.ensures)

pub block-returns-in_err-variables : goal.block-returns-in_err-variables
block-returns-in_err-variables t c =
    let f = c.in_err-variables.field-0.0 in
    let names = names_view c.args.names.now in
    let vars = listed (map var_tree c.args.declared.now) in
    let inside : Names → List Violation = λ inner. statement_broken (listed (map stmt_tree c.args.body.now)) (map proc_view c.args.procs.now) inner in
    let same : c.from_residual.result ≡ Err f = search rules in
    let refused : Refuses f (said c.args.passes (starts_broken vars names ++ broken (names_behind vars names))) = search rules in
    subst (λ r. Checks r (said c.args.passes (starts_broken vars names ++ if_fine (names_behind vars names) inside))) (sym same)
    (refuses_if_fine_said f c.args.passes (starts_broken vars names) (names_behind vars names) inside refused)
