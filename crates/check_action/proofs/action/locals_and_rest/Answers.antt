use Rattle.std.proofs.Common.{◌≡◌, List, ◌++◌, Err, map, sym, subst, rules}
use Rattle.cal_ast.specs.Tree.{listed}
use Rattle.cal_ast.specs.View.{body_tree, var_tree}
use Rattle.cal_model.specs.Kinding.{Names}
use Rattle.const_env.specs.Counting.{names_view}
use Rattle.cal_check.specs.Actions.{outputs_broken}
use Rattle.cal_check.specs.Statements.{names_behind, starts_broken, statement_broken}
use Rattle.cal_check.specs.Violations.{Violation, broken, said}
use Rattle.check_member.specs.Asking.{outputs_tree}
use Rattle.check_stmt.specs.Judging.{Checks, Refuses}
use Rattle.check_stmt.proofs.Said.{refuses_if_fine_said}
use Rattle.check_action.specs.Parts.{around_view, behind_guards}
use Rattle.check_action.proofs.action.locals_and_rest.Goals as goal

pub returns-in_err-locals : goal.returns-in_err-locals
returns-in_err-locals c =
    let f = c.in_err-locals.field-0.0 in
    let names = names_view c.args.names.now in
    let a = c.args.a.now in
    let around = around_view c.args.parts.now c.args.names.now in
    let vars = listed (map var_tree a.vars.items) in
    let inside : Names → List Violation = λ behind. statement_broken (body_tree a.body) around.procs behind ++ outputs_broken (outputs_tree a.outputs.items) around.outs behind in
    let same : c.from_residual.result ≡ Err f = search rules in
    let refused : Refuses f (said c.args.passes (starts_broken (listed (map var_tree c.deref.result.now)) names ++ broken (names_behind (listed (map var_tree c.deref.result.now)) names))) = search rules in
    subst (λ r. Checks r (said c.args.passes (behind_guards a around names))) (sym same)
    (refuses_if_fine_said f c.args.passes (starts_broken vars names) (names_behind vars names) inside
    (subst (λ vs. Refuses f (said c.args.passes (starts_broken (listed (map var_tree vs)) names ++ broken (names_behind (listed (map var_tree vs)) names)))) c.deref.ensures.value refused))
