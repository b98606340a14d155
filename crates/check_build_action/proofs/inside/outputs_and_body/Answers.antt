use Rattle.std.proofs.Common.{◌≡◌, Err, sym, subst, rules}
use Rattle.cal_ast.specs.View.{body_tree}
use Rattle.cal_check.specs.Actions.{outputs_broken}
use Rattle.cal_check.specs.Statements.{statement_broken}
use Rattle.const_env.specs.Counting.{names_view}
use Rattle.check_member.specs.Asking.{outputs_tree}
use Rattle.check_stmt.proofs.Checked.{refuses_later}
use Rattle.check_stmt.specs.Judging.{Refuses}
use Rattle.check_action.specs.Parts.{around_view}
use Rattle.check_build_action.specs.Building.{BuildsBehind}
use Rattle.check_build_action.proofs.inside.outputs_and_body.Goals as goal

pub returns-in_err-outputs : goal.returns-in_err-outputs
returns-in_err-outputs c =
    let a = c.args.a.now in
    let names = names_view c.args.names.now in
    let around = around_view c.args.parts.now c.args.names.now in
    let f = c.in_err-outputs.field-0.0 in
    let same : c.from_residual.result ≡ Err f = search rules in
    let breaks : Refuses f (outputs_broken (outputs_tree a.outputs.items) around.outs names) = search rules in
    subst (λ r. BuildsBehind r a around names) (sym same)
    (refuses_later f (statement_broken (body_tree a.body) around.procs names) (outputs_broken (outputs_tree a.outputs.items) around.outs names) breaks)
