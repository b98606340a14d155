use Rattle.std.proofs.Common.{◌≡◌, Err, ◌∷◌, ◌++◌, map, sym, ap, subst, ◌∙◌, rules}
use Rattle.cal_ast.specs.View.{output_tree}
use Rattle.cal_model.specs.Kinding.{Fine}
use Rattle.cal_model.specs.Selection.{kind_of_port}
use Rattle.cal_model.specs.View.{output_view}
use Rattle.const_env.specs.Counting.{names_view}
use Rattle.const_env.specs.Judging.{Breaks}
use Rattle.cal_check.specs.Actions.{output_judged, outputs_on}
use Rattle.check_member.specs.Asking.{outputs_tree, port_views}
use Rattle.check_action.specs.Parts.{JudgesAll}
use Rattle.check_build_action.proofs.Each.{each_breaks}
use Rattle.check_build_action.proofs.output.outputs_on.Goals as goal

pub returns-in_err-next : goal.returns-in_err-next
returns-in_err-next c =
    let names = names_view c.args.names.now in
    let ports = port_views c.args.outs.now in
    let found = map output_view c.outputs.found.items in
    let whole = outputs_on (outputs_tree c.args.outputs.now) c.args.numbers.now ports names in
    let number = c.in-Some-split_first.number.now in
    let first = output_tree c.in-Some.first.now in
    let same : c.from_residual.result ≡ Err c.in_err-next.field-0.0 = search rules in
    let breaks : Breaks c.in_err-next.field-0.0 (output_judged first number (kind_of_port ports number) names) = search rules in
    subst (λ r. JudgesAll output_view r whole) (sym same)
    (each_breaks c.in_err-next.field-0.0 whole found (output_judged first number (kind_of_port ports number) names)
    (outputs_on (outputs_tree c.in-Some.others.now) c.in-Some-split_first.later.now ports names) breaks
    (c.outputs.invariant
    ∙ ap (λ os. map Fine found ++ outputs_on (outputs_tree os) c.outputs.left.now ports names) c.in-Some.ensures.cases.0
    ∙ ap (λ ns. map Fine found ++ outputs_on (outputs_tree (c.in-Some.first.now ∷ c.in-Some.others.now)) ns ports names) c.in-Some-split_first.ensures.cases.0))
