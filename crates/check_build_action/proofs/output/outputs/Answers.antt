use Rattle.std.proofs.Common.{subst}
use Rattle.cal_model.specs.View.{output_view}
use Rattle.const_env.specs.Counting.{names_view}
use Rattle.cal_check.specs.Actions.{outputs_on}
use Rattle.check_member.specs.Asking.{outputs_tree, port_views}
use Rattle.check_action.specs.Parts.{JudgesAll}
use Rattle.check_build_action.proofs.OutputSteps.{found_outputs}
use Rattle.check_build_action.proofs.output.outputs.Goals as goal

pub returns-in-Ok : goal.returns-in-Ok
returns-in-Ok c =
    let os = outputs_tree c.args.outputs.now in
    let ports = port_views c.args.outs.now in
    let names = names_view c.args.names.now in
    found_outputs c.outputs_on.result os ports names c.in-Ok.numbers.items c.in-Ok.ensures.numbers c.in-Ok.ensures.checked
    (subst (λ ns. JudgesAll output_view c.outputs_on.result (outputs_on os ns ports names)) c.deref.ensures.value c.outputs_on.ensures)
