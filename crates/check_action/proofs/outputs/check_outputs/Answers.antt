use Rattle.std.proofs.Common.{sym, subst}
use Rattle.const_env.specs.Counting.{names_view}
use Rattle.cal_check.specs.Actions.{outputs_broken, outputs_on}
use Rattle.cal_check.specs.Ports.{each_asked}
use Rattle.cal_check.specs.Violations.{all_broken, said}
use Rattle.check_member.specs.Asking.{asked_broken, outputs_tree, port_views}
use Rattle.check_stmt.specs.Judging.{Checks, Refuses}
use Rattle.check_action.specs.Faults.{as_kind_fault}
use Rattle.check_action.proofs.Judged.{refuses_as}
use Rattle.check_action.proofs.Said.{found_outputs_said, ports_refused_said}
use Rattle.check_action.proofs.outputs.check_outputs.Goals as goal

pub returns-in-Ok : goal.returns-in-Ok
returns-in-Ok c =
    let os = outputs_tree c.args.outputs.now in
    let names = names_view c.args.names.now in
    let ports = port_views c.args.outs.now in
    found_outputs_said c.args.passes c.outputs_on.result os ports names c.in-Ok.numbers.items c.in-Ok.ensures.numbers c.in-Ok.ensures.checked
    (subst (λ ns. Checks c.outputs_on.result (said c.args.passes (all_broken (outputs_on os ns ports names)))) c.deref.ensures.value c.outputs_on.ensures)

pub returns-in-Err : goal.returns-in-Err
returns-in-Err c =
    let os = outputs_tree c.args.outputs.now in
    let names = names_view c.args.names.now in
    let ports = port_views c.args.outs.now in
    subst (λ f. Refuses f (said c.args.passes (outputs_broken os ports names))) (sym c.as_kind_fault.ensures)
    (ports_refused_said (as_kind_fault c.in-Err.f) c.args.passes (each_asked os) ports (λ ns. all_broken (outputs_on os ns ports names))
    (refuses_as c.in-Err.f (asked_broken (each_asked os) ports) c.in-Err.ensures.checked))
