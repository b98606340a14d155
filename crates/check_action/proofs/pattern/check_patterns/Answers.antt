use Rattle.std.proofs.Common.{Err, sym, subst}
use Rattle.cal_model.specs.View.{pattern_view}
use Rattle.const_env.specs.Counting.{names_view}
use Rattle.cal_check.specs.Actions.{patterns_on}
use Rattle.cal_check.specs.Ports.{each_asked}
use Rattle.cal_check.specs.Violations.{all_broken}
use Rattle.check_member.specs.Asking.{asked_broken, patterns_tree, port_views}
use Rattle.check_action.specs.Faults.{as_kind_fault}
use Rattle.check_action.specs.Parts.{FindsPatternsSaid, JudgesAllSaid}
use Rattle.check_action.proofs.Judged.{refuses_as}
use Rattle.check_action.proofs.Said.{found_patterns_said, ports_refused_said}
use Rattle.check_action.proofs.pattern.check_patterns.Goals as goal

pub returns-in-Ok : goal.returns-in-Ok
returns-in-Ok c =
    let ps = patterns_tree c.args.patterns.now in
    let names = names_view c.args.names.now in
    found_patterns_said c.args.passes c.check_on.result ps (port_views c.args.ins.now) names c.in-Ok.numbers.items c.in-Ok.ensures.numbers c.in-Ok.ensures.checked
    (subst (λ ns. JudgesAllSaid c.args.passes pattern_view c.check_on.result (patterns_on ps ns names)) c.deref.ensures.value c.check_on.ensures)

pub returns-in-Err : goal.returns-in-Err
returns-in-Err c =
    let ps = patterns_tree c.args.patterns.now in
    let names = names_view c.args.names.now in
    let ports = port_views c.args.ins.now in
    subst (λ f. FindsPatternsSaid c.args.passes (Err f) ps ports names) (sym c.as_kind_fault.ensures)
    (ports_refused_said (as_kind_fault c.in-Err.f) c.args.passes (each_asked ps) ports (λ ns. all_broken (patterns_on ps ns names))
    (refuses_as c.in-Err.f (asked_broken (each_asked ps) ports) c.in-Err.ensures.checked))
