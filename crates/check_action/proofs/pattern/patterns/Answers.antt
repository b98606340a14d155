use Rattle.std.proofs.Common.{subst}
use Rattle.cal_model.specs.View.{pattern_view}
use Rattle.const_env.specs.Counting.{names_view}
use Rattle.cal_check.specs.Actions.{patterns_on}
use Rattle.check_member.specs.Asking.{patterns_tree, port_views}
use Rattle.check_action.specs.Parts.{JudgesAll}
use Rattle.check_action.proofs.Walks.{found_patterns}
use Rattle.check_action.proofs.pattern.patterns.Goals as goal

pub returns-in-Ok : goal.returns-in-Ok
returns-in-Ok c =
    let ps = patterns_tree c.args.patterns.now in
    let names = names_view c.args.names.now in
    found_patterns c.patterns_on.result ps (port_views c.args.ins.now) names c.in-Ok.numbers.items c.in-Ok.ensures.numbers c.in-Ok.ensures.checked
    (subst (λ ns. JudgesAll pattern_view c.patterns_on.result (patterns_on ps ns names)) c.deref.ensures.value c.patterns_on.ensures)
