use Rattle.std.proofs.Common.{◌++◌, sym, ap, ◌∙◌}
use Rattle.cal_ast.specs.View.{pattern_tree}
use Rattle.cal_check.specs.Ports.{asked_by, each_asked}
use Rattle.check_member.specs.Asking.{asked_views, patterns_tree}
use Rattle.check_member.proofs.AskedParts.{asked-next}
use Rattle.check_member.proofs.asked.asked_by_patterns.Goals as goal

pub patterns-preserved : goal.patterns-preserved
patterns-preserved c =
    asked-next c.patterns.asked.items c.push.new.self.items c.asked_for.result (asked_by (pattern_tree c.in-Some.first.now)) (each_asked (patterns_tree c.in-Some.others.now))
    c.in_ok-push.ensures.items c.asked_for.ensures
    ∙ ap (λ r. asked_views c.patterns.asked.items ++ each_asked (patterns_tree r)) (sym c.in-Some.ensures.cases.0)
    ∙ c.patterns.invariant
