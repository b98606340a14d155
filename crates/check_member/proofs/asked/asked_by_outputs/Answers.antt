use Rattle.std.proofs.Common.{◌++◌, sym, ap, ◌∙◌}
use Rattle.cal_ast.specs.View.{output_tree}
use Rattle.cal_check.specs.Ports.{asked_by, each_asked}
use Rattle.check_member.specs.Asking.{asked_views, outputs_tree}
use Rattle.check_member.proofs.AskedParts.{asked-next}
use Rattle.check_member.proofs.asked.asked_by_outputs.Goals as goal

pub outputs-preserved : goal.outputs-preserved
outputs-preserved c =
    asked-next c.outputs.asked.items c.push.new.self.items c.asked_for.result (asked_by (output_tree c.in-Some.first.now)) (each_asked (outputs_tree c.in-Some.others.now))
    c.in_ok-push.ensures.items c.asked_for.ensures
    ∙ ap (λ r. asked_views c.outputs.asked.items ++ each_asked (outputs_tree r)) (sym c.in-Some.ensures.cases.0)
    ∙ c.outputs.invariant
