use Rattle.std.proofs.Common.{rules, SFits, not}
use Rattle.rvc_base.specs.Width.{num_width}
use Rattle.rvc_base.specs.Arithmetic.{Gives, truth, is_true}
use Rattle.action_machine.proofs.Arms.{one}
use Rattle.action_machine.proofs.operators.not.Goals as goal

pub returns : goal.returns
returns c = λ cells tokens.
    let fa : SFits num_width c.pop-a.result = search rules in
    one (λ a. Gives (truth (not (is_true a)))) c.pop-a.result c.not.result c.push_result.result _ _ _ fa c.pop-a.ensures.operands c.not.ensures c.push_result.ensures cells
