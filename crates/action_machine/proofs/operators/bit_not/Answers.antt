use Rattle.std.proofs.Common.{rules, SFits}
use Rattle.rvc_base.specs.Width.{num_width}
use Rattle.rvc_base.specs.Arithmetic.{Gives, bit_not}
use Rattle.action_machine.proofs.Arms.{one}
use Rattle.action_machine.proofs.operators.bit_not.Goals as goal

pub returns : goal.returns
returns c = λ cells tokens.
    let fa : SFits num_width c.pop-a.result = search rules in
    one (λ a. Gives (bit_not a)) c.pop-a.result c.bit_not.result c.push_result.result _ _ _ fa c.pop-a.ensures.operands c.bit_not.ensures c.push_result.ensures cells
