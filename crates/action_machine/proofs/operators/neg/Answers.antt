use Rattle.std.proofs.Common.{rules, SFits}
use Rattle.rvc_base.specs.Width.{num_width}
use Rattle.rvc_base.specs.Arithmetic.{neg}
use Rattle.action_machine.proofs.Arms.{one}
use Rattle.action_machine.proofs.operators.neg.Goals as goal

pub returns : goal.returns
returns c = λ cells tokens.
    let fa : SFits num_width c.pop-a.result = search rules in
    one neg c.pop-a.result c.neg.result c.push_result.result _ _ _ fa c.pop-a.ensures.operands c.neg.ensures c.push_result.ensures cells
